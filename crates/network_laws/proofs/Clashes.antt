-- The first clash: what no clash says, and where the first is.
use Rattle.std.proofs.Common.{◌≡◌, ◌≢◌, ℕ, zero, suc, ◌+◌, ◌<◌, ◌≤◌, Bool, true, false, cond, ltb, ◌&&◌, Option, Some, None, ℤ, pos, ◌≤ℤ◌, refl, sym, ap, ◌∙◌, add-one, arith, ⊎_elim}
use Rattle.std.specs.Option.{option_or}
use Rattle.std.specs.Int.{is_negative, is_positive}
use Rattle.std.specs.Ordering.{int_eq}
use Rattle.std.proofs.lemmas.Bool.{cases_eq, both_ways, lt-ltb}
use Rattle.std.proofs.lemmas.Int.{ints}
use Rattle.std.proofs.lemmas.Option.{none-some}
use Rattle.network_laws.specs.declared.clash.Clash.{Clash}
use Rattle.network_laws.specs.declared.clash.Clash.TheVariants.{Below, Above, Net, Open, Slack}
use Rattle.network_laws.specs.Networks.{at, net}
use Rattle.network_laws.specs.Limits.{lower, upper, IsWithin, IsBelow, IsCertified, reduced}
use Rattle.network_laws.specs.Clash.{first_below, first_pair, is_above, is_below, bounds_clash, price_clash, pair_bounds_clash, net_clash, pair_price_clash, first_clash}
use Rattle.network_laws.specs.Laws.{NoClashIsCertified}

pub option_or-none : (o p : Option Clash) → option_or o p ≡ None → (o ≡ None) × (p ≡ None)
option_or-none None p h = (refl, h)
option_or-none (Some c) p h = absurd (none-some c (sym h))

pub none-option_or : (o p : Option Clash) → o ≡ None → p ≡ None → option_or o p ≡ None
none-option_or o p e e' = ap (λ x. option_or x p) e ∙ e'

pub first_below-next : (n : ℕ) (f : ℕ → Option Clash) → first_below (n + 1) f ≡ option_or (first_below n f) (f n)
first_below-next n f = rw add-one refl

pub first_below-none : (n : ℕ) (f : ℕ → Option Clash) → ((i : ℕ) → i < n → f i ≡ None) → first_below n f ≡ None
first_below-none zero f h = refl
first_below-none (suc n) f h = none-option_or (first_below n f) (f n) (first_below-none n f (λ i l. h i (omega arith))) (h n (omega arith))

pub none_below : (n : ℕ) (f : ℕ → Option Clash) → first_below n f ≡ None → (i : ℕ) → i < n → f i ≡ None
none_below zero f h i l = absurd (omega arith)
none_below (suc n) f h i l =
    let parts = option_or-none (first_below n f) (f n) h in
    ⊎_elim (λ (e : i ≡ n). ap f e ∙ parts.1) (λ (ne : i ≢ n). none_below n f parts.0 i (omega arith)) (cases_eq i n)

-- the first is where nothing was before
pub first_below-found : (n k : ℕ) (f : ℕ → Option Clash) (c : Clash) → k < n → first_below k f ≡ None → f k ≡ Some c → first_below n f ≡ Some c
first_below-found zero k f c l before here = absurd (omega arith)
first_below-found (suc n) k f c l before here =
    ⊎_elim (λ (e : k ≡ n). ap (λ m. option_or (first_below m f) (f n)) (sym e) ∙ ap (λ o. option_or o (f n)) before ∙ ap f (sym e) ∙ here)
    (λ (ne : k ≢ n). ap (λ o. option_or o (f n)) (first_below-found n k f c (omega arith) before here))
    (cases_eq k n)

pub first_below-step : (n : ℕ) (f : ℕ → Option Clash) → first_below n f ≡ None → f n ≡ None → first_below (n + 1) f ≡ None
first_below-step n f h here = first_below-next n f ∙ none-option_or (first_below n f) (f n) h here

some_clash : (b : Bool) (c : Clash) (o : Option Clash) → cond b (Some c) o ≡ None → (b ≡ false) × (o ≡ None)
some_clash true c o h = absurd (none-some c (sym h))
some_clash false c o h = (refl, h)

no_clash : (b : Bool) (c : Clash) (o : Option Clash) → b ≡ false → o ≡ None → cond b (Some c) o ≡ None
no_clash b c o e e' = ap (λ x. cond x (Some c) o) e ∙ e'

above_no : (z : ℕ) (high : Option ℕ) → is_above z high ≡ false → IsWithin z high
above_no z None h = tt
above_no z (Some most) h = grind arith

above_from : (z : ℕ) (high : Option ℕ) → IsWithin z high → is_above z high ≡ false
above_from z None h = refl
above_from z (Some most) h = grind arith

below_yes : (z : ℕ) (high : Option ℕ) → IsBelow z high → is_below z high ≡ true
below_yes z None h = refl
below_yes z (Some most) h = lt-ltb z most h

below_from : (z : ℕ) (high : Option ℕ) → is_below z high ≡ true → IsBelow z high
below_from z None h = tt
below_from z (Some most) h = grind arith

pub bounds_clash-none : (i j z low : ℕ) (high : Option ℕ) → bounds_clash i j z low high ≡ None → (low ≤ z) × IsWithin z high
bounds_clash-none i j z low high h =
    let first = some_clash (ltb z low) (Below i j) (cond (is_above z high) (Some (Above i j)) None) h in
    let second = some_clash (is_above z high) (Above i j) None first.1 in
    (grind (arith, first.0), above_no z high second.0)

pub none-bounds_clash : (i j z low : ℕ) (high : Option ℕ) → low ≤ z → IsWithin z high → bounds_clash i j z low high ≡ None
none-bounds_clash i j z low high le within =
    no_clash (ltb z low) (Below i j) (cond (is_above z high) (Some (Above i j)) None) (grind arith) (no_clash (is_above z high) (Above i j) None (above_from z high within) refl)

both_false : (a b : Bool) → (a && b) ≡ false → a ≡ true → b ≡ false
both_false true b h e = h
both_false false b h e = absurd (both_ways false refl e)

and_false : (a b : Bool) → (a ≡ true → b ≡ false) → (a && b) ≡ false
and_false true b h = h refl
and_false false b h = refl

not_negative : (r : ℤ) → is_negative r ≡ false → pos 0 ≤ℤ r
not_negative r h = grind (arith, ints)

not_positive : (r : ℤ) → is_positive r ≡ false → r ≤ℤ pos 0
not_positive r h = grind (arith, ints)

negative_no : (r : ℤ) → pos 0 ≤ℤ r → is_negative r ≡ false
negative_no r h = grind (arith, ints)

positive_no : (r : ℤ) → r ≤ℤ pos 0 → is_positive r ≡ false
positive_no r h = grind (arith, ints)

pub price_clash-none : (i j z low : ℕ) (high : Option ℕ) (r : ℤ) → price_clash i j z low high r ≡ None → (IsBelow z high → pos 0 ≤ℤ r) × (low < z → r ≤ℤ pos 0)
price_clash-none i j z low high r h =
    let first = some_clash (is_below z high && is_negative r) (Open i j) (cond (ltb low z && is_positive r) (Some (Slack i j)) None) h in
    let second = some_clash (ltb low z && is_positive r) (Slack i j) None first.1 in
    ((λ below. not_negative r (both_false (is_below z high) (is_negative r) first.0 (below_yes z high below))), (λ above. not_positive r (both_false (ltb low z) (is_positive r) second.0 (lt-ltb low z above))))

pub none-price_clash : (i j z low : ℕ) (high : Option ℕ) (r : ℤ) → (IsBelow z high → pos 0 ≤ℤ r) → (low < z → r ≤ℤ pos 0) → price_clash i j z low high r ≡ None
none-price_clash i j z low high r grow fall =
    no_clash (is_below z high && is_negative r) (Open i j) (cond (ltb low z && is_positive r) (Some (Slack i j)) None)
    (and_false (is_below z high) (is_negative r) (λ e. negative_no r (grow (below_from z high e))))
    (no_clash (ltb low z && is_positive r) (Slack i j) None (and_false (ltb low z) (is_positive r) (λ e. positive_no r (fall (grind arith)))) refl)

same_net : (x y : ℤ) (c : Clash) → cond (int_eq x y) None (Some c) ≡ None → x ≡ y
same_net x y c h = by (int_eq x y) refl h
  where
    by : (t : Bool) → int_eq x y ≡ t → cond t None (Some c) ≡ None → x ≡ y
    by true e h = grind (arith, ints)
    by false e h = absurd (none-some c (sym h))

none_same : (x y : ℤ) (c : Clash) → x ≡ y → cond (int_eq x y) None (Some c) ≡ None
none_same x y c e = by (int_eq x y) refl
  where
    by : (t : Bool) → int_eq x y ≡ t → cond t None (Some c) ≡ None
    by true e' = refl
    by false e' = absurd (grind (arith, ints, e))

-- no pair has one exactly where the search over pairs finds none
pub none_of_pairs : (n : ℕ) (f : ℕ → ℕ → Option Clash) → first_pair n f ≡ None → (i j : ℕ) → i < n → j < n → f i j ≡ None
none_of_pairs n f h i j in_i in_j = none_below n (f i) (none_below n (λ i. first_below n (f i)) h i in_i) j in_j

pub first_pair-none : (n : ℕ) (f : ℕ → ℕ → Option Clash) → ((i j : ℕ) → i < n → j < n → f i j ≡ None) → first_pair n f ≡ None
first_pair-none n f h = first_below-none n (λ i. first_below n (f i)) (λ i in_i. first_below-none n (f i) (λ j in_j. h i j in_i in_j))

pub no_clash_is_certified : NoClashIsCertified
no_clash_is_certified limits old new p limit_members new_members = (there, back)
  where
    there : first_clash limits old new p ≡ None → IsCertified limits old new p
    there h =
        let n = old.members in
        let outer = option_or-none (first_pair n (pair_bounds_clash limits new)) (option_or (first_below n (net_clash old new)) (first_pair n (pair_price_clash limits new p))) h in
        let inner = option_or-none (first_below n (net_clash old new)) (first_pair n (pair_price_clash limits new p)) outer.1 in
        let bounds = λ (i : ℕ) (j : ℕ) (in_i : i < n) (in_j : j < n). bounds_clash-none i j (at new i j) (lower limits i j) (upper limits i j) (none_of_pairs n (pair_bounds_clash limits new) outer.0 i j in_i in_j) in
        let prices = λ (i : ℕ) (j : ℕ) (in_i : i < n) (in_j : j < n). price_clash-none i j (at new i j) (lower limits i j) (upper limits i j) (reduced p i j) (none_of_pairs n (pair_price_clash limits new p) inner.1 i j in_i in_j) in
        record {
          admissible = record {
            limit_members = limit_members;
            new_members = new_members;
            within = record {
              above = λ i j in_i in_j. (bounds i j (omega (arith, new_members)) (omega (arith, new_members))).0;
              below = λ i j in_i in_j. (bounds i j (omega (arith, new_members)) (omega (arith, new_members))).1;
            };
            nets = λ i in_i. same_net (net new i) (net old i) (Net i) (none_below n (net_clash old new) inner.0 i in_i);
          };
          growing = λ i j in_i in_j. (prices i j in_i in_j).0;
          falling = λ i j in_i in_j. (prices i j in_i in_j).1;
        }

    back : IsCertified limits old new p → first_clash limits old new p ≡ None
    back c =
        let n = old.members in
        let a = c.admissible in
        none-option_or (first_pair n (pair_bounds_clash limits new)) (option_or (first_below n (net_clash old new)) (first_pair n (pair_price_clash limits new p)))
        (first_pair-none n (pair_bounds_clash limits new) (λ i j in_i in_j. none-bounds_clash i j (at new i j) (lower limits i j) (upper limits i j) (a.within.above i j (omega (arith, new_members)) (omega (arith, new_members))) (a.within.below i j (omega (arith, new_members)) (omega (arith, new_members)))))
        (none-option_or (first_below n (net_clash old new)) (first_pair n (pair_price_clash limits new p))
        (first_below-none n (net_clash old new) (λ i in_i. none_same (net new i) (net old i) (Net i) (a.nets i in_i)))
        (first_pair-none n (pair_price_clash limits new p) (λ i j in_i in_j. none-price_clash i j (at new i j) (lower limits i j) (upper limits i j) (reduced p i j) (c.growing i j in_i in_j) (c.falling i j in_i in_j))))
