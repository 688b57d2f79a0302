-- A member finds no clash exactly where the network is certified for it.
use Rattle.std.proofs.Common.{◌≡◌, ℕ, ◌<◌, Bool, true, false, cond, int_eq, Option, Some, None, List, ℤ, refl, sym, ap, ◌∙◌, arith, ◌↔◌}
use Rattle.std.specs.Option.{option_or, IsNone}
use Rattle.std.proofs.lemmas.Bool.{both_ways}
use Rattle.std.proofs.lemmas.Int.{ints}
use Rattle.std.proofs.lemmas.Option.{none-some}
use Rattle.network_laws.specs.declared.clash.Clash.{Clash}
use Rattle.network_laws.specs.declared.clash.Clash.TheVariants.{Net}
use Rattle.network_laws.specs.Networks.{NetworkData, at, net}
use Rattle.network_laws.specs.Limits.{LimitsData, lower, upper, reduced}
use Rattle.network_laws.specs.Clash.{first_below, pair_bounds_clash, net_clash, pair_price_clash}
use Rattle.network_laws.proofs.Clashes.{option_or-none, none-option_or, first_below-none, none_below, bounds_clash-none, none-bounds_clash, price_clash-none, none-price_clash}
use Rattle.dual_certificate.specs.Own.{IsPairCertified, IsCertifiedFor, own_pair, first_own_clash}
use Rattle.dual_certificate.specs.OwnLaws.{NoOwnClashIsCertified}

-- a net position that stays has no clash, and one that does not has one
same_net : (x y : ℤ) (c : Clash) → cond (int_eq x y) None (Some c) ≡ None → x ≡ y
same_net x y c h = by (int_eq x y) refl h
  where
    by : (t : Bool) → int_eq x y ≡ t → cond t None (Some c) ≡ None → x ≡ y
    by true e h = grind (arith, ints)
    by false e h = absurd (none-some c (sym h))

none_same : (x y : ℤ) (c : Clash) → x ≡ y → cond (int_eq x y) None (Some c) ≡ None
none_same x y c e = by (int_eq x y) refl
  where
    by : (t : Bool) → int_eq x y ≡ t → cond t None (Some c) ≡ None
    by true e' = refl
    by false e' = absurd (grind (arith, ints, e))

pub no_own_clash_is_certified : NoOwnClashIsCertified
no_own_clash_is_certified limits old new p m = (there, back)
  where
    n : ℕ
    n = old.members

    bounds : ℕ → Option Clash
    bounds = own_pair (pair_bounds_clash limits new) m

    prices : ℕ → Option Clash
    prices = own_pair (pair_price_clash limits new p) m

    there : first_own_clash limits old new p m ≡ None → IsCertifiedFor limits old new p m
    there h =
        let outer = option_or-none (first_below n bounds) (option_or (net_clash old new m) (first_below n prices)) h in
        let inner = option_or-none (net_clash old new m) (first_below n prices) outer.1 in
        let bound = λ (k : ℕ) (l : k < n). option_or-none (pair_bounds_clash limits new m k) (pair_bounds_clash limits new k m) (none_below n bounds outer.0 k l) in
        let price = λ (k : ℕ) (l : k < n). option_or-none (pair_price_clash limits new p m k) (pair_price_clash limits new p k m) (none_below n prices inner.1 k l) in
        record {
          selling = λ j l. of_pair m j (bound j l).0 (price j l).0;
          buying = λ i l. of_pair i m (bound i l).1 (price i l).1;
          keeping = same_net (net new m) (net old m) (Net m) inner.0;
        }
      where
        of_pair : (i j : ℕ) → pair_bounds_clash limits new i j ≡ None → pair_price_clash limits new p i j ≡ None → IsPairCertified limits new p i j
        of_pair i j b r =
            let within = bounds_clash-none i j (at new i j) (lower limits i j) (upper limits i j) b in
            let slack = price_clash-none i j (at new i j) (lower limits i j) (upper limits i j) (reduced p i j) r in
            record { above = within.0; below = within.1; growing = slack.0; falling = slack.1 }

    back : IsCertifiedFor limits old new p m → first_own_clash limits old new p m ≡ None
    back c =
        none-option_or (first_below n bounds) (option_or (net_clash old new m) (first_below n prices))
        (first_below-none n bounds (λ k l. none-option_or (pair_bounds_clash limits new m k) (pair_bounds_clash limits new k m) (bound m k (c.selling k l)) (bound k m (c.buying k l))))
        (none-option_or (net_clash old new m) (first_below n prices)
        (none_same (net new m) (net old m) (Net m) c.keeping)
        (first_below-none n prices (λ k l. none-option_or (pair_price_clash limits new p m k) (pair_price_clash limits new p k m) (price m k (c.selling k l)) (price k m (c.buying k l)))))
      where
        bound : (i j : ℕ) → IsPairCertified limits new p i j → pair_bounds_clash limits new i j ≡ None
        bound i j pair = none-bounds_clash i j (at new i j) (lower limits i j) (upper limits i j) pair.above pair.below

        price : (i j : ℕ) → IsPairCertified limits new p i j → pair_price_clash limits new p i j ≡ None
        price i j pair = none-price_clash i j (at new i j) (lower limits i j) (upper limits i j) (reduced p i j) pair.growing pair.falling

module _ (limits : LimitsData) (old new : NetworkData) (p : List ℤ) (m : ℕ) where
  pub own_iff : (r : Option Clash) → r ≡ first_own_clash limits old new p m → IsNone r ↔ IsCertifiedFor limits old new p m
  own_iff None e =
      let law = no_own_clash_is_certified limits old new p m in
      ((λ _. law.0 (sym e)), (λ _. refl))
  own_iff (Some c) e =
      let law = no_own_clash_is_certified limits old new p m in
      ((λ h. absurd (both_ways true h refl)), (λ certified. absurd (none-some c (sym (e ∙ law.1 certified)))))

  pub first_of_own_bounds : (r : Option Clash) (c : Clash) → new.members ≡ old.members → r ≡ first_below new.members (own_pair (pair_bounds_clash limits new) m) → r ≡ Some c → Some c ≡ first_own_clash limits old new p m
  first_of_own_bounds r c members e is =
      sym (ap (λ o. option_or o (option_or (net_clash old new m) (first_below old.members (own_pair (pair_price_clash limits new p) m)))) (ap (λ n. first_below n (own_pair (pair_bounds_clash limits new) m)) (sym members) ∙ sym e ∙ is))

-- what the tests of the two pairs find together
pub own_pair_found : (f : ℕ → ℕ → Option Clash) (m k : ℕ) (a b r : Option Clash) → a ≡ f m k → b ≡ f k m → r ≡ option_or a b → own_pair f m k ≡ r
own_pair_found f m k a b r e_a e_b e = sym (e ∙ ap (λ x. option_or x b) e_a ∙ ap (option_or (f m k)) e_b)
