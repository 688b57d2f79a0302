-- Pairs that may come to any amount: their rows, and the rows so far.
use Rattle.std.proofs.Common.{◌≡◌, ℕ, zero, suc, ◌+◌, ◌-◌, ◌<◌, ◌≤◌, ◌==◌, ◌++◌, max, Bool, true, false, List, [], ◌∷◌, Option, None, refl, sym, ap, ◌∙◌, subst, arith}
use Rattle.std.specs.Prelude.{not, All, if◌then◌else◌}
use Rattle.std.proofs.Math.Nat.{min-le_left, min-le_right}
use Rattle.std.proofs.lemmas.Bool.{eqb-true}
use Rattle.std.proofs.lemmas.List.{append_assoc, append-nil}
use Rattle.network_laws.specs.declared.rows.LimitRow.{LimitRow}
use Rattle.network_laws.specs.declared.rows.Row.{Row}
use Rattle.network_laws.specs.Networks.{amount_in, IsGoodRow}
use Rattle.network_laws.proofs.RowOrder.{amount_none}
use Rattle.command_types.specs.Books.{listed_below}
use Rattle.command_types.specs.declared.cycle.Mode.{Mode}
use Rattle.command_types.specs.declared.cycle.Mode.TheVariants.{Free}
use Rattle.command_types.specs.declared.roster.MemberRow.{MemberRow}
use Rattle.command_types.specs.Tolerances.{may_grow, limit_row, pair_lower, pair_upper, pair_floor, pair_ceiling}
use Rattle.tolerance_sets.specs.declared.limits.Market.{Market}
use Rattle.tolerance_sets.specs.Market.{market_limit}
use Rattle.tolerance_sets.specs.OpenPairs.{IsUnbounded, IsUntouched, boundless, open_row, listed_from}

none_kept : (floor held : ℕ) → pair_lower 0 floor held ≡ 0
none_kept floor held = omega (arith, min-le_left 0 (max floor held))

free_grows : (mode : Mode) (members : List MemberRow) (i j : ℕ) (same : Bool) → mode ≡ Free → (i == j) ≡ same → may_grow mode members i j ≡ not same
free_grows mode members i j true e e' = rw (e, e') refl
free_grows mode members i j false e e' = rw (e, e') refl

free_row : (i j now floor held : ℕ) (ceiling : Option ℕ) (grows same : Bool) → now ≡ 0 → ceiling ≡ None → grows ≡ not same →
    limit_row i j (pair_lower now floor held) (pair_upper grows now ceiling) ≡ (if same then [] else boundless i j ∷ [])
free_row i j now floor held ceiling grows true e e' e'' = rw (e, e', e'') refl
free_row i j now floor held ceiling grows false e e' e'' = rw (e, e', e'', none_kept floor held) refl

-- the row of a pair without trades
pub open_limit : (market : Market) (i j : ℕ) → IsUnbounded market → amount_in market.network.now i j ≡ 0 → market_limit market i j ≡ open_row i j
open_limit market i j unbounded none =
    free_row i j (amount_in market.network.now i j) (pair_floor market.settings.now.settings market.product i j) (amount_in market.held.now i j) (pair_ceiling market.settings.now.settings market.product i j) (may_grow market.mode market.members.now i j) (i == j) none (unbounded.ceilings i j)
    (free_grows market.mode market.members.now i j (i == j) unbounded.mode refl)

nothing_kept : (now floor held : ℕ) → floor ≡ 0 → held ≡ 0 → pair_lower now floor held ≡ 0
nothing_kept now floor held e e' =
    let none : max floor held ≡ 0 = rw (e, e') refl in
    omega (arith, min-le_right now (max floor held), none)

boundless_row : (i j now floor held : ℕ) (ceiling : Option ℕ) (grows : Bool) → pair_lower now floor held ≡ 0 → ceiling ≡ None → grows ≡ true →
    limit_row i j (pair_lower now floor held) (pair_upper grows now ceiling) ≡ boundless i j ∷ []
boundless_row i j now floor held ceiling grows e e' e'' = rw (e, e', e'') refl

-- the row of any pair, where nothing keeps an amount from falling
pub untouched_limit : (market : Market) (i j : ℕ) → IsUnbounded market → IsUntouched market → amount_in market.network.now i i ≡ 0 → market_limit market i j ≡ open_row i j
untouched_limit market i j unbounded untouched none = by (i == j) refl
  where
    now : ℕ
    now = amount_in market.network.now i j

    floor : ℕ
    floor = pair_floor market.settings.now.settings market.product i j

    by : (same : Bool) → (i == j) ≡ same → market_limit market i j ≡ open_row i j
    by true e = open_limit market i j unbounded (subst (λ k. amount_in market.network.now i k ≡ 0) (eqb-true i j e) none)
    by false e =
        let low = nothing_kept now floor (amount_in market.held.now i j) (ap (λ s. pair_floor s market.product i j) untouched.settings) (ap (λ rows. amount_in rows i j) untouched.held) in
        boundless_row i j now floor (amount_in market.held.now i j) (pair_ceiling market.settings.now.settings market.product i j) (may_grow market.mode market.members.now i j) low (unbounded.ceilings i j) (free_grows market.mode market.members.now i j false unbounded.mode e)
        ∙ sym (rw e refl)

listed_more : (from n : ℕ) (f g : ℕ → List LimitRow) → ((k : ℕ) → from ≤ k → k < from + n → f k ≡ g k) → listed_below (from + n) f ≡ listed_below from f ++ listed_from from n g
listed_more from zero f g same = let e : from + 0 ≡ from = omega arith in ap (λ k. listed_below k f) e ∙ sym (append-nil (listed_below from f))
listed_more from (suc n) f g same =
    let e : from + suc n ≡ suc (from + n) = omega arith in
    ap (λ k. listed_below k f) e
    ∙ ap (λ xs. xs ++ f (from + n)) (listed_more from n f g (λ k le l. same k le (omega (arith, l))))
    ∙ ap (λ xs. (listed_below from f ++ listed_from from n g) ++ xs) (same (from + n) (omega arith) (omega arith))
    ∙ append_assoc (listed_below from f) (listed_from from n g) (g (from + n))

-- the rows up to a buyer, where the pairs behind an earlier one are without trades
pub open_up_to : (start before after : List LimitRow) (f g : ℕ → List LimitRow) (from to : ℕ) → from ≤ to → ((k : ℕ) → from ≤ k → k < to → f k ≡ g k) → before ≡ start ++ listed_below from f → after ≡ before ++ listed_from from (to - from) g → after ≡ start ++ listed_below to f
open_up_to start before after f g from to le same e e' =
    let up : from + (to - from) ≡ to = omega (arith, le) in
    e' ∙ ap (λ xs. xs ++ listed_from from (to - from) g) e ∙ append_assoc start (listed_below from f) (listed_from from (to - from) g)
    ∙ ap (λ xs. start ++ xs) (sym (listed_more from (to - from) f g (λ k lk l. same k lk (omega (arith, l, up)))) ∙ ap (λ k. listed_below k f) up)

-- the rows of all buyers of a seller
pub all_open : (f g : ℕ → List LimitRow) (n : ℕ) → ((k : ℕ) → k < n → f k ≡ g k) → listed_from 0 (n - 0) g ≡ listed_below n f
all_open f g n same =
    let e : n - 0 ≡ n = omega arith in
    let e' : 0 + n ≡ n = omega arith in
    ap (λ k. listed_from 0 k g) e ∙ sym (listed_more 0 n f g (λ k le l. same k (omega (arith, l)))) ∙ ap (λ k. listed_below k f) e'

-- nobody is a good row's seller and buyer
pub none_owed : (n : ℕ) (rows : List Row) → n ≤ 256 → All (IsGoodRow n) rows → (i : ℕ) → amount_in rows i i ≡ 0
none_owed n rows few good i =
    amount_none rows i i (λ k d l e.
    let row = good k d l in
    row.different (omega (arith, e, few, row.seller, row.buyer)))
