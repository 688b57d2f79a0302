-- In free mode, where no member set anything and nothing is held, the limits of a product do not rest on its network.
use Rattle.std.proofs.Common.{◌≡◌, ℕ, zero, suc, ◌==◌, ◌++◌, max, Bool, true, false, List, [], ◌∷◌, length, Option, None, refl, sym, ap, ◌∙◌, subst, arith}
use Rattle.std.proofs.Math.Nat.{min-le_right}
use Rattle.std.proofs.lemmas.Bool.{eqb-true}
use Rattle.network_laws.specs.Networks.{NetworkData, IsNetwork, at}
use Rattle.network_laws.specs.Limits.{LimitsData}
use Rattle.network_laws.specs.declared.rows.LimitRow.{LimitRow}
use Rattle.command_types.specs.Books.{listed_below}
use Rattle.command_types.specs.declared.cycle.Mode.TheVariants.{Free}
use Rattle.command_types.specs.declared.roster.MemberRow.{MemberRow}
use Rattle.command_types.specs.Roster.{Rows}
use Rattle.command_types.specs.Tolerances.{limit_row, may_grow, pair_ceiling, pair_floor, pair_limit, pair_lower, pair_upper}
use Rattle.tolerance_sets.specs.OpenPairs.{boundless, open_row}
use Rattle.tolerance_sets.proofs.OpenPairs.{none_owed}
use Rattle.file_market.specs.Market.{empty_network, market_limits}

own_row : (i j now low : ℕ) (ceiling : Option ℕ) (grows : Bool) → now ≡ 0 → grows ≡ false → limit_row i j low (pair_upper grows now ceiling) ≡ []
own_row i j now low ceiling grows e e' = rw (e, e') refl

other_row : (i j now low : ℕ) (ceiling : Option ℕ) (grows : Bool) → low ≡ 0 → ceiling ≡ None → grows ≡ true → limit_row i j low (pair_upper grows now ceiling) ≡ boundless i j ∷ []
other_row i j now low ceiling grows e e' e'' = rw (e, e', e'') refl

grows_apart : (members : List MemberRow) (i j : ℕ) → (i == j) ≡ false → may_grow Free members i j ≡ true
grows_apart members i j e = rw e refl

stays_own : (members : List MemberRow) (i j : ℕ) → (i == j) ≡ true → may_grow Free members i j ≡ false
stays_own members i j e = rw e refl

pub none_kept : (now floor held : ℕ) → max floor held ≡ 0 → pair_lower now floor held ≡ 0
none_kept now floor held none = omega (arith, min-le_right now (max floor held), none)

-- the row of each pair
row_is_open : (rows : Rows) (product : ℕ) (network : NetworkData) (i j : ℕ) → at network i i ≡ 0 → pair_limit Free rows.members [] product network (empty_network rows) i j ≡ open_row i j
row_is_open rows product network i j none = by (i == j) refl
  where
    now : ℕ
    now = at network i j

    ceiling : Option ℕ
    ceiling = pair_ceiling [] product i j

    low : ℕ
    low = pair_lower now (pair_floor [] product i j) (at (empty_network rows) i j)

    by : (same : Bool) → (i == j) ≡ same → pair_limit Free rows.members [] product network (empty_network rows) i j ≡ open_row i j
    by true e =
        own_row i j now low ceiling (may_grow Free rows.members i j) (subst (λ k. at network i k ≡ 0) (eqb-true i j e) none) (stays_own rows.members i j e) ∙ sym (rw e refl)
    by false e =
        other_row i j now low ceiling (may_grow Free rows.members i j) (none_kept now (pair_floor [] product i j) (at (empty_network rows) i j) refl) refl (grows_apart rows.members i j e) ∙ sym (rw e refl)

pub listed_same : (n : ℕ) (f g : ℕ → List LimitRow) → ((k : ℕ) → f k ≡ g k) → listed_below n f ≡ listed_below n g
listed_same zero f g each = refl
listed_same (suc n) f g each = ap (λ xs. xs ++ f n) (listed_same n f g each) ∙ ap (λ xs. listed_below n g ++ xs) (each n)

abbrev open_limits : Rows → LimitsData
open_limits rows = record { members = length rows.members; rows = listed_below (length rows.members) (λ i. listed_below (length rows.members) (open_row i)) }

limits_are_open : (rows : Rows) (product : ℕ) (network : NetworkData) → IsNetwork network → market_limits rows Free product network ≡ open_limits rows
limits_are_open rows product network good =
    let n : ℕ = length rows.members in
    let row : ℕ → ℕ → List LimitRow = pair_limit Free rows.members [] product network (empty_network rows) in
    ap (λ (xs : List LimitRow). record { members = n; rows = xs })
    (listed_same n (λ i. listed_below n (row i)) (λ i. listed_below n (open_row i))
    (λ i. listed_same n (row i) (open_row i) (λ j. row_is_open rows product network i j (none_owed network.members network.rows good.few good.rows.good i))))

-- those of any two products
pub free_limits_same : (rows : Rows) (product other : ℕ) (network network' : NetworkData) → IsNetwork network → IsNetwork network' → market_limits rows Free product network ≡ market_limits rows Free other network'
free_limits_same rows product other network network' good good' = limits_are_open rows product network good ∙ sym (limits_are_open rows other network' good')
