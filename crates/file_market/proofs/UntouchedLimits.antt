-- The rows of pairs where no member set anything and nothing is held.
use Rattle.std.proofs.Common.{◌≡◌, ℕ, ◌≤◌, ◌==◌, Bool, true, false, List, [], length, None, refl, sym, ap, ◌∙◌}
use Rattle.std.specs.Prelude.{◌&&◌, not, slice_get}
use Rattle.std.proofs.lemmas.Option.{slice_get_past}
use Rattle.network_laws.specs.declared.rows.LimitRow.{LimitRow}
use Rattle.network_laws.specs.declared.rows.Row.{Row}
use Rattle.network_laws.specs.Networks.{NetworkData, amount_in, at}
use Rattle.command_types.specs.Books.{listed_below, listed_pairs}
use Rattle.command_types.specs.declared.cycle.Mode.{Mode}
use Rattle.command_types.specs.declared.roster.MemberRow.{MemberRow}
use Rattle.command_types.specs.Roster.{Rows}
use Rattle.command_types.specs.Tolerances.{is_dealer_row, limit_row, may_grow, pair_limit, pair_upper}
use Rattle.tolerance_sets.proofs.Walk.{limits_by}
use Rattle.file_market.specs.Market.{empty_network, market_limits}
use Rattle.file_market.specs.Untouched.{grows_with, row_with, seller_row, market_row}
use Rattle.file_market.proofs.FreeLimits.{listed_same, none_kept}

and_false : (b : Bool) → (b && false) ≡ false
and_false true = refl
and_false false = refl

-- a pair with a customer does not grow
pub grows_not : (buyers : List MemberRow) (i j : ℕ) → is_dealer_row (slice_get buyers j) ≡ false → grows_with buyers i j ≡ false
grows_not buyers i j still = ap (λ b. not (i == j) && b) still ∙ and_false (not (i == j))

-- one without trades that may not grow has no row
pub none_unsold : (buyers : List MemberRow) (i j : ℕ) → is_dealer_row (slice_get buyers j) ≡ false → row_with buyers i j 0 ≡ []
none_unsold buyers i j still = ap (λ grows. limit_row i j 0 (pair_upper grows 0 None)) (grows_not buyers i j still)

pub past_unsold : (buyers : List MemberRow) (i j : ℕ) → length buyers ≤ j → row_with buyers i j 0 ≡ []
past_unsold buyers i j past = none_unsold buyers i j (ap is_dealer_row (slice_get_past buyers j past))

-- the rows of a seller in a mode that his growth fits
pub seller_rows : (n : ℕ) (buyers : List MemberRow) (mode : Mode) (members : List MemberRow) (network : List Row) (i : ℕ) → ((j : ℕ) → grows_with buyers i j ≡ may_grow mode members i j) → listed_below n (seller_row buyers network i) ≡ listed_below n (market_row mode members network i)
seller_rows n buyers mode members network i same =
    listed_same n (seller_row buyers network i) (market_row mode members network i) (λ j. ap (λ grows. limit_row i j 0 (pair_upper grows (amount_in network i j) None)) (same j))

pair_row : (mode : Mode) (rows : Rows) (product : ℕ) (network : NetworkData) (i j : ℕ) → market_row mode rows.members network.rows i j ≡ pair_limit mode rows.members [] product network (empty_network rows) i j
pair_row mode rows product network i j =
    ap (λ low. limit_row i j low (pair_upper (may_grow mode rows.members i j) (at network i j) None)) (sym (none_kept (at network i j) 0 0 refl))

-- the limits
pub limits_from : (rows : Rows) (mode : Mode) (product : ℕ) (network : NetworkData) (members : List MemberRow) (sold : List Row) (made : List LimitRow) → members ≡ rows.members → sold ≡ network.rows → made ≡ listed_pairs (length members) (market_row mode members sold) → limits_by (length members) made ≡ market_limits rows mode product network
limits_from rows mode product network members sold made e e' e'' =
    let n : ℕ = length rows.members in
    ap (λ ms. limits_by (length ms) made) e
    ∙ ap (limits_by n)
    (e'' ∙ ap (λ ms. listed_pairs (length ms) (market_row mode ms sold)) e ∙ ap (λ s. listed_pairs n (market_row mode rows.members s)) e'
    ∙ listed_same n (λ i. listed_below n (market_row mode rows.members network.rows i)) (λ i. listed_below n (pair_limit mode rows.members [] product network (empty_network rows) i))
    (λ i. listed_same n (market_row mode rows.members network.rows i) (pair_limit mode rows.members [] product network (empty_network rows) i) (pair_row mode rows product network i)))
