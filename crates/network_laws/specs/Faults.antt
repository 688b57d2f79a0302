-- What each fault of rows says: the rows before are good, and this one is not, for no earlier reason.
use Rattle.std.specs.Prelude.{◌≡◌, ℕ, ◌+◌, ◌-◌, ◌<◌, ◌≤◌, List, length, take, slice_index_or}
use Rattle.network_laws.specs.declared.rows.Row.{Row}
use Rattle.network_laws.specs.declared.network.NetworkFault.{NetworkFault}
use Rattle.network_laws.specs.declared.network.NetworkFault.TheVariants.{Members, Member, Same, Zero, Order, Gross}
use Rattle.network_laws.specs.Networks.{AreRows, IsGoodRow, place, total}
use Rattle.units_core.specs.declared.limits.TheConstants.{MOST_GROSS, MOST_MEMBERS}

-- the rows before are those of a network, and there is a row here
pub record IsFirstBad (members : ℕ) (rows : List Row) (at : ℕ) : Type 0 where
  pub few : members ≤ MOST_MEMBERS
  pub before : AreRows members (take at rows)
  pub here : at < length rows

-- seller and buyer of a row are members
abbrev pub IsMember : ℕ → Row → Type 0
IsMember members row = (row.seller < members) × (row.buyer < members)

-- the fault is the first of the rows: at most one fault is, and none where the rows are a network
abbrev pub IsFault : ℕ → List Row → NetworkFault → Type 0
IsFault members rows Members = MOST_MEMBERS < members
IsFault members rows (Member at) =
    IsFirstBad members rows at × ((d : Row) → IsMember members (slice_index_or rows at d) → ⊥)
IsFault members rows (Same at) =
    IsFirstBad members rows at × ((d : Row) → let row = slice_index_or rows at d in IsMember members row × (row.seller ≡ row.buyer))
IsFault members rows (Zero at) =
    IsFirstBad members rows at × ((d : Row) → let row = slice_index_or rows at d in IsMember members row × (row.seller ≡ row.buyer → ⊥) × (row.amount ≡ 0))
IsFault members rows (Order at) =
    IsFirstBad members rows at × ((d : Row) → IsGoodRow members (slice_index_or rows at d)) × (0 < at) × ((d : Row) → place (slice_index_or rows at d) ≤ place (slice_index_or rows (at - 1) d))
IsFault members rows (Gross at) =
    IsFirstBad members rows at × ((d : Row) → IsGoodRow members (slice_index_or rows at d)) × ((d : Row) → 0 < at → place (slice_index_or rows (at - 1) d) < place (slice_index_or rows at d)) ×
    (MOST_GROSS < total (take (at + 1) rows))
