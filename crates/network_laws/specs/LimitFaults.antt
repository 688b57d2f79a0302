-- What each fault of limit rows says: the rows before are good, and this one is not, for no earlier reason.
use Rattle.std.specs.Prelude.{◌≡◌, ℕ, ◌-◌, ◌<◌, ◌≤◌, List, length, take, slice_index_or}
use Rattle.network_laws.specs.declared.rows.LimitRow.{LimitRow}
use Rattle.network_laws.specs.declared.limits.LimitFault.{LimitFault}
use Rattle.network_laws.specs.declared.limits.LimitFault.TheVariants.{Members, Member, Same, Order, Crossed}
use Rattle.network_laws.specs.Limits.{AreLimitRows, IsWithin, limit_place}
use Rattle.units_core.specs.declared.limits.TheConstants.{MOST_MEMBERS}

-- the rows before are those of limits, and there is a row here
pub record IsFirstBadLimit (members : ℕ) (rows : List LimitRow) (at : ℕ) : Type 0 where
  pub few : members ≤ MOST_MEMBERS
  pub before : AreLimitRows members (take at rows)
  pub here : at < length rows

-- seller and buyer of a row are members
abbrev pub IsLimitMember : ℕ → LimitRow → Type 0
IsLimitMember members row = (row.seller < members) × (row.buyer < members)

-- the fault is the first of the rows: at most one fault is, and none where the rows are limits
abbrev pub IsLimitFault : ℕ → List LimitRow → LimitFault → Type 0
IsLimitFault members rows Members = MOST_MEMBERS < members
IsLimitFault members rows (Member at) =
    IsFirstBadLimit members rows at × ((d : LimitRow) → IsLimitMember members (slice_index_or rows at d) → ⊥)
IsLimitFault members rows (Same at) =
    IsFirstBadLimit members rows at × ((d : LimitRow) → let row = slice_index_or rows at d in IsLimitMember members row × (row.seller ≡ row.buyer))
IsLimitFault members rows (Order at) =
    IsFirstBadLimit members rows at × ((d : LimitRow) → let row = slice_index_or rows at d in IsLimitMember members row × (row.seller ≡ row.buyer → ⊥)) × (0 < at) ×
    ((d : LimitRow) → limit_place (slice_index_or rows at d) ≤ limit_place (slice_index_or rows (at - 1) d))
IsLimitFault members rows (Crossed at) =
    IsFirstBadLimit members rows at × ((d : LimitRow) → let row = slice_index_or rows at d in IsLimitMember members row × (row.seller ≡ row.buyer → ⊥)) ×
    ((d : LimitRow) → 0 < at → limit_place (slice_index_or rows (at - 1) d) < limit_place (slice_index_or rows at d)) ×
    ((d : LimitRow) → let row = slice_index_or rows at d in IsWithin row.lower row.upper → ⊥)
