-- What members allow a compression to change, and the limits that follow from it.
use Rattle.std.specs.Prelude.{ℕ, ◌+◌, ◌*◌, ◌==◌, ◌&&◌, not, nat_lt, min, max, Bool, true, false, List, [], ◌∷◌, length, slice_get, Option, Some, None, if◌then◌else◌}
use Rattle.network_laws.specs.declared.rows.LimitRow.{LimitRow}
use Rattle.network_laws.specs.Networks.{NetworkData, at}
use Rattle.network_laws.specs.Limits.{LimitsData}
use Rattle.command_types.specs.declared.cycle.Mode.{Mode}
use Rattle.command_types.specs.declared.cycle.Mode.TheVariants.{Conservative, Hybrid, Free}
use Rattle.command_types.specs.declared.trade.Side.{Side}
use Rattle.command_types.specs.declared.trade.Side.TheVariants.{Out, In}
use Rattle.command_types.specs.declared.tolerance.ToleranceRow.{ToleranceRow}
use Rattle.command_types.specs.declared.roster.MemberRow.{MemberRow}
use Rattle.command_types.specs.Roster.{is_dealer}
use Rattle.command_types.specs.Books.{listed_pairs}

-- the outgoing side stands before the incoming one
abbrev pub side_place : Side → ℕ
side_place Out = 0
side_place In = 1

-- where a setting stands: by member, product, other member and side
abbrev pub setting_place : ToleranceRow → ℕ
setting_place row = ((row.member * 65536 + row.product) * 65536 + row.other) * 2 + side_place row.side

-- a setting replaces an earlier one at its place; the others stay in the order of their places
abbrev pub with_setting : ToleranceRow → List ToleranceRow → List ToleranceRow
with_setting new [] = new ∷ []
with_setting new (row ∷ rows) =
    if setting_place row == setting_place new then new ∷ rows
    else (if nat_lt (setting_place new) (setting_place row) then new ∷ row ∷ rows else row ∷ with_setting new rows)

-- the setting is that of a member for its side of a pair
abbrev pub is_setting_of : ℕ → ℕ → ℕ → ℕ → ToleranceRow → Bool
is_setting_of member product other side row =
    (row.member == member) && (row.product == product) && (row.other == other) && (side_place row.side == side)

-- what a member set as the least for its side of a pair, or 0
abbrev pub floor_in : List ToleranceRow → ℕ → ℕ → ℕ → Side → ℕ
floor_in [] member product other side = 0
floor_in (row ∷ rows) member product other side =
    if is_setting_of member product other (side_place side) row then row.floor else floor_in rows member product other side

-- what it set as the most, if it did
abbrev pub ceiling_in : List ToleranceRow → ℕ → ℕ → ℕ → Side → Option ℕ
ceiling_in [] member product other side = None
ceiling_in (row ∷ rows) member product other side =
    if is_setting_of member product other (side_place side) row then row.ceiling else ceiling_in rows member product other side

-- the smaller of the ceilings that are given
abbrev pub smaller_of : Option ℕ → Option ℕ → Option ℕ
smaller_of None b = b
smaller_of (Some a) None = Some a
smaller_of (Some a) (Some b) = Some (min a b)

-- the larger floor of the seller and the buyer of a pair
abbrev pub pair_floor : List ToleranceRow → ℕ → ℕ → ℕ → ℕ
pair_floor settings product seller buyer =
    max (floor_in settings seller product buyer Out) (floor_in settings buyer product seller In)

-- the smaller ceiling of the two, if either gave one
abbrev pub pair_ceiling : List ToleranceRow → ℕ → ℕ → ℕ → Option ℕ
pair_ceiling settings product seller buyer =
    smaller_of (ceiling_in settings seller product buyer Out) (ceiling_in settings buyer product seller In)

-- there is a member, and it is a dealer
abbrev pub is_dealer_row : Option MemberRow → Bool
is_dealer_row None = false
is_dealer_row (Some row) = is_dealer row.role

-- a pair of this seller and this buyer is open: no pair in conservative mode, one of two dealers in hybrid mode, every
-- pair in free mode
abbrev pub is_open : Mode → Option MemberRow → Option MemberRow → Bool
is_open Conservative seller buyer = false
is_open Hybrid seller buyer = is_dealer_row seller && is_dealer_row buyer
is_open Free seller buyer = true

-- the pair may grow: two different members, whose pair is open
abbrev pub may_grow : Mode → List MemberRow → ℕ → ℕ → Bool
may_grow mode members seller buyer =
    not (seller == buyer) && is_open mode (slice_get members seller) (slice_get members buyer)

-- a ceiling that is given, but at least this amount
abbrev pub raised_to : ℕ → Option ℕ → Option ℕ
raised_to now None = None
raised_to now (Some ceiling) = Some (max now ceiling)

-- the most that a pair with this amount may come to
abbrev pub pair_upper : Bool → ℕ → Option ℕ → Option ℕ
pair_upper false now ceiling = Some now
pair_upper true now ceiling = raised_to now ceiling

-- the least: the floor and what is held, but never above the amount
abbrev pub pair_lower : ℕ → ℕ → ℕ → ℕ
pair_lower now floor held = min now (max floor held)

-- the most is given, and it is 0
abbrev pub is_zero_bound : Option ℕ → Bool
is_zero_bound None = false
is_zero_bound (Some most) = most == 0

-- the row of a pair; one that may come to nothing but 0 has none
abbrev pub limit_row : ℕ → ℕ → ℕ → Option ℕ → List LimitRow
limit_row seller buyer low high =
    if is_zero_bound high then [] else record { seller = seller; buyer = buyer; lower = low; upper = high } ∷ []

-- the limits of a pair: what floors, ceilings, holds and the mode leave around its amount
abbrev pub pair_limit : Mode → List MemberRow → List ToleranceRow → ℕ → NetworkData → NetworkData → ℕ → ℕ → List LimitRow
pair_limit mode members settings product network held seller buyer =
    limit_row seller buyer
    (pair_lower (at network seller buyer) (pair_floor settings product seller buyer) (at held seller buyer))
    (pair_upper (may_grow mode members seller buyer) (at network seller buyer) (pair_ceiling settings product seller buyer))

-- the limits of a product whose frozen trades make this network, and the held ones among them that one
abbrev pub limits_of : Mode → List MemberRow → List ToleranceRow → ℕ → NetworkData → NetworkData → LimitsData
limits_of mode members settings product network held = record {
  members = length members;
  rows = listed_pairs (length members) (pair_limit mode members settings product network held);
}
