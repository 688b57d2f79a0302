-- Where members and products of a roster stand in a new one, by their names.
use Rattle.std.specs.Prelude.{ℕ, Bool, true, false, Option, Some, None, Result, Ok, Err, slice_get, if◌then◌else◌}
use Rattle.command_types.specs.declared.roster.Role.{Role}
use Rattle.command_types.specs.declared.roster.Role.TheVariants.{Dealer, Customer}
use Rattle.command_types.specs.declared.roster.MemberRow.{MemberRow}
use Rattle.command_types.specs.declared.roster.ProductRow.{ProductRow}
use Rattle.command_types.specs.Roster.{Rows, member_place, product_place}
use Rattle.period_roll.specs.declared.cause.Cause.{Cause}
use Rattle.period_roll.specs.declared.cause.Cause.TheVariants.{MemberGone, RoleChanged, ProductGone}

-- where the member of this row stands, by its name
abbrev pub place_of_member : Rows → Option MemberRow → Option ℕ
place_of_member new None = None
place_of_member new (Some row) = member_place new row.name

-- where the product of this row stands
abbrev pub place_of_product : Rows → Option ProductRow → Option ℕ
place_of_product new None = None
place_of_product new (Some row) = product_place new row.name

-- where the member at a place of the old roster stands in the new one
abbrev pub new_member : Rows → Rows → ℕ → Option ℕ
new_member old new place = place_of_member new (slice_get old.members place)

-- where the product stands
abbrev pub new_product : Rows → Rows → ℕ → Option ℕ
new_product old new place = place_of_product new (slice_get old.products place)

-- both are dealers, or both are customers
abbrev pub is_same_role : Role → Role → Bool
is_same_role Dealer Dealer = true
is_same_role Customer Customer = true
is_same_role a b = false

-- there are both members, and they have the same role
abbrev pub have_same_role : Option MemberRow → Option MemberRow → Bool
have_same_role (Some a) (Some b) = is_same_role a.role b.role
have_same_role a b = false

-- the new place of a trade's member, if it was found and its role is the same
abbrev pub party_at : Rows → Rows → ℕ → ℕ → Option ℕ → Result ℕ Cause
party_at old new trade place None = Err (MemberGone trade)
party_at old new trade place (Some found) =
    if have_same_role (slice_get old.members place) (slice_get new.members found) then Ok found else Err (RoleChanged trade)

-- where a member of this trade stands in the new roster
abbrev pub moved_party : Rows → Rows → ℕ → ℕ → Result ℕ Cause
moved_party old new trade place = party_at old new trade place (new_member old new place)

-- the new place of a trade's product, if it was found
abbrev pub product_found : ℕ → Option ℕ → Result ℕ Cause
product_found trade None = Err (ProductGone trade)
product_found trade (Some place) = Ok place

-- where the product of this trade stands in the new roster
abbrev pub moved_product : Rows → Rows → ℕ → ℕ → Result ℕ Cause
moved_product old new trade place = product_found trade (new_product old new place)
