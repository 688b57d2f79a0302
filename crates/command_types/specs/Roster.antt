-- Who takes part, as plain lists, and how names are looked up in them.
use Rattle.std.specs.Prelude.{ℕ, ◌≤◌, Bool, true, false, not, ◌&&◌, ◌||◌, is_some, List, [], ◌∷◌, ◌++◌, length, map, filter, position, slice_get, Option, Some, None, IsTrue}
use Rattle.std.specs.List.{list_any}
use Rattle.std.specs.Str.{bytes_eq}
use Rattle.command_types.specs.declared.roster.Role.{Role}
use Rattle.command_types.specs.declared.roster.Role.TheVariants.{Dealer}
use Rattle.command_types.specs.declared.roster.MemberRow.{MemberRow}
use Rattle.command_types.specs.declared.roster.ProductRow.{ProductRow}
use Rattle.command_types.specs.declared.roster.OperatorRow.{OperatorRow}
use Rattle.units_core.specs.declared.limits.TheConstants.{MOST_DEALERS, MOST_MEMBERS, MOST_PRODUCTS}

-- the rows of a roster
pub record Rows : Type 0 where
  pub members : List MemberRow
  pub products : List ProductRow
  pub operator : Option OperatorRow

-- where the member with this name stands
abbrev pub member_place : Rows → List ℕ → Option ℕ
member_place rows name = position (λ row. bytes_eq row.name name) rows.members

-- where the product with this name stands
abbrev pub product_place : Rows → List ℕ → Option ℕ
product_place rows name = position (λ row. bytes_eq row.name name) rows.products

-- there is an operator, and this is its name
abbrev pub is_operator_row : Option OperatorRow → List ℕ → Bool
is_operator_row None name = false
is_operator_row (Some row) name = bytes_eq row.name name

-- the operator has this name
abbrev pub is_operator : Rows → List ℕ → Bool
is_operator rows name = is_operator_row rows.operator name

-- a member has this name and this key
abbrev pub is_member_key : Rows → List ℕ → List ℕ → Bool
is_member_key rows name key = list_any (λ row. bytes_eq row.name name && bytes_eq row.key key) rows.members

-- there is an operator, and this is its name and its key
abbrev pub is_operator_key : Option OperatorRow → List ℕ → List ℕ → Bool
is_operator_key None name key = false
is_operator_key (Some row) name key = bytes_eq row.name name && bytes_eq row.key key

-- a member or the operator has this name and this key
abbrev pub is_key : Rows → List ℕ → List ℕ → Bool
is_key rows name key = is_member_key rows name key || is_operator_key rows.operator name key

-- the party is a member or the operator
abbrev pub is_party : Rows → Option (List ℕ) → Bool
is_party rows None = false
is_party rows (Some name) = is_some (member_place rows name) || is_operator rows name

-- there is a member, and this is its name
abbrev pub is_member_row : Option MemberRow → List ℕ → Bool
is_member_row None name = false
is_member_row (Some row) name = bytes_eq row.name name

-- the member at this place has this name
abbrev pub is_member_at : Rows → ℕ → List ℕ → Bool
is_member_at rows place name = is_member_row (slice_get rows.members place) name

-- the operator's name, if there is an operator
abbrev pub operator_names : Option OperatorRow → List (List ℕ)
operator_names None = []
operator_names (Some row) = row.name ∷ []

-- the names of all members and products, and of the operator
abbrev pub names_of : Rows → List (List ℕ)
names_of rows = map (λ row. row.name) rows.members ++ map (λ row. row.name) rows.products ++ operator_names rows.operator

-- no name comes twice
abbrev pub are_different : List (List ℕ) → Bool
are_different [] = true
are_different (name ∷ names) = not (list_any (bytes_eq name) names) && are_different names

-- the role is a dealer's
abbrev pub is_dealer : Role → Bool
is_dealer Dealer = true
is_dealer role = false

-- what the rows of a roster keep
pub record IsRoster (rows : Rows) : Type 0 where
  pub few_members : length rows.members ≤ MOST_MEMBERS
  pub few_dealers : length (filter (λ row. is_dealer row.role) rows.members) ≤ MOST_DEALERS
  pub few_products : length rows.products ≤ MOST_PRODUCTS
  pub different : IsTrue (are_different (names_of rows))
