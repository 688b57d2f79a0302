-- The settings of a base, over a new roster.
use Rattle.std.specs.Prelude.{ℕ, List, [], ◌∷◌, Option, Some, None}
use Rattle.command_types.specs.declared.tolerance.ToleranceRow.{ToleranceRow}
use Rattle.command_types.specs.Roster.{Rows}
use Rattle.command_types.specs.Tolerances.{with_setting}
use Rattle.period_roll.specs.Places.{new_member, new_product}

-- the setting at its new places, if there are all three
abbrev pub setting_at : ToleranceRow → Option ℕ → Option ℕ → Option ℕ → Option ToleranceRow
setting_at row (Some member) (Some product) (Some other) = Some (record row { member = member; product = product; other = other })
setting_at row member product other = None

-- the setting over the new roster, if both members and the product are there
abbrev pub moved_setting : Rows → Rows → ToleranceRow → Option ToleranceRow
moved_setting old new row = setting_at row (new_member old new row.member) (new_product old new row.product) (new_member old new row.other)

-- a setting beside others, at its place
abbrev pub with_some : Option ToleranceRow → List ToleranceRow → List ToleranceRow
with_some None rows = rows
with_some (Some row) rows = with_setting row rows

-- those that are there, each put at its place beside these
abbrev pub moved_beside : Rows → Rows → List ToleranceRow → List ToleranceRow → List ToleranceRow
moved_beside old new made [] = made
moved_beside old new made (row ∷ rows) = moved_beside old new (with_some (moved_setting old new row) made) rows
