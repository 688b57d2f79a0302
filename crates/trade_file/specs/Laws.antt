-- The law of a roster file, as a statement.
use Rattle.std.specs.Prelude.{◌≡◌, ℕ, List, Ok}
use Rattle.command_types.specs.Roster.{Rows}
use Rattle.command_types.specs.Names.{HasNames}
use Rattle.trade_file.specs.RosterFile.{roster_file}

-- the rows that a roster file says have names
abbrev pub RosterFileHasNames : Type 0
RosterFileHasNames = (bytes : List ℕ) (rows : Rows) → roster_file bytes ≡ Ok rows → HasNames rows
