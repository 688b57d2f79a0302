-- A journal that begins with a base and has no changes.
use Rattle.std.specs.Prelude.{ℕ, List, [], ◌∷◌, ◌++◌, length}
use Rattle.std.specs.Int.{w32, w64, to_le_bytes}
use Rattle.command_types.specs.declared.base.Base.{Base}
use Rattle.command_types.specs.Bases.{base_in}
use Rattle.command_types.specs.History.{History}
use Rattle.command_types.specs.Roster.{Rows}
use Rattle.journal_core.specs.Holds.{slots_header}

-- its bytes: the header, a selector of the first slot, the slots, of which the first has the offset of the base's length, that length, the base, and a closed gate
abbrev pub journal_of : List ℕ → List ℕ
journal_of base =
    slots_header ++ 0 ∷ to_le_bytes w64 25 ++ to_le_bytes w64 0 ++ to_le_bytes w32 (length base) ++ base ++ 0 ∷ []

-- the history over a roster that begins with a base and has no changes
abbrev pub begun_history : Rows → Base → History
begun_history roster base = record { base = base_in roster base; entries = [] }
