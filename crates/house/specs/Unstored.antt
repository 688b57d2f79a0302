-- Why a change was not made.
use Rattle.std.specs.Prelude.{◌≡◌}
use Rattle.command_types.specs.declared.ask.Entry.{Entry}
use Rattle.house.specs.declared.storing.Unstored.{Unstored}
use Rattle.house.specs.declared.storing.Unstored.TheVariants.{Memory, Failed}

-- where the disk failed, this is so, and the entry is handed back
abbrev pub Tells : Entry → Type 0 → Unstored → Type 0
Tells entry cause Memory = Unit {0}
Tells entry cause (Failed e) = (e ≡ entry) × cause
