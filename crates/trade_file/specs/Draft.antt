-- What the draft of a roster keeps.
use Rattle.std.specs.Prelude.{◌≡◌, ◌⊎◌, ℕ, List, Result, Ok, Err}
use Rattle.std.specs.List.{list_any}
use Rattle.std.specs.Str.{bytes_eq}
use Rattle.command_types.specs.Roster.{Rows, IsRoster}
use Rattle.command_types.specs.declared.file_fault.FileFault.{FileFault}
use Rattle.command_types.specs.declared.file_fault.FileFault.TheVariants.{Memory}
use Rattle.trade_file.specs.declared.draft.Draft.{Draft}
use Rattle.trade_file.specs.RosterFile.{is_taken}

-- the rows of a draft
abbrev pub rows_of : Draft → Rows
rows_of d = record { members = d.members.items; products = d.products.items; operator = d.operator }

-- the draft's rows are those of a roster, and it knows their names
pub record IsDraft (d : Draft) : Type 0 where
  pub roster : IsRoster (rows_of d)
  pub names : (name : List ℕ) → list_any (bytes_eq name) d.names ≡ is_taken (rows_of d) name

-- a step from a draft answered this: the rows that are due, or the fault that is due, or want of memory
abbrev pub Steps : Result Rows FileFault → Draft → Result Unit FileFault → Type 0
Steps due d (Ok done) = IsDraft d × (due ≡ Ok (rows_of d))
Steps due d (Err fault) = (fault ≡ Memory) ⊎ (due ≡ Err fault)
