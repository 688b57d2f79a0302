-- What a session keeps between two lines, and what may be noted in it.
use Rattle.std.specs.Prelude.{◌≡◌, ℕ, ◌≤◌, ℤ, false, List, Result, Ok}
use Rattle.std.specs.Str.{bytes_eq}
use Rattle.network_laws.specs.Solutions.{IsPotential}
use Rattle.command_types.specs.declared.line.Line.{Line}
use Rattle.command_types.specs.declared.line.Line.TheVariants.{Row, Pot}
use Rattle.command_types.specs.Session.{Draft as DraftData, draft_size, draft_sum, noted_row, noted_potential}
use Rattle.command_text.specs.declared.bad_line.BadLine.{BadLine}
use Rattle.session.specs.declared.draft.Draft.{Draft}
use Rattle.session.specs.Kept.{kept_rows, kept_potentials, HasRowRoom, HasPotentialRoom}
use Rattle.units_core.specs.declared.limits.TheConstants.{MOST_DRAFT, MOST_GROSS}

-- a draft as the definitions of sessions see it
abbrev pub draft_of : Draft → DraftData
draft_of draft = record { rows = kept_rows draft.rows; potentials = kept_potentials draft.potentials }

-- to note what a line says needs no memory
abbrev pub HasRoom : Draft → Result Line BadLine → Type 0
HasRoom draft (Ok (Row product seller buyer amount)) = HasRowRoom draft.rows
HasRoom draft (Ok (Pot product member value)) = HasPotentialRoom draft.potentials
HasRoom draft read = Unit {0}

-- A row that a draft can take: the parties differ, and neither the product's sum nor the draft's size passes its most.
pub record IsRowFor (draft : DraftData) (product seller buyer : List ℕ) (amount : ℕ) : Type 0 where
  pub parties : bytes_eq seller buyer ≡ false
  pub within : draft_sum product (noted_row draft product seller buyer amount).rows ≤ MOST_GROSS
  pub few : draft_size (noted_row draft product seller buyer amount) ≤ MOST_DRAFT

-- A potential that a draft can take.
pub record IsPotentialFor (draft : DraftData) (product member : List ℕ) (value : ℤ) : Type 0 where
  pub in_range : IsPotential value
  pub few : draft_size (noted_potential draft product member value) ≤ MOST_DRAFT

-- what a line says can go into the draft
abbrev pub MayNote : DraftData → Result Line ℕ → Type 0
MayNote draft (Ok (Row product seller buyer amount)) = IsRowFor draft product seller buyer amount
MayNote draft (Ok (Pot product member value)) = IsPotentialFor draft product member value
MayNote draft line = Unit {0}

-- a potential that a line tells is one
abbrev pub HasPotential : Result Line ℕ → Type 0
HasPotential (Ok (Pot product member value)) = IsPotential value
HasPotential line = Unit {0}
