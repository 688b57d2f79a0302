-- What the draft of a proposal keeps.
use Rattle.std.specs.Prelude.{◌≡◌, ◌⊎◌, ℕ, length, All, Option, Some, None, Result, Ok, Err}
use Rattle.network_laws.specs.Networks.{AreRows, total}
use Rattle.network_laws.specs.Solutions.{IsPotential, IsSolution}
use Rattle.command_types.specs.Roster.{Rows}
use Rattle.command_types.specs.declared.file_fault.FileFault.{FileFault}
use Rattle.command_types.specs.declared.file_fault.FileFault.TheVariants.{BadLine, Memory}
use Rattle.dual_certificate.specs.declared.proposal_draft.ProposalDraft.{ProposalDraft}
use Rattle.dual_certificate.specs.Proposal.{Reading}

-- what a draft has read
abbrev pub reading_of : ProposalDraft → Reading
reading_of d = record { parts = d.parts.items; figures = d.figures; rows = d.rows.items; potentials = d.potentials.items; has_ended = d.has_ended }

-- the rows are those of a network, with this total, the potentials are in range, and the finished parts have solutions
pub record IsDraft (roster : Rows) (d : ProposalDraft) : Type 0 where
  pub rows : AreRows (length roster.members) d.rows.items
  pub all : d.total ≡ total d.rows.items
  pub in_range : All IsPotential d.potentials.items
  pub good : All (λ part. IsSolution part.solution) d.parts.items

-- a line with this number gave what is due, or it can't stand, or there was no memory
abbrev pub ReadSteps : Rows → ℕ → Option Reading → ProposalDraft → Result Unit FileFault → Type 0
ReadSteps roster row due d (Ok done) = IsDraft roster d × (due ≡ Some (reading_of d))
ReadSteps roster row due d (Err fault) = (fault ≡ Memory) ⊎ ((fault ≡ BadLine row) × (due ≡ None))
