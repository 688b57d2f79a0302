-- Parts of a proposal that are read from the midst of its text, whatever stands before them.
use Rattle.std.specs.Prelude.{◌≡◌, ℕ, ◌+◌, ◌≤◌, Bool, true, false, List, [], ◌∷◌, ◌++◌, length, Some, All}
use Rattle.network_laws.specs.Solutions.{IsSolution}
use Rattle.command_types.specs.Roster.{Rows}
use Rattle.dual_certificate.specs.declared.proposal_part.ProposalPart.{ProposalPart}
use Rattle.dual_certificate.specs.declared.proposal_draft.ProposalDraft.{ProposalDraft}
use Rattle.dual_certificate.specs.declared.proposal_line.ProposalLine.{ProposalLine}
use Rattle.dual_certificate.specs.declared.proposal_line.ProposalLine.TheVariants.{Row, Pot, Bound}
use Rattle.dual_certificate.specs.declared.proposal_run.ReadPart.{ReadPart}
use Rattle.dual_certificate.specs.declared.proposal_run.ProposalRun.{ProposalRun}
use Rattle.dual_certificate.specs.declared.run_joiner.Joined.{Joined}
use Rattle.dual_certificate.specs.ProposalLine.{pieces}
use Rattle.dual_certificate.specs.Proposal.{Reading, nothing_read, after_parts, with_said, with_pieces}
use Rattle.dual_certificate.specs.ProposalDraft.{IsDraft}

-- behind these parts the draft's part is begun
abbrev pub inside : List ProposalPart → ProposalDraft → Reading
inside before d = record { parts = before; figures = d.figures; rows = d.rows.items; potentials = d.potentials.items; has_ended = false }

-- a part's first line, whatever stands before that part, if this is the next product
pub record BeginsPart (roster : Rows) (line : ProposalLine) (product : ℕ) (d : ProposalDraft) : Type 0 where
  pub draft : IsDraft roster d
  pub says : (before : List ProposalPart) → length before ≡ product → with_said roster (after_parts before) (Some line) ≡ Some (inside before d)

-- a line that stands within a part
abbrev pub is_inner : ProposalLine → Bool
is_inner (Row seller buyer amount) = true
is_inner (Pot member value) = true
is_inner line = false

-- a line of a part, whatever stands before that part
pub record AddsLine (roster : Rows) (old : ProposalDraft) (line : ProposalLine) (new : ProposalDraft) : Type 0 where
  pub draft : IsDraft roster new
  pub says : (before : List ProposalPart) → with_said roster (inside before old) (Some line) ≡ Some (inside before new)

-- a part's last line, whatever stands before that part
pub record EndsPart (roster : Rows) (d : ProposalDraft) (value : ℕ) (part : ProposalPart) : Type 0 where
  pub good : IsSolution part.solution
  pub says : (before : List ProposalPart) → with_said roster (inside before d) (Some (Bound value)) ≡ Some (after_parts (before ++ part ∷ []))

-- a text starts with a part, whatever stands before it, if it is that of the next product
pub record IsPart (roster : Rows) (text : List ℕ) (read : ReadPart) : Type 0 where
  pub good : IsSolution read.part.solution
  pub shorter : read.lines + length read.rest.now ≤ length text
  pub says : (n : ℕ) (before : List ProposalPart) → length before ≡ read.product
      → with_pieces roster n (after_parts before) (pieces 10 text) ≡ with_pieces roster (n + read.lines) (after_parts (before ++ read.part ∷ [])) (pieces 10 read.rest.now)

-- a text starts with these parts, one behind the other
unfoldable pub ReadsParts : Rows → List ℕ → List ReadPart → Type 0
ReadsParts roster text [] = Unit
ReadsParts roster text (read ∷ more) = IsPart roster text read × ReadsParts roster read.rest.now more

-- what stands behind these parts of a text
unfoldable pub rest_behind : List ℕ → List ReadPart → List ℕ
rest_behind text [] = text
rest_behind text (read ∷ more) = rest_behind read.rest.now more

-- the text of a run starts with its parts
abbrev pub IsRun : Rows → ProposalRun → Type 0
IsRun roster run = ReadsParts roster run.text.now run.parts.items

-- what was joined says the same of the bytes as they do
pub record IsJoined (roster : Rows) (bytes : List ℕ) (joined : Joined) : Type 0 where
  pub good : All (λ part. IsSolution part.solution) joined.parts.items
  pub shorter : joined.row + length joined.rest.now ≤ length bytes + 1
  pub says : with_pieces roster 1 nothing_read (pieces 10 bytes) ≡ with_pieces roster joined.row (after_parts joined.parts.items) (pieces 10 joined.rest.now)
