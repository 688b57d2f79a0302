-- One more line of a proposal behind those that were read.
use Rattle.std.proofs.Common.{◌≡◌, ◌∙◌, sym, ap, ℕ, ◌+◌, List, [], ◌∷◌, length, false, cond, Some, None, Result, Err, ◌⊎◌, inl, inr, arith, eqb}
use Rattle.std.proofs.lemmas.Bool.{ne_eqb}
use Rattle.std.proofs.lemmas.List.Splits.{length-slice_split}
use Rattle.command_types.specs.Roster.{Rows}
use Rattle.command_types.specs.declared.file_fault.FileFault.{FileFault}
use Rattle.command_types.specs.declared.file_fault.FileFault.TheVariants.{BadLine, Memory}
use Rattle.dual_certificate.specs.declared.proposal_part.ProposalPart.{ProposalPart}
use Rattle.dual_certificate.specs.ProposalLine.{pieces}
use Rattle.dual_certificate.specs.Proposal.{Reading, go_on, at_end, with_line, with_pieces}

some_piece : (byte : ℕ) (text : List ℕ) → eqb (length (pieces byte text)) 0 ≡ false
some_piece byte text = ne_eqb _ 0 (λ e. omega (arith, length-slice_split (λ b. eqb b byte) text))

-- a line with its line feed
step : (roster : Rows) (n : ℕ) (r : Reading) (text line rest : List ℕ) → pieces 10 text ≡ line ∷ pieces 10 rest
    → with_pieces roster n r (pieces 10 text) ≡ go_on n (λ next. with_pieces roster (n + 1) next (pieces 10 rest)) (with_line roster r line)
unfolding with_pieces
step roster n r text line rest e =
    ap (with_pieces roster n r) e
    ∙ ap (λ b. cond b (at_end n r line) (go_on n (λ next. with_pieces roster (n + 1) next (pieces 10 rest)) (with_line roster r line))) (some_piece 10 rest)

-- a line that stands at its place
pub stands : (roster : Rows) (n : ℕ) (r next : Reading) (text line rest : List ℕ) → pieces 10 text ≡ line ∷ pieces 10 rest → with_line roster r line ≡ Some next
    → with_pieces roster n r (pieces 10 text) ≡ with_pieces roster (n + 1) next (pieces 10 rest)
stands roster n r next text line rest e h = step roster n r text line rest e ∙ ap (go_on n (λ next. with_pieces roster (n + 1) next (pieces 10 rest))) h

-- a line that can't
pub is_bad : (roster : Rows) (n : ℕ) (r : Reading) (text line rest : List ℕ) → pieces 10 text ≡ line ∷ pieces 10 rest → with_line roster r line ≡ None
    → with_pieces roster n r (pieces 10 text) ≡ Err (BadLine n)
is_bad roster n r text line rest e h = step roster n r text line rest e ∙ ap (go_on n (λ next. with_pieces roster (n + 1) next (pieces 10 rest))) h

-- no further line feed
pub last : (roster : Rows) (n : ℕ) (r : Reading) (rest : List ℕ) → pieces 10 rest ≡ rest ∷ [] → with_pieces roster n r (pieces 10 rest) ≡ at_end n r rest
unfolding with_pieces
last roster n r rest e = ap (with_pieces roster n r) e

-- a line that can't stand, or no memory for one
pub fails : (roster : Rows) (n : ℕ) (r : Reading) (text line rest : List ℕ) (fault : FileFault) (whole : Result (List ProposalPart) FileFault) → whole ≡ with_pieces roster n r (pieces 10 text)
    → pieces 10 text ≡ line ∷ pieces 10 rest → (fault ≡ Memory) ⊎ ((fault ≡ BadLine n) × (with_line roster r line ≡ None)) → (fault ≡ Memory) ⊎ (whole ≡ Err fault)
fails roster n r text line rest fault whole w e (inl m) = inl m
fails roster n r text line rest fault whole w e (inr p) = inr (w ∙ is_bad roster n r text line rest e p.1 ∙ ap (λ (f : FileFault). Err f) (sym p.0))
