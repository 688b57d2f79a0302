-- What is read of a proposal is exactly its text.
use Rattle.std.proofs.Common.{◌≡◌, ◌∙◌, sym, ap, refl, ℕ, ◌+◌, List, [], ◌∷◌, ◌++◌, length, Bool, true, false, ◌&&◌, cond, eqb, ltb, Option, Some, None, Result, Ok, Err, codes, arith, append_assoc}
use Rattle.std.proofs.lemmas.Bool.{and_parts, eqb-true}
use Rattle.std.proofs.lemmas.List.{append-nil}
use Rattle.std.proofs.lemmas.List.Splits.{join_with_byte-slice_split}
use Rattle.std.specs.List.{join_with_byte}
use Rattle.command_types.specs.Roster.{Rows}
use Rattle.command_types.specs.declared.file_fault.FileFault.{FileFault}
use Rattle.command_types.specs.declared.file_fault.FileFault.TheVariants.{BadLine, TooLong}
use Rattle.dual_certificate.specs.declared.proposal_part.ProposalPart.{ProposalPart}
use Rattle.dual_certificate.specs.declared.proposal_line.ProposalLine.{ProposalLine}
use Rattle.dual_certificate.specs.ProposalLine.{pieces, line_of}
use Rattle.dual_certificate.specs.Proposal.{Reading, nothing_read, with_said, with_line, go_on, at_end, with_pieces}
use Rattle.dual_certificate.specs.PartsText.{text_of_parts, WhatIsReadIsItsText}
use Rattle.dual_certificate.proofs.LinesRead.{line_read}
use Rattle.dual_certificate.proofs.PartFacts.{taken}
use Rattle.dual_certificate.proofs.StageFacts.{Stage, reading_at, text_at, goes, line_text}

empty : (text : List ℕ) → eqb (length text) 0 ≡ true → text ≡ []
empty [] h = refl
empty (b ∷ bytes) h = absurd (omega (arith, eqb-true (length (b ∷ bytes)) 0 h))

-- one piece is what it joins to, and a piece with others behind it has its line feed
joined_last : (piece : List ℕ) (more : List (List ℕ)) → eqb (length more) 0 ≡ true → join_with_byte 10 (piece ∷ more) ≡ piece
joined_last piece [] h = refl
joined_last piece (p ∷ more) h = absurd (omega (arith, eqb-true (length (p ∷ more)) 0 h))

joined_on : (piece : List ℕ) (more : List (List ℕ)) → eqb (length more) 0 ≡ false → join_with_byte 10 (piece ∷ more) ≡ (piece ++ codes "\n") ++ join_with_byte 10 more
joined_on piece [] h = absurd cc
joined_on piece (p ∷ more) h = sym (append_assoc piece (codes "\n") (join_with_byte 10 (p ∷ more)))

-- behind the last line feed is nothing, and the last line came
ended_at : (roster : Rows) (stage : Stage) (piece : List ℕ) (parts : List ProposalPart) → eqb (length piece) 0 ≡ true → (reading_at stage).has_ended ≡ true → (reading_at stage).parts ≡ parts
    → text_at roster stage ++ piece ≡ text_of_parts roster parts
ended_at roster (Stage.Between read) piece parts none ended is = absurd cc
ended_at roster (Stage.InPart read figures rows potentials) piece parts none ended is = absurd cc
ended_at roster (Stage.Ended read) piece parts none ended is =
    ap (λ t. text_of_parts roster read ++ t) (empty piece none) ∙ append-nil (text_of_parts roster read) ∙ ap (text_of_parts roster) is

module _ (roster : Rows) (n : ℕ) (stage : Stage) (piece : List ℕ) (more : List (List ℕ)) (parts : List ProposalPart) where
  abbrev IsText : Type 0
  IsText = text_at roster stage ++ join_with_byte 10 (piece ∷ more) ≡ text_of_parts roster parts

  abbrev rest_of : Reading → Result (List ProposalPart) FileFault
  rest_of next = with_pieces roster (n + 1) next more

  goes_on : eqb (length more) 0 ≡ false → ((to : Stage) → rest_of (reading_at to) ≡ Ok parts → text_at roster to ++ join_with_byte 10 more ≡ text_of_parts roster parts)
      → (said : ProposalLine) (next : Reading) → line_of piece ≡ Some said → with_said roster (reading_at stage) (Some said) ≡ Some next → rest_of next ≡ Ok parts → IsText
  goes_on some rest said next says due e =
      let g = goes roster stage said next due in
      let line : piece ++ codes "\n" ≡ line_text said ++ codes "\n" = ap (λ t. t ++ codes "\n") (line_read piece said says) in
      ap (λ t. text_at roster stage ++ t) (joined_on piece more some)
      ∙ sym (append_assoc (text_at roster stage) (piece ++ codes "\n") (join_with_byte 10 more))
      ∙ ap (λ t. (text_at roster stage ++ t) ++ join_with_byte 10 more) line
      ∙ ap (λ t. t ++ join_with_byte 10 more) (sym g.text)
      ∙ rest g.to (ap rest_of g.is ∙ e)

  by_said : eqb (length more) 0 ≡ false → ((to : Stage) → rest_of (reading_at to) ≡ Ok parts → text_at roster to ++ join_with_byte 10 more ≡ text_of_parts roster parts)
      → (said : Option ProposalLine) (next : Reading) → line_of piece ≡ said → with_said roster (reading_at stage) said ≡ Some next → rest_of next ≡ Ok parts → IsText
  by_said some rest None next says due e = absurd cc
  by_said some rest (Some said) next says due e = goes_on some rest said next says due e

  by_line : eqb (length more) 0 ≡ false → ((to : Stage) → rest_of (reading_at to) ≡ Ok parts → text_at roster to ++ join_with_byte 10 more ≡ text_of_parts roster parts)
      → (o : Option Reading) → with_line roster (reading_at stage) piece ≡ o → go_on n rest_of o ≡ Ok parts → IsText
  by_line some rest None due e = absurd cc
  by_line some rest (Some next) due e = by_said some rest (line_of piece) next refl due e

  by_more : ((to : Stage) → rest_of (reading_at to) ≡ Ok parts → text_at roster to ++ join_with_byte 10 more ≡ text_of_parts roster parts)
      → (b : Bool) → eqb (length more) 0 ≡ b → cond b (at_end n (reading_at stage) piece) (go_on n rest_of (with_line roster (reading_at stage) piece)) ≡ Ok parts → IsText
  by_more rest true none e =
      let got = taken (eqb (length piece) 0 && (reading_at stage).has_ended) (reading_at stage).parts parts (BadLine n) e in
      let both = and_parts (eqb (length piece) 0) ((reading_at stage).has_ended) got.0 in
      ap (λ t. text_at roster stage ++ t) (joined_last piece more none) ∙ ended_at roster stage piece parts both.0 both.1 got.1
  by_more rest false some e = by_line some rest (with_line roster (reading_at stage) piece) refl e

pieces_are : (roster : Rows) (n : ℕ) (stage : Stage) (texts : List (List ℕ)) (parts : List ProposalPart) → with_pieces roster n (reading_at stage) texts ≡ Ok parts
    → text_at roster stage ++ join_with_byte 10 texts ≡ text_of_parts roster parts
unfolding with_pieces
pieces_are roster n stage [] parts e = absurd cc
pieces_are roster n stage (piece ∷ more) parts e = by_more roster n stage piece more parts (λ to e'. pieces_are roster (n + 1) to more parts e') (eqb (length more) 0) refl e

within : (long : Bool) (r : Result (List ProposalPart) FileFault) (parts : List ProposalPart) → cond long (Err TooLong) r ≡ Ok parts → r ≡ Ok parts
within true r parts h = absurd cc
within false r parts h = h

pub what_is_read_is_its_text : WhatIsReadIsItsText
what_is_read_is_its_text roster text parts e =
    sym (join_with_byte-slice_split 10 text)
    ∙ pieces_are roster 1 (Stage.Between []) (pieces 10 text) parts (within (ltb 67108864 (length text)) (with_pieces roster 1 nothing_read (pieces 10 text)) parts e)
