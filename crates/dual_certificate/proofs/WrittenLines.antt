-- A line that is written leads from what was read to what is read with it.
use Rattle.std.proofs.Common.{◌≡◌, ◌∙◌, sym, ap, refl, subst, ℕ, ◌+◌, ◌<◌, ◌≤◌, ◌^◌, List, [], ◌∷◌, ◌++◌, length, true, false, eqb, ℤ, Some, None, codes, decimal, arith, append_assoc}
use Rattle.std.proofs.lemmas.Bool.{cond-true}
use Rattle.std.proofs.lemmas.List.Splits.{slice_split_at}
use Rattle.std.specs.Fmt.{signed_decimal}
use Rattle.network_laws.specs.declared.rows.Row.{Row as NetworkRow}
use Rattle.network_laws.specs.Networks.{AreRows}
use Rattle.network_laws.specs.Solutions.{IsPotential}
use Rattle.units_core.specs.Name.{is_name}
use Rattle.command_types.specs.declared.roster.MemberRow.{MemberRow}
use Rattle.command_types.specs.Roster.{Rows, IsRoster, member_place, is_member_at}
use Rattle.command_types.specs.Names.{HasNames}
use Rattle.command_types.specs.Text.{member_name, member_row_name}
use Rattle.dual_certificate.specs.declared.proposal_part.ProposalPart.{ProposalPart}
use Rattle.dual_certificate.specs.declared.proposal_line.Figures.{Figures}
use Rattle.dual_certificate.specs.declared.proposal_line.ProposalLine.{ProposalLine}
use Rattle.dual_certificate.specs.declared.proposal_line.ProposalLine.TheVariants.{Row, Pot}
use Rattle.dual_certificate.specs.ProposalLine.{pieces, line_of_words}
use Rattle.dual_certificate.specs.ProposalText.{row_text, pot_text}
use Rattle.dual_certificate.specs.Proposal.{Reading, fits, with_row, with_said, with_pieces}
use Rattle.dual_certificate.proofs.LineTexts.{row_said, pot_said, row_words, pot_words}
use Rattle.dual_certificate.proofs.PlaceFacts.{at_place, place_back, member_is}
use Rattle.dual_certificate.proofs.ReadFacts.{stands}
use Rattle.dual_certificate.proofs.SpacedWords.{IsWord, AreWords, spaced, words_are, no_feed_in, verb_is, name_is, number_is, signed_is}
use Rattle.dual_certificate.proofs.WrittenRows.{good_at, total_at, fits_at}

-- whatever stands behind it, the text leads from one reading to another
pub record Leads (roster : Rows) (r : Reading) (text : List ℕ) (next : Reading) : Type 0 where
  pub leads : (n : ℕ) (rest : List ℕ) → (m : ℕ) × (with_pieces roster n r (pieces 10 (text ++ rest)) ≡ with_pieces roster m next (pieces 10 rest))

pub leads_nowhere : (roster : Rows) (r : Reading) → Leads roster r [] r
leads_nowhere roster r = record { leads = λ n rest. (n, refl) }

pub leads_on : (roster : Rows) (r mid next : Reading) (first second : List ℕ) → Leads roster r first mid → Leads roster mid second next → Leads roster r (first ++ second) next
leads_on roster r mid next first second a b = record {
  leads = λ n rest. (
      let one = a.leads n (second ++ rest) in
      let two = b.leads one.0 rest in
      (two.0, ap (λ t. with_pieces roster n r (pieces 10 t)) (append_assoc first second rest) ∙ one.1 ∙ two.1));
}

-- a line of words, with its line feed
pub leads_by : (roster : Rows) (r next : Reading) (verb : List ℕ) (words : List (List ℕ)) (said : ProposalLine) (line : List ℕ) → IsWord verb → AreWords words → line ≡ spaced verb words
    → line_of_words (verb ∷ words) ≡ Some said → with_said roster r (Some said) ≡ Some next → Leads roster r (line ++ codes "\n") next
leads_by roster r next verb words said line is are written says due =
    let text = spaced verb words in
    let here = ap (λ w. with_said roster r (line_of_words w)) (words_are verb words is are) ∙ ap (with_said roster r) says ∙ due in
    subst (λ t. Leads roster r (t ++ codes "\n") next) (sym written) (record {
      leads = λ n rest. (
        n + 1,
        stands roster n r next ((text ++ codes "\n") ++ rest) text rest
            (ap (pieces 10) (append_assoc text (codes "\n") rest) ∙ slice_split_at (λ b. eqb b 10) text 10 rest (no_feed_in verb words is are) refl)
            here,
      );
    })

-- a part that is begun
abbrev pub in_part : List ProposalPart → Figures → List NetworkRow → List ℤ → Reading
in_part parts figures rows potentials = record { parts = parts; figures = Some figures; rows = rows; potentials = potentials; has_ended = false }

-- no part is begun
abbrev pub between : List ProposalPart → Reading
between parts = record { parts = parts; figures = None; rows = []; potentials = []; has_ended = false }

module _ (roster : Rows) (is : IsRoster roster) (names : HasNames roster) (parts : List ProposalPart) (figures : Figures) where
  pub row_leads : (done : List NetworkRow) (row : NetworkRow) (rest : List NetworkRow) → AreRows (length roster.members) (done ++ (row ∷ rest))
      → Leads roster (in_part parts figures done []) (row_text roster row) (in_part parts figures (done ++ (row ∷ [])) [])
  row_leads done row rest are =
      let good = good_at (length roster.members) done row rest are in
      let seller = at_place (λ (r : MemberRow). is_name r.name ≡ true) roster.members row.seller names.members good.seller in
      let buyer = at_place (λ (r : MemberRow). is_name r.name ≡ true) roster.members row.buyer names.members good.buyer in
      let most : row.amount ≤ 10 ^ 18 = omega (arith, total_at (length roster.members) done row rest are) in
      let r = in_part parts figures done [] in
      let due : with_row r (member_place roster seller.row.name) (member_place roster buyer.row.name) row.amount ≡ Some (in_part parts figures (done ++ (row ∷ [])) []) =
      ap (λ o. with_row r o (member_place roster buyer.row.name) row.amount) (place_back roster row.seller seller.row is seller.there)
      ∙ ap (λ o. with_row r (Some row.seller) o row.amount) (place_back roster row.buyer buyer.row is buyer.there)
      ∙ cond-true (fits done row) (Some (in_part parts figures (done ++ (row ∷ [])) [])) None (fits_at (length roster.members) done row rest are) in
      let line = λ (a : List ℕ) (b : List ℕ). codes "row " ++ a ++ codes " " ++ b ++ codes " " ++ decimal row.amount in
      let named : codes "row " ++ member_name roster row.seller ++ codes " " ++ member_name roster row.buyer ++ codes " " ++ decimal row.amount ≡ line seller.row.name buyer.row.name =
      ap (λ o. line (member_row_name o) (member_name roster row.buyer)) seller.there ∙ ap (λ o. line seller.row.name (member_row_name o)) buyer.there in
      leads_by roster r (in_part parts figures (done ++ (row ∷ [])) []) (codes "row") (seller.row.name ∷ buyer.row.name ∷ decimal row.amount ∷ []) (Row seller.row.name buyer.row.name row.amount)
      (codes "row " ++ member_name roster row.seller ++ codes " " ++ member_name roster row.buyer ++ codes " " ++ decimal row.amount)
      (verb_is (codes "row") refl refl) (name_is seller.row.name seller.has, (name_is buyer.row.name buyer.has, (number_is row.amount (omega arith), tt)))
      (named ∙ row_words seller.row.name buyer.row.name (decimal row.amount))
      (row_said seller.row.name buyer.row.name row.amount seller.has buyer.has good.positive most)
      due

  pub pot_leads : (rows : List NetworkRow) (done : List ℤ) (value : ℤ) (member : ℕ) → member ≡ length done → member < length roster.members → IsPotential value
      → Leads roster (in_part parts figures rows done) (pot_text roster member value) (in_part parts figures rows (done ++ (value ∷ [])))
  pot_leads rows done value member at l small =
      let who = at_place (λ (r : MemberRow). is_name r.name ≡ true) roster.members member names.members l in
      let next = in_part parts figures rows (done ++ (value ∷ [])) in
      let there : is_member_at roster (length done) who.row.name ≡ true = ap (λ k. is_member_at roster k who.row.name) (sym at) ∙ member_is roster member who.row who.there in
      leads_by roster (in_part parts figures rows done) next (codes "pot") (who.row.name ∷ signed_decimal value ∷ []) (Pot who.row.name value)
      (codes "pot " ++ member_name roster member ++ codes " " ++ signed_decimal value)
      (verb_is (codes "pot") refl refl) (name_is who.row.name who.has, (signed_is value small, tt))
      (ap (λ o. codes "pot " ++ member_row_name o ++ codes " " ++ signed_decimal value) who.there ∙ pot_words who.row.name (signed_decimal value))
      (pot_said who.row.name value who.has small)
      (cond-true (is_member_at roster (length done) who.row.name) (Some next) None there)
