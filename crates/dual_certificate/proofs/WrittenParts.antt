-- The text of parts, part by part: it is read as these parts.
use Rattle.std.proofs.Common.{◌≡◌, ◌∙◌, sym, ap, refl, subst, ℕ, ◌+◌, ◌<◌, ◌≤◌, ◌^◌, List, [], ◌∷◌, ◌++◌, length, true, ◌&&◌, eqb, ltb, ℤ, Some, None, Ok, Err, codes, decimal, arith, append_assoc}
use Rattle.std.proofs.lemmas.Bool.{and_from, cond-true, cond-false, eq-eqb, le-ltb}
use Rattle.std.proofs.lemmas.List.{append-nil, length_push}
use Rattle.std.proofs.lemmas.List.Elements.{All-head, All-tail}
use Rattle.std.specs.List.{All, slice_get}
use Rattle.network_laws.specs.declared.rows.Row.{Row as NetworkRow}
use Rattle.network_laws.specs.Networks.{AreRows}
use Rattle.network_laws.specs.Solutions.{IsSolution, IsPotential}
use Rattle.units_core.specs.Name.{is_name}
use Rattle.command_types.specs.declared.roster.ProductRow.{ProductRow}
use Rattle.command_types.specs.declared.file_fault.FileFault.TheVariants.{TooLong}
use Rattle.command_types.specs.Roster.{Rows, IsRoster}
use Rattle.command_types.specs.Names.{HasNames}
use Rattle.command_types.specs.Text.{product_row_name}
use Rattle.dual_certificate.specs.declared.proposal_part.ProposalPart.{ProposalPart}
use Rattle.dual_certificate.specs.declared.proposal_line.Figures.{Figures}
use Rattle.dual_certificate.specs.declared.proposal_line.ProposalLine.TheVariants.{Product, Bound, End}
use Rattle.dual_certificate.specs.ProposalLine.{pieces}
use Rattle.dual_certificate.specs.ProposalText.{row_text, rows_text, pot_text, pots_text}
use Rattle.dual_certificate.specs.Proposal.{Reading, is_product_row, finished, with_pieces, nothing_read, proposal_of}
use Rattle.dual_certificate.specs.Parts.{AreParts}
use Rattle.dual_certificate.specs.Writing.{HasMembers}
use Rattle.dual_certificate.specs.PartsText.{figures_in, head_text, lines_of_part, lines_from, text_of_parts, AreSmall, HasSmall, TheirTextIsRead}
use Rattle.dual_certificate.proofs.LineTexts.{product_said, product_words, bound_said, end_said}
use Rattle.dual_certificate.proofs.PlaceFacts.{at_place, product_is}
use Rattle.dual_certificate.proofs.ReadFacts.{last}
use Rattle.dual_certificate.proofs.SpacedWords.{verb_is, name_is, number_is}
use Rattle.dual_certificate.proofs.WrittenLines.{Leads, leads_nowhere, leads_on, leads_by, in_part, between, row_leads, pot_leads}

-- the part over so many members
abbrev over : ProposalPart → ℕ → ProposalPart
over part members = record part { solution = record (part.solution) { network = record (part.solution.network) { members = members } } }

module _ (roster : Rows) (is : IsRoster roster) (names : HasNames roster) (parts : List ProposalPart) where
  head_leads : (product : ℕ) (figures : Figures) → product ≡ length parts → product < length roster.products → AreSmall figures → Leads roster (between parts) (head_text roster product figures) (in_part parts figures [] [])
  head_leads product figures at l small =
      let what = at_place (λ (r : ProductRow). is_name r.name ≡ true) roster.products product names.products l in
      let name = what.row.name in
      let next = in_part parts figures [] [] in
      let gross = decimal figures.gross in
      let least = decimal figures.least in
      let floor_m = decimal figures.floor_m in
      let bilateral = decimal figures.bilateral in
      let there : is_product_row (slice_get roster.products (length parts)) name ≡ true = ap (λ k. is_product_row (slice_get roster.products k) name) (sym at) ∙ product_is roster product what.row what.there in
      let line = λ (n : List ℕ). codes "product " ++ n ++ codes " " ++ gross ++ codes " " ++ least ++ codes " " ++ floor_m ++ codes " " ++ bilateral in
      leads_by roster (between parts) next (codes "product") (name ∷ gross ∷ least ∷ floor_m ∷ bilateral ∷ []) (Product name figures) (line (product_row_name (slice_get roster.products product)))
      (verb_is (codes "product") refl refl)
      (name_is name what.has, (number_is figures.gross (omega (arith, small.gross)), (number_is figures.least (omega (arith, small.least)), (number_is figures.floor_m (omega (arith, small.floor_m)), (number_is figures.bilateral (omega (arith, small.bilateral)), tt)))))
      (ap (λ o. line (product_row_name o)) what.there ∙ product_words name gross least floor_m bilateral)
      (product_said name figures.gross figures.least figures.floor_m figures.bilateral what.has small.gross small.least small.floor_m small.bilateral)
      (cond-true (is_product_row (slice_get roster.products (length parts)) name) (Some next) None there)

  rows_lead : (figures : Figures) (done rows : List NetworkRow) → AreRows (length roster.members) (done ++ rows)
      → Leads roster (in_part parts figures done []) (rows_text roster rows) (in_part parts figures (done ++ rows) [])
  rows_lead figures done [] are = subst (λ (rows : List NetworkRow). Leads roster (in_part parts figures done []) [] (in_part parts figures rows [])) (sym (append-nil done)) (leads_nowhere roster (in_part parts figures done []))
  rows_lead figures done (row ∷ rows) are =
      let same : (done ++ (row ∷ [])) ++ rows ≡ done ++ (row ∷ rows) = append_assoc done (row ∷ []) rows in
      let rest = rows_lead figures (done ++ (row ∷ [])) rows (subst (AreRows (length roster.members)) (sym same) are) in
      leads_on roster (in_part parts figures done []) (in_part parts figures (done ++ (row ∷ [])) []) (in_part parts figures (done ++ (row ∷ rows)) []) (row_text roster row) (rows_text roster rows)
      (row_leads roster is names parts figures done row rows are)
      (subst (λ (all : List NetworkRow). Leads roster (in_part parts figures (done ++ (row ∷ [])) []) (rows_text roster rows) (in_part parts figures all [])) same rest)

  pots_lead : (figures : Figures) (rows : List NetworkRow) (done values : List ℤ) (member : ℕ) → member ≡ length done → length done + length values ≤ length roster.members → All IsPotential values
      → Leads roster (in_part parts figures rows done) (pots_text roster member values) (in_part parts figures rows (done ++ values))
  pots_lead figures rows done [] member at l small = subst (λ (values : List ℤ). Leads roster (in_part parts figures rows done) [] (in_part parts figures rows values)) (sym (append-nil done)) (leads_nowhere roster (in_part parts figures rows done))
  pots_lead figures rows done (value ∷ values) member at l small =
      let same : (done ++ (value ∷ [])) ++ values ≡ done ++ (value ∷ values) = append_assoc done (value ∷ []) values in
      let longer : length (done ++ (value ∷ [])) ≡ length done + 1 = length_push done value in
      let next : member + 1 ≡ length (done ++ (value ∷ [])) = omega arith in
      let rest = pots_lead figures rows (done ++ (value ∷ [])) values (member + 1) next (omega arith) (All-tail IsPotential value values small) in
      leads_on roster (in_part parts figures rows done) (in_part parts figures rows (done ++ (value ∷ []))) (in_part parts figures rows (done ++ (value ∷ values))) (pot_text roster member value) (pots_text roster (member + 1) values)
      (pot_leads roster is names parts figures rows done value member at (omega arith) (All-head IsPotential value values small))
      (subst (λ (all : List ℤ). Leads roster (in_part parts figures rows (done ++ (value ∷ []))) (pots_text roster (member + 1) values) (in_part parts figures rows all)) same rest)

  bound_leads : (part : ProposalPart) → IsSolution part.solution → HasMembers roster part.solution.network → part.bound ≤ 10 ^ 18
      → Leads roster (in_part parts (figures_in part) part.solution.network.rows part.solution.potentials) (codes "bound " ++ decimal part.bound ++ codes "\n") (between (parts ++ (part ∷ [])))
  bound_leads part good members most =
      let r = in_part parts (figures_in part) part.solution.network.rows part.solution.potentials in
      let each : length part.solution.potentials ≡ length roster.members = good.one_each ∙ members in
      let whole : finished roster r (figures_in part) part.bound ≡ part = ap (over part) (sym members) in
      leads_by roster r (between (parts ++ (part ∷ []))) (codes "bound") (decimal part.bound ∷ []) (Bound part.bound) (codes "bound " ++ decimal part.bound)
      (verb_is (codes "bound") refl refl) (number_is part.bound (omega (arith, most)), tt) refl (bound_said part.bound most)
      (cond-true (eqb (length part.solution.potentials) (length roster.members)) (Some (between (parts ++ (finished roster r (figures_in part) part.bound ∷ [])))) None (eq-eqb (length part.solution.potentials) (length roster.members) each)
      ∙ ap (λ p. Some (between (parts ++ (p ∷ [])))) whole)

  part_leads : (part : ProposalPart) (product : ℕ) → product ≡ length parts → product < length roster.products → IsSolution part.solution → HasMembers roster part.solution.network → HasSmall part
      → Leads roster (between parts) (lines_of_part roster product part) (between (parts ++ (part ∷ [])))
  part_leads part product at l good members small =
      let figures = figures_in part in
      let rows = part.solution.network.rows in
      let values = part.solution.potentials in
      let head = head_text roster product figures in
      let are : AreRows (length roster.members) rows = subst (λ m. AreRows m rows) members good.network.rows in
      let enough : 0 + length values ≤ length roster.members = omega (arith, good.one_each, members) in
      let first = leads_on roster (between parts) (in_part parts figures [] []) (in_part parts figures rows []) head (rows_text roster rows)
      (head_leads product figures at l small.figures) (rows_lead figures [] rows are) in
      let second = leads_on roster (between parts) (in_part parts figures rows []) (in_part parts figures rows values) (head ++ rows_text roster rows) (pots_text roster 0 values) first
      (pots_lead figures rows [] values 0 refl enough good.in_range) in
      leads_on roster (between parts) (in_part parts figures rows values) (between (parts ++ (part ∷ []))) (head ++ rows_text roster rows ++ pots_text roster 0 values)
      (codes "bound " ++ decimal part.bound ++ codes "\n") second (bound_leads part good members small.bound)

module _ (roster : Rows) (is : IsRoster roster) (names : HasNames roster) where
  parts_lead : (done parts : List ProposalPart) (product : ℕ) → product ≡ length done → length done + length parts ≡ length roster.products
      → All (λ (part : ProposalPart). IsSolution part.solution) parts → All (λ (part : ProposalPart). HasMembers roster part.solution.network) parts → All HasSmall parts
      → Leads roster (between done) (lines_from roster product parts) (between (done ++ parts))
  parts_lead done [] product at all good members small =
      subst (λ (ps : List ProposalPart). Leads roster (between done) [] (between ps)) (sym (append-nil done)) (leads_nowhere roster (between done))
  parts_lead done (part ∷ parts) product at all good members small =
      let same : (done ++ (part ∷ [])) ++ parts ≡ done ++ (part ∷ parts) = append_assoc done (part ∷ []) parts in
      let one_more : length (done ++ (part ∷ [])) ≡ length done + 1 = length_push done part in
      let here = part_leads roster is names done part product at (omega arith) (All-head (λ (p : ProposalPart). IsSolution p.solution) part parts good)
      (All-head (λ (p : ProposalPart). HasMembers roster p.solution.network) part parts members) (All-head HasSmall part parts small) in
      let rest = parts_lead (done ++ (part ∷ [])) parts (product + 1) (omega (arith, at, one_more)) (omega (arith, all, one_more)) (All-tail (λ (p : ProposalPart). IsSolution p.solution) part parts good)
      (All-tail (λ (p : ProposalPart). HasMembers roster p.solution.network) part parts members) (All-tail HasSmall part parts small) in
      leads_on roster (between done) (between (done ++ (part ∷ []))) (between (done ++ (part ∷ parts))) (lines_of_part roster product part) (lines_from roster (product + 1) parts) here
      (subst (λ (ps : List ProposalPart). Leads roster (between (done ++ (part ∷ []))) (lines_from roster (product + 1) parts) (between ps)) same rest)

  ended : List ProposalPart → Reading
  ended parts = record { parts = parts; figures = None; rows = []; potentials = []; has_ended = true }

  end_leads : (parts : List ProposalPart) → length parts ≡ length roster.products → Leads roster (between parts) (codes "end " ++ decimal (length roster.products) ++ codes "\n") (ended parts)
  unfolding ended
  end_leads parts all =
      let n = length roster.products in
      let few : n ≤ 64 = is.few_products in
      leads_by roster (between parts) (ended parts) (codes "end") (decimal n ∷ []) (End n) (codes "end " ++ decimal n)
      (verb_is (codes "end") refl refl) (number_is n (omega (arith, few)), tt) refl (end_said n (omega (arith, few)))
      (cond-true (eqb (length parts) n && eqb n n) (Some (ended parts)) None (and_from (eqb (length parts) n) (eqb n n) (eq-eqb (length parts) n all) (eq-eqb n n refl)))

  text_reads : (parts : List ProposalPart) → AreParts roster parts → All HasSmall parts → length (text_of_parts roster parts) ≤ 67108864 → proposal_of roster (text_of_parts roster parts) ≡ Ok parts
  unfolding ended
  text_reads parts are small short =
      let text = text_of_parts roster parts in
      let whole = leads_on roster (between []) (between parts) (ended parts) (lines_from roster 0 parts) (codes "end " ++ decimal (length roster.products) ++ codes "\n")
      (parts_lead [] parts 0 refl (omega (arith, are.count)) are.good are.members small) (end_leads parts are.count) in
      let walk = whole.leads 1 [] in
      cond-false (ltb 67108864 (length text)) (Err TooLong) (with_pieces roster 1 nothing_read (pieces 10 text)) (le-ltb 67108864 (length text) short)
      ∙ ap (λ t. with_pieces roster 1 nothing_read (pieces 10 t)) (sym (append-nil text))
      ∙ walk.1
      ∙ last roster walk.0 (ended parts) [] refl

pub their_text_is_read : TheirTextIsRead
their_text_is_read roster parts is names are small short = text_reads roster is names parts are small short
