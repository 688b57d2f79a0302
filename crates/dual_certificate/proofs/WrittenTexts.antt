-- What is written for networks and solutions is the text of their parts, and is read as these.
use Rattle.std.proofs.Common.{◌≡◌, ◌∙◌, sym, ap, refl, subst, ℕ, zero, suc, ◌<◌, ◌≤◌, List, [], ◌∷◌, ◌++◌, length, take, get_or, sum_by, Some, codes, decimal, arith, add-one}
use Rattle.std.proofs.lemmas.List.{length-take-le, take_all, take_more}
use Rattle.std.proofs.lemmas.List.Sums.{sum_by-cons}
use Rattle.std.proofs.lemmas.Option.{slice_get-get_or}
use Rattle.std.specs.List.{All, slice_get}
use Rattle.network_laws.specs.declared.rows.Row.{Row as NetworkRow}
use Rattle.network_laws.specs.Networks.{NetworkData, IsNetwork, total, bilateral}
use Rattle.network_laws.specs.Solutions.{SolutionData, IsSolution}
use Rattle.net_positions.specs.Tables.{unmatched_part}
use Rattle.net_positions.proofs.PairsByRows.{bilateral_by_rows}
use Rattle.net_positions.proofs.Totals.{floor_m-within}
use Rattle.command_types.specs.Roster.{Rows}
use Rattle.dual_certificate.specs.declared.proposal_part.ProposalPart.{ProposalPart}
use Rattle.dual_certificate.specs.ProposalText.{part_text, part_of, parts_below}
use Rattle.dual_certificate.specs.Proposal.{proposal_of}
use Rattle.dual_certificate.specs.Parts.{AreParts}
use Rattle.dual_certificate.specs.Writing.{HasMembers}
use Rattle.dual_certificate.specs.Laws.{part_for, parts_for, WhatIsWrittenReadsBack}
use Rattle.dual_certificate.specs.PartsText.{lines_from, HasSmall, WhatIsWrittenIsItsText}
use Rattle.dual_certificate.proofs.StageFacts.{lines_push}
use Rattle.dual_certificate.proofs.WrittenParts.{their_text_is_read}

unmatched_small : (y : NetworkData) (rows : List NetworkRow) → sum_by (unmatched_part y) rows ≤ total rows
unmatched_small y [] = omega arith
unmatched_small y (row ∷ rows) =
    omega (arith, unmatched_small y rows, sum_by-cons (unmatched_part y) row rows, sum_by-cons (λ (r : NetworkRow). r.amount) row rows)

bilateral_within : (y : NetworkData) → IsNetwork y → bilateral y ≤ total y.rows
bilateral_within y is = omega (arith, unmatched_small y y.rows, bilateral_by_rows y is)

-- the part at a place
pub part_at : (olds : List NetworkData) (news : List SolutionData) (k : ℕ) (d : NetworkData) (e : SolutionData) (f : ProposalPart) → k < length olds → k < length news
    → get_or (parts_for olds news) k f ≡ part_for (get_or olds k d) (get_or news k e)
part_at [] news k d e f l l' = absurd (omega arith)
part_at (old ∷ olds) [] k d e f l l' = absurd (omega arith)
part_at (old ∷ olds) (new ∷ news) zero d e f l l' = refl
part_at (old ∷ olds) (new ∷ news) (suc k) d e f l l' = part_at olds news k d e f (omega arith) (omega arith)

pub parts_length : (olds : List NetworkData) (news : List SolutionData) → length olds ≡ length news → length (parts_for olds news) ≡ length news
parts_length [] [] h = refl
parts_length [] (new ∷ news) h = absurd (omega arith)
parts_length (old ∷ olds) [] h = absurd (omega arith)
parts_length (old ∷ olds) (new ∷ news) h = ap suc (parts_length olds news (omega arith))

no_network : NetworkData
no_network = record { members = 0; rows = [] }

no_solution : SolutionData
no_solution = record { network = record { members = 0; rows = [] }; potentials = [] }

module _ (roster : Rows) (olds : List NetworkData) (news : List SolutionData) (of_olds : length olds ≡ length roster.products) (of_news : length news ≡ length roster.products) where
  count : length (parts_for olds news) ≡ length roster.products
  count = parts_length olds news (omega (arith, of_olds, of_news)) ∙ of_news

  -- the text of the products below a number
  below_is : (n : ℕ) → n ≤ length roster.products → parts_below roster olds news n ≡ lines_from roster 0 (take n (parts_for olds news))
  below_is zero l = refl
  below_is (suc n) l =
      let parts = parts_for olds news in
      let old = get_or olds n no_network in
      let new = get_or news n no_solution in
      let part = part_for old new in
      let in_olds : n < length olds = omega (arith, of_olds) in
      let in_news : n < length news = omega (arith, of_news) in
      let in_parts : n < length parts = omega (arith, count) in
      let text : part_of roster n (slice_get olds n) (slice_get news n) ≡ part_text roster n old new =
      ap (λ o. part_of roster n o (slice_get news n)) (slice_get-get_or olds n no_network in_olds) ∙ ap (λ o. part_of roster n (Some old) o) (slice_get-get_or news n no_solution in_news) in
      let more : take n parts ++ (part ∷ []) ≡ take (suc n) parts =
      ap (λ p. take n parts ++ (p ∷ [])) (sym (part_at olds news n no_network no_solution part in_olds in_news)) ∙ sym (take_more parts n part in_parts) ∙ ap (λ k. take k parts) (add-one n) in
      ap (λ t. parts_below roster olds news n ++ t) text
      ∙ ap (λ t. t ++ part_text roster n old new) (below_is n (omega arith))
      ∙ sym (lines_push roster 0 n (take n parts) part (omega (arith, length-take-le n parts (omega arith))))
      ∙ ap (lines_from roster 0) more

pub what_is_written_is_its_text : WhatIsWrittenIsItsText
what_is_written_is_its_text roster olds news of_olds of_news =
    let parts = parts_for olds news in
    let n = length roster.products in
    let end = codes "end " ++ decimal n ++ codes "\n" in
    ap (λ t. t ++ end) (below_is roster olds news of_olds of_news n (omega arith) ∙ ap (lines_from roster 0) (take_all n parts (omega (arith, count roster olds news of_olds of_news))))

-- what holds of the part of each network and its solution holds of all
all_parts : (P : ProposalPart → Type 0) (olds : List NetworkData) (news : List SolutionData) → length olds ≡ length news
    → ((k : ℕ) → k < length news → P (part_for (get_or olds k no_network) (get_or news k no_solution))) → All P (parts_for olds news)
all_parts P olds news same each =
    λ k d l. (let in_news : k < length news = omega (arith, l, parts_length olds news same) in
    subst P (sym (part_at olds news k no_network no_solution d (omega (arith, in_news, same)) in_news)) (each k in_news))

small_part : (old : NetworkData) (new : SolutionData) → IsNetwork old → IsSolution new → HasSmall (part_for old new)
small_part old new of_old of_new = record {
  figures = record {
    gross = of_old.rows.within;
    least = of_new.network.rows.within;
    floor_m = omega (arith, of_old.rows.within, floor_m-within old);
    bilateral = omega (arith, of_old.rows.within, bilateral_within old of_old);
  };
  bound = of_new.network.rows.within;
}

pub what_is_written_reads_back : WhatIsWrittenReadsBack
what_is_written_reads_back roster olds news is names of short =
    let text = what_is_written_is_its_text roster olds news of.count of.solved in
    let same : length olds ≡ length news = omega (arith, of.count, of.solved) in
    let are : AreParts roster (parts_for olds news) = record {
      count = parts_length olds news same ∙ of.solved;
      members = all_parts (λ part. HasMembers roster part.solution.network) olds news same (λ k l. of.members k no_solution l);
      potentials = all_parts (λ part. length part.solution.potentials ≡ length roster.members) olds news same
          (λ k l. (of.solutions k no_solution l).one_each ∙ of.members k no_solution l);
      good = all_parts (λ part. IsSolution part.solution) olds news same (λ k l. of.solutions k no_solution l);
    } in
    let small = all_parts HasSmall olds news same (λ k l. small_part (get_or olds k no_network) (get_or news k no_solution) (of.networks k no_network (omega (arith, l, same))) (of.solutions k no_solution l)) in
    ap (proposal_of roster) text ∙ their_text_is_read roster (parts_for olds news) is names are small (subst (λ t. length t ≤ 67108864) text short)
