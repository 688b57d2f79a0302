-- What is solved for a market passes.
use Rattle.std.proofs.Common.{◌≡◌, ◌∙◌, sym, ap, refl, subst, ℕ, ◌<◌, ◌≤◌, List, [], length, get_or, true, Option, None, arith, eqb}
use Rattle.std.proofs.lemmas.Bool.{and_from, eq-eqb}
use Rattle.std.specs.List.{All}
use Rattle.network_laws.specs.Networks.{NetworkData, gross, floor_m, bilateral}
use Rattle.network_laws.specs.Solutions.{SolutionData, IsSolution}
use Rattle.command_types.specs.declared.cycle.Mode.{Mode}
use Rattle.command_types.specs.Roster.{Rows}
use Rattle.trade_file.specs.declared.file_trade.FileTrade.{FileTrade}
use Rattle.trade_file.specs.Networks.{AreNetworksOf}
use Rattle.dual_certificate.specs.declared.proposal_part.ProposalPart.{ProposalPart}
use Rattle.dual_certificate.specs.Parts.{AreParts}
use Rattle.dual_certificate.specs.Proposal.{proposal_of}
use Rattle.dual_certificate.specs.ProposalText.{proposal_text}
use Rattle.dual_certificate.specs.Writing.{HasMembers}
use Rattle.dual_certificate.specs.Laws.{AreOfRoster, part_for, parts_for}
use Rattle.dual_certificate.proofs.WrittenTexts.{part_at, parts_length, what_is_written_reads_back}
use Rattle.file_market.specs.declared.failing.Failing.{Failing}
use Rattle.file_market.specs.Check.{has_figures, IsChecked}
use Rattle.file_market.specs.Solve.{AreSolutions}
use Rattle.file_market.specs.Laws.{IsPassed, WhatIsSolvedPasses}
use Rattle.file_market.proofs.OneNetwork.{one_network}
use Rattle.file_market.proofs.PassFacts.{nothing_fails_where_all_pass}
use Rattle.file_market.proofs.SolutionFacts.{solve_members}

figures_are : (old : NetworkData) (new : SolutionData) → has_figures old (part_for old new) ≡ true
figures_are old new =
    let same : (n : ℕ) → eqb n n ≡ true = λ n. eq-eqb n n refl in
    and_from _ (eqb (gross new.network) (gross new.network))
    (and_from _ (eqb (gross new.network) (gross new.network))
    (and_from _ (eqb (bilateral old) (bilateral old))
    (and_from (eqb (gross old) (gross old)) (eqb (floor_m old) (floor_m old)) (same (gross old)) (same (floor_m old)))
    (same (bilateral old)))
    (same (gross new.network)))
    (same (gross new.network))

module _ (rows : Rows) (mode : Mode) (trades : List FileTrade) (networks : List NetworkData) (solutions : List SolutionData) (market : AreNetworksOf rows trades networks) (solved : AreSolutions rows mode networks solutions) where
  no_network : NetworkData
  no_network = record { members = 0; rows = [] }

  no_solution : SolutionData
  no_solution = record { network = record { members = 0; rows = [] }; potentials = [] }

  count : length (parts_for networks solutions) ≡ length rows.products
  count = parts_length networks solutions (sym solved.count) ∙ solved.count ∙ market.count

  of_roster : AreOfRoster rows networks solutions
  of_roster = record {
    count = market.count;
    solved = solved.count ∙ market.count;
    networks = λ k d l. (market.each k d l).good;
    solutions = λ k d l. (let in_networks : k < length networks = omega (arith, solved.count) in (solved.each k no_network d in_networks).good);
    members = solve_members rows mode trades networks solutions market solved;
  }

  all_parts : (P : ProposalPart → Type 0) → ((k : ℕ) → k < length networks → P (part_for (get_or networks k no_network) (get_or solutions k no_solution))) → All P (parts_for networks solutions)
  all_parts P each = λ k d l.
      (let in_networks : k < length networks = omega (arith, count, market.count) in
      let in_solutions : k < length solutions = omega (arith, solved.count) in
      subst P (sym (part_at networks solutions k no_network no_solution d in_networks in_solutions)) (each k in_networks))

  members_at : (k : ℕ) → k < length networks → HasMembers rows (get_or solutions k no_solution).network
  members_at k l = let in_solutions : k < length solutions = omega (arith, solved.count) in solve_members rows mode trades networks solutions market solved k no_solution in_solutions

  are_parts : AreParts rows (parts_for networks solutions)
  are_parts = record {
    count = count;
    members = all_parts (λ (part : ProposalPart). HasMembers rows part.solution.network) members_at;
    potentials = all_parts (λ (part : ProposalPart). length part.solution.potentials ≡ length rows.members) (λ k l. (solved.each k no_network no_solution l).good.one_each ∙ members_at k l);
    good = all_parts (λ (part : ProposalPart). IsSolution part.solution) (λ k l. (solved.each k no_network no_solution l).good);
  }

  passed : (product : ℕ) (e : ProposalPart) → product < length networks → IsPassed rows mode product (get_or networks product no_network) (get_or (parts_for networks solutions) product e)
  passed product e l =
      let in_solutions : product < length solutions = omega (arith, solved.count) in
      let old = get_or networks product no_network in
      let new = get_or solutions product no_solution in
      subst (λ (part : ProposalPart). IsPassed rows mode product old part) (sym (part_at networks solutions product no_network no_solution e l in_solutions))
      (record { certified = (solved.each product no_network no_solution l).solves.certified; figures = figures_are old new })

  yes : (found : Option Failing) → IsChecked rows mode trades (parts_for networks solutions) found → found ≡ None
  yes found checked =
      let law = nothing_fails_where_all_pass rows mode checked.networks (parts_for networks solutions) checked.market.count (λ k d l. (checked.market.each k d l).members) are_parts in
      checked.first
      ∙ law.1 (λ product d e l.
      let in_networks : product < length networks = omega (arith, market.count) in
      let in_checked : product < length checked.networks = omega (arith, checked.market.count) in
      subst (λ (y : NetworkData). IsPassed rows mode product y (get_or (parts_for networks solutions) product e))
      (one_network rows trades product (get_or networks product no_network) (get_or checked.networks product d) (market.each product no_network in_networks) (checked.market.each product d in_checked))
      (passed product e in_networks))

pub what_is_solved_passes : WhatIsSolvedPasses
what_is_solved_passes rows mode trades text is names text_is short =
    let networks = text_is.networks in
    let solutions = text_is.solutions in
    let market = text_is.market in
    let solved = text_is.solved in
    let shorter : length (proposal_text rows networks solutions) ≤ 67108864 = omega (arith, ap length text_is.written) in
    record {
      parts = parts_for networks solutions;
      says = ap (proposal_of rows) text_is.written ∙ what_is_written_reads_back rows networks solutions is names (of_roster rows mode trades networks solutions market solved) shorter;
      good = are_parts rows mode trades networks solutions market solved;
      yes = yes rows mode trades networks solutions market solved;
    }
