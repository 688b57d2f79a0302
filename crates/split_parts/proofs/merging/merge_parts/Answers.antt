use Rattle.std.proofs.Common.{List, ℕ, false, refl, subst}
use Rattle.std.proofs.lemmas.Bool.{both_ways}
use Rattle.network_laws.specs.Networks.{IsNetwork}
use Rattle.network_laws.specs.Solutions.{SolutionData}
use Rattle.split_parts.specs.Parts.{PartsData}
use Rattle.split_parts.specs.Merged.{AreGoodParts, AreSolvedParts}
use Rattle.split_parts.proofs.Certified.{fit_parts, good_parts, merged_good}
use Rattle.split_parts.proofs.Good.{good_length}
use Rattle.split_parts.proofs.merging.merge_parts.Goals as goal

good_of : (members : ℕ) (parts : List (List ℕ)) (solutions : List SolutionData) → AreSolvedParts members parts solutions → AreGoodParts members parts solutions
good_of members parts solutions h =
    let p = h.are in
    let own : PartsData = record { members = parts; problems = h.problems } in
    subst (λ n. AreGoodParts n parts solutions) p.count (good_parts p.limits p.network parts solutions (fit_parts p.limits p.network own solutions p.problem p.are h.solved))

pub merged_rows-requires-clause-good : goal.merged_rows-requires-clause-good
merged_rows-requires-clause-good c = (c.args.members, good_of c.args.members c.args.parts.now c.args.solutions.now c.requires)

pub merged_rows-requires-clause-same : goal.merged_rows-requires-clause-same
merged_rows-requires-clause-same c = good_length c.args.members c.args.parts.now c.args.solutions.now (good_of c.args.members c.args.parts.now c.args.solutions.now c.requires)

pub merged_potentials-requires-clause-good : goal.merged_potentials-requires-clause-good
merged_potentials-requires-clause-good c = good_of c.args.members c.args.parts.now c.args.solutions.now c.requires

pub merged_potentials-requires-clause-same : goal.merged_potentials-requires-clause-same
merged_potentials-requires-clause-same c = good_length c.args.members c.args.parts.now c.args.solutions.now (good_of c.args.members c.args.parts.now c.args.solutions.now c.requires)

pub unreachable-requires : goal.unreachable-requires
unreachable-requires c =
    let p = c.requires.are in
    let rows = c.in_ok-rows.rows.items in
    let own : PartsData = record { members = c.args.parts.now; problems = c.requires.problems } in
    let good = merged_good p.limits p.network own c.args.solutions.now rows p.problem p.are c.requires.solved c.in_ok-rows.ensures.rows c.in_ok-rows.ensures.order in
    both_ways false refl (c.in-Err.ensures.good.1 (subst (λ n. IsNetwork (record { members = n; rows = rows })) p.count good))
