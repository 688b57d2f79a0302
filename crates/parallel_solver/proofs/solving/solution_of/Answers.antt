use Rattle.std.proofs.Common.{◌≢◌, ◌∙◌, List, ℕ, length, get_or, refl, ap, sym, subst}
use Rattle.std.specs.Prelude.{map}
use Rattle.network_laws.specs.Solutions.{ProblemData}
use Rattle.network_laws.specs.Solved.{AreSolved}
use Rattle.split_parts.specs.Merged.{IsMerged, AreSolvedParts}
use Rattle.split_parts.specs.Own.{own_problem}
use Rattle.split_parts.specs.Parts.{PartsData, ArePartsOf, IsPartition}
use Rattle.split_parts.proofs.Certified.{merged_solves}
use Rattle.split_parts.proofs.Settled.{only_rising, settled_solves}
use Rattle.parallel_solver.proofs.Pieced.{more_pieces, one_piece, one_solved, only_part}
use Rattle.parallel_solver.proofs.solving.solution_of.Goals as goal

-- the parts of a problem, with their own problems
abbrev parts_of : ProblemData → List (List ℕ) → PartsData
parts_of problem parts = record { members = parts; problems = map (own_problem problem.limits problem.network) parts }

pub settle_others-solution-requires : goal.settle_others-solution-requires
settle_others-solution-requires c =
    let limits = c.args.problem.now.limits in
    let part = c.index-parts-0.result in
    let only = only_part c.args.cut.now.parts part (ap length (sym c.parts-parts.ensures) ∙ c.if-parts-eq1.true) (ap (λ (ps : List (List ℕ)). get_or ps 0 part) (sym c.parts-parts.ensures) ∙ sym c.index-parts-0.is) in
    record { rising = only_rising limits part (subst (IsPartition limits) only c.requires.cut.parts) }

pub returns-then-parts-eq1 : goal.returns-then-parts-eq1
returns-then-parts-eq1 c =
    let problem = c.args.problem.now in
    let part = c.index-parts-0.result in
    let own = c.args.own.items in
    let whole = c.in-Some.whole in
    let one = ap length (sym c.parts-parts.ensures) ∙ c.if-parts-eq1.true in
    let only = only_part c.args.cut.now.parts part one (ap (λ (ps : List (List ℕ)). get_or ps 0 part) (sym c.parts-parts.ensures) ∙ sym c.index-parts-0.is) in
    let alone = subst (IsPartition problem.limits) only c.requires.cut.parts in
    let solved = one_solved problem whole own c.pop.new.self.items c.in-Some.ensures.items (subst (λ ps. AreSolved ps own) (one_piece problem c.args.cut.now.parts one) c.requires.solved) in
    record {
      fits = c.potentials-potentials.ensures.solution;
      solves = settled_solves problem.limits problem.network part whole c.settle_others-solution.result alone solved.solves c.settle_others-solution.ensures;
    }

pub merge_parts-requires : goal.merge_parts-requires
merge_parts-requires c =
    let problem = c.args.problem.now in
    let parts = c.args.cut.now.parts in
    let own = c.args.own.items in
    let more : length parts ≢ 1 = λ one. c.if-parts-eq1.false (ap length c.parts-parts.ensures ∙ one) in
    let solved = subst (λ ps. AreSolved ps own) (more_pieces problem parts more) c.requires.solved in
    let count = ap (λ y. y.members) (sym c.network.ensures.value) ∙ sym c.members.ensures.value in
    let are : AreSolvedParts c.members.result parts own = record {
      problems = map (own_problem problem.limits problem.network) parts;
      are = record { limits = problem.limits; network = problem.network; problem = c.network.ensures.problem; count = count; are = record { members = c.requires.cut.parts; problems = refl } };
      solved = solved;
    } in
    subst (λ ps. AreSolvedParts c.members.result ps c.deref.result.now) (sym c.parts-parts.ensures) (subst (λ ss. AreSolvedParts c.members.result parts ss) (sym c.deref.ensures.value) are)

pub returns : goal.returns
returns c =
    let problem = c.args.problem.now in
    let parts = c.args.cut.now.parts in
    let own = c.args.own.items in
    let solution = c.in_ok-solution.solution in
    let more : length parts ≢ 1 = λ one. c.if-parts-eq1.false (ap length c.parts-parts.ensures ∙ one) in
    let solved = subst (λ ps. AreSolved ps own) (more_pieces problem parts more) c.requires.solved in
    let are : ArePartsOf problem.limits problem.network (parts_of problem parts) = record { members = c.requires.cut.parts; problems = refl } in
    let count = c.members.ensures.value ∙ ap (λ y. y.members) c.network.ensures.value in
    let merged = subst (λ ps. IsMerged ps c.members.result c.deref.result.now solution) c.parts-parts.ensures c.in_ok-solution.ensures in
    let merged_own = subst (λ ss. IsMerged parts c.members.result ss solution) c.deref.ensures.value merged in
    let fits = c.potentials-potentials-2.ensures.solution in
    record {
      fits = fits;
      solves = merged_solves problem.limits problem.network (parts_of problem parts) own solution c.network.ensures.problem are solved fits (subst (λ n. IsMerged parts n own solution) count merged_own);
    }
