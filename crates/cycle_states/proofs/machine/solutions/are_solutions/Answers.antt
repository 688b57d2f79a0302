use Rattle.std.proofs.Common.{All, List, get_or, rules, subst}
use Rattle.std.proofs.lemmas.List.Elements.{All-more}
use Rattle.network_laws.specs.Solutions.{SolutionData, IsSolution}
use Rattle.cycle_states.proofs.LoopFacts.{whole_front}
use Rattle.cycle_states.proofs.machine.solutions.are_solutions.Goals as goal

pub loop-solution-preserved : goal.loop-solution-preserved
loop-solution-preserved c =
    let solutions = c.args.solutions.now in
    let i = c.loop-solution.solution-index in
    let item : SolutionData = c.solution-item.result in
    let kept : IsSolution (get_or solutions i item) = search (rules, c.solution-item.is, c.network.ensures.solution) in
    All-more IsSolution solutions i item c.loop-solution-test.true c.loop-solution.invariant kept

pub returns : goal.returns
returns c =
    subst (λ (solutions : List SolutionData). All IsSolution solutions) (whole_front c.args.solutions.now c.loop-solution.solution-index c.loop-solution-test.false) c.loop-solution.invariant
