use Rattle.std.proofs.Common.{◌∙◌, ◌++◌, ◌∷◌, [], take, ap, sym}
use Rattle.std.proofs.lemmas.List.{take_more}
use Rattle.network_laws.specs.Solutions.{SolutionData}
use Rattle.cycle_states.proofs.machine.solutions.copies.Goals as goal

pub loop-solution-preserved : goal.loop-solution-preserved
loop-solution-preserved c =
    let solutions = c.args.solutions.now in
    let i = c.loop-solution.solution-index in
    let item : SolutionData = c.solution-item.result in
    c.in_ok-push.ensures.items
    ∙ ap (λ xs. xs ++ c.in_ok-copy.copy ∷ []) c.loop-solution.invariant
    ∙ ap (λ (x : SolutionData). take i solutions ++ x ∷ []) (c.in_ok-copy.ensures ∙ c.solution-item.is)
    ∙ sym (take_more solutions i item c.loop-solution-test.true)
