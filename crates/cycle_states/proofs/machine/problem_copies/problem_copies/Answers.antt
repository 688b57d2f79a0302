use Rattle.std.proofs.Common.{◌∙◌, ◌++◌, ◌∷◌, [], take, ap, sym}
use Rattle.std.proofs.lemmas.List.{take_more}
use Rattle.network_laws.specs.Solutions.{ProblemData}
use Rattle.cycle_states.proofs.machine.problem_copies.problem_copies.Goals as goal

pub loop-problem-preserved : goal.loop-problem-preserved
loop-problem-preserved c =
    let problems = c.args.problems.now in
    let i = c.loop-problem.problem-index in
    let item : ProblemData = c.problem-item.result in
    c.in_ok-push.ensures.items
    ∙ ap (λ xs. xs ++ c.in_ok-copy.copy ∷ []) c.loop-problem.invariant
    ∙ ap (λ (x : ProblemData). take i problems ++ x ∷ []) (c.in_ok-copy.ensures ∙ c.problem-item.is)
    ∙ sym (take_more problems i item c.loop-problem-test.true)
