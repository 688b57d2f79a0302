use Rattle.std.proofs.lemmas.Result.{err_from_is_err_and}
use Rattle.record_codec.specs.Reading.{solutions_at}
use Rattle.record_codec.proofs.SolutionReading.{solutions_each}
use Rattle.record_codec.proofs.LoopFacts.{goes_on, ends, is_done}
use Rattle.record_codec.proofs.solution.read_solutions.Goals as goal

pub returns-in_err-solution : goal.returns-in_err-solution
returns-in_err-solution c =
    let p = err_from_is_err_and c.from_residual.result c.from_residual.ensures.1 in
    rw (p.1, p.2) (ends solutions_at solutions_each _ _ _ _ _ _ c.loop-test.true c.in_err-solution.ensures c.loop.invariant)

pub loop-preserved : goal.loop-preserved
loop-preserved c = rw c.in_ok-push.ensures.items (goes_on solutions_at solutions_each _ _ _ _ _ _ _ c.loop-test.true c.in_ok-solution.ensures c.loop.invariant)

pub returns : goal.returns
returns c = is_done solutions_at solutions_each _ _ _ _ _ c.loop-test.false c.loop.invariant
