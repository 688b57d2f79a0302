use Rattle.std.proofs.Common.{to_z-of_z}
use Rattle.std.proofs.lemmas.Result.{err_from_is_err_and}
use Rattle.record_codec.specs.Reading.{potentials_at}
use Rattle.record_codec.proofs.SolutionReading.{potentials_each, potential_allowed, potential_fits}
use Rattle.record_codec.proofs.LoopFacts.{fails, goes_on, ends, is_done}
use Rattle.record_codec.proofs.solution.read_potentials.Goals as goal

pub returns-in_err-potential : goal.returns-in_err-potential
returns-in_err-potential c =
    let p = err_from_is_err_and c.from_residual.result c.from_residual.ensures.1 in
    rw (p.1, p.2) (ends potentials_at potentials_each _ _ _ _ _ _ c.loop-test.true (fails _ _ c.in_err-potential.ensures) c.loop.invariant)

pub loop-preserved : goal.loop-preserved
loop-preserved c =
    let is = potential_allowed _ _ c.in_ok-potential.ensures in
    rw (c.in_ok-push.ensures.items, to_z-of_z (potential_fits _ is)) (goes_on potentials_at potentials_each _ _ _ _ _ _ _ c.loop-test.true c.in_ok-potential.ensures c.loop.invariant)

pub returns : goal.returns
returns c = is_done potentials_at potentials_each _ _ _ _ _ c.loop-test.false c.loop.invariant
