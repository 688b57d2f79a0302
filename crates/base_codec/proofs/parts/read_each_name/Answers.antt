use Rattle.std.proofs.lemmas.Result.{err_from_is_err_and}
use Rattle.record_codec.proofs.LoopFacts.{fails, goes_on, ends, is_done}
use Rattle.base_codec.specs.Reading.{names_each}
use Rattle.base_codec.proofs.BaseKinds.{names_go}
use Rattle.base_codec.proofs.parts.read_each_name.Goals as goal

pub returns-in_err-name : goal.returns-in_err-name
returns-in_err-name c =
    let p = err_from_is_err_and c.from_residual.result c.from_residual.ensures.1 in
    rw (p.1, p.2) (ends names_each names_go _ _ _ _ _ _ c.loop-test.true (fails _ _ c.in_err-name.ensures.reads) c.loop.invariant)

pub loop-preserved : goal.loop-preserved
loop-preserved c = rw c.in_ok-push.ensures.items (goes_on names_each names_go _ _ _ _ _ _ _ c.loop-test.true c.in_ok-name.ensures.reads c.loop.invariant)

pub returns : goal.returns
returns c = is_done names_each names_go _ _ _ _ _ c.loop-test.false c.loop.invariant
