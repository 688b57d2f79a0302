use Rattle.std.proofs.lemmas.Result.{err_from_is_err_and}
use Rattle.record_codec.proofs.LoopFacts.{fails}
use Rattle.base_codec.specs.Reading.{trades_each}
use Rattle.base_codec.proofs.TradeReading.{next_number, trades_go}
use Rattle.base_codec.proofs.FromReading.{from_goes_on, from_ends, from_done}
use Rattle.base_codec.proofs.parts.read_each_trade.Goals as goal

pub returns-in_err-row : goal.returns-in_err-row
returns-in_err-row c =
    let p = err_from_is_err_and c.from_residual.result c.from_residual.ensures.1 in
    rw (p.1, p.2) (from_ends next_number trades_each trades_go _ _ _ _ _ _ _ c.loop-index-test.true (fails _ _ c.in_err-row.ensures) c.loop-index.invariant)

pub loop-index-preserved : goal.loop-index-preserved
loop-index-preserved c =
    rw c.in_ok-push.ensures.items (from_goes_on next_number trades_each trades_go _ _ _ _ _ _ _ _ c.loop-index-test.true c.in_ok-row.ensures c.loop-index.invariant)

pub returns : goal.returns
returns c = from_done next_number trades_each trades_go _ _ _ _ _ _ c.loop-index-test.false c.loop-index.invariant
