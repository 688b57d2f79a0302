use Rattle.std.proofs.Common.{arith}
use Rattle.std.proofs.lemmas.Result.{err_from_is_err_and}
use Rattle.record_codec.proofs.LoopFacts.{fails, rows_go_on, rows_end, rows_done}
use Rattle.record_codec.proofs.solution.read_rows.Goals as goal

pub returns-in_err-row : goal.returns-in_err-row
returns-in_err-row c =
    let p = err_from_is_err_and c.from_residual.result c.from_residual.ensures.1 in
    rw (p.1, p.2) (rows_end _ _ _ _ _ _ _ _ _ c.loop-test.true (fails _ _ c.in_err-row.ensures.reads) c.loop.invariant.0)

pub loop-preserved : goal.loop-preserved
loop-preserved c = (rw (c.in_ok-push.ensures.items, c.place_of-next.ensures.place) (rows_go_on _ _ _ _ _ _ _ _ _ _ c.loop-test.true c.in_ok-row.ensures.reads c.loop.invariant.0), omega arith)

pub returns : goal.returns
returns c = rows_done _ _ _ _ _ _ _ _ c.loop-test.false c.loop.invariant.0
