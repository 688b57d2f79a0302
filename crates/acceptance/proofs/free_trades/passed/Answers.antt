use Rattle.std.proofs.Common.{arith, ap}
use Rattle.acceptance.specs.Planning.{trade_place}
use Rattle.acceptance.proofs.SortedTrades.{one_passed, none_behind}
use Rattle.acceptance.proofs.free_trades.passed.Goals as goal

pub loop-count-preserved : goal.loop-count-preserved
loop-count-preserved c =
    let row = c.index-rows-count.result in
    record {
      end = omega (arith, c.loop-count-test.true);
      before =
          one_passed c.args.rows.now c.args.place c.loop-count.count row c.loop-count.invariant.before c.loop-count-test.true
          (omega (arith, c.if-trade_place-place.true, c.trade_place.ensures, ap trade_place c.index-rows-count.is));
    }

pub returns-else-trade_place-place-clause-behind : goal.returns-else-trade_place-place-clause-behind
returns-else-trade_place-place-clause-behind c =
    none_behind c.args.rows.now c.args.place c.loop-count.count c.index-rows-count.result c.requires
    (λ within. omega (arith, c.if-trade_place-place.false, c.trade_place.ensures, ap trade_place c.index-rows-count.is))
