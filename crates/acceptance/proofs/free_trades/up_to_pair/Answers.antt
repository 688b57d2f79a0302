use Rattle.std.proofs.Common.{◌+◌, arith, ap}
use Rattle.acceptance.specs.declared.free_trades.Pair.{Pair}
use Rattle.acceptance.specs.Planning.{pair_place}
use Rattle.acceptance.proofs.SortedTrades.{upto_is_all}
use Rattle.acceptance.proofs.free_trades.up_to_pair.Goals as goal

pub returns : goal.returns
returns c =
    let pair = c.args.pair.now in
    let place = ap (λ (p : Pair). pair_place p.product p.seller p.buyer) c.pair.view_is in
    upto_is_all pair.product pair.seller pair.buyer (c.pair_place-place.result + 1) c.args.rows.now c.passed.result (omega (arith, c.pair_place-place.ensures, place)) c.passed.ensures.behind
