use Rattle.std.proofs.Common.{◌≡◌, ◌∙◌, ap, arith}
use Rattle.trade_file.specs.Generated.{first_trades}
use Rattle.trade_file.proofs.generated.trades.Goals as goal

pub returns : goal.returns
returns c =
    let all : c.loop-trade._trade ≡ 3000 = omega arith in
    c.loop-trade.invariant.trades ∙ ap (first_trades c.args.number) all
