use Rattle.std.proofs.Common.{sym, subst, arith}
use Rattle.trade_file.specs.TradeFile.{AreFileTrades}
use Rattle.trade_file.specs.Generated.{generated_rows, generated_trades}
use Rattle.trade_file.proofs.GeneratedFacts.{are_trades}
use Rattle.trade_file.proofs.generated.generate.Goals as goal

pub returns-clause-within : goal.returns-clause-within
returns-clause-within c =
    let of_number : AreFileTrades generated_rows (generated_trades c.args.number) = are_trades c.args.number 3000 (omega arith) in
    subst (λ rows. AreFileTrades rows c.in_ok-trades.trades.items) (sym c.in_ok-roster.ensures) (subst (AreFileTrades generated_rows) (sym c.in_ok-trades.ensures) of_number)
