use Rattle.std.proofs.Common.{◌≡◌}
use Rattle.trade_file.specs.Generated.{first_trades, state_after}
use Rattle.trade_file.proofs.generated.trades.Given as goal

abbrev pub invariant-loop-trade : goal.invariant-loop-trade
invariant-loop-trade l = record {
  trades : l.trades.items ≡ first_trades l.number l._trade;
  state : l.draws ≡ state_after l.number l._trade;
}
