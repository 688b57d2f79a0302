use Rattle.std.proofs.Common.{◌≡◌, ◌-◌, drop}
use Rattle.std.specs.Prelude.{sum_by}
use Rattle.cycle_states.proofs.HeldPairs.{held_part}
use Rattle.cycle_states.proofs.machine.held_pair.above_held.Given as goal

abbrev pub invariant-loop-trade : goal.invariant-loop-trade
invariant-loop-trade l = l.left - sum_by held_part (drop l.trade-index l.trades) ≡ l.amount - sum_by held_part l.trades
