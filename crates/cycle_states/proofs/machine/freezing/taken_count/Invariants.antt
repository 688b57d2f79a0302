use Rattle.std.proofs.Common.{◌≡◌, ◌+◌, ◌≤◌, drop}
use Rattle.cycle_states.proofs.LoopFacts.{taken}
use Rattle.cycle_states.proofs.machine.freezing.taken_count.Given as goal

abbrev pub invariant-loop-row : goal.invariant-loop-row
invariant-loop-row l = record {
  rest : l.count + taken l.products l.day (drop l.row-index l.rows) ≡ taken l.products l.day l.rows;
  small : l.count ≤ l.row-index;
}
