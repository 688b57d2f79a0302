use Rattle.std.proofs.Common.{◌≡◌}
use Rattle.book_tests.proofs.machine.taking_back.tried.Given as goal

abbrev pub invariant-loop-step : goal.invariant-loop-step
invariant-loop-step l = l.machine.state ≡ l.fn.machine.state
