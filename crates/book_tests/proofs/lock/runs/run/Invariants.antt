use Rattle.std.proofs.Common.{◌≤◌, length}
use Rattle.cycle_lock.specs.Passes.{IsPassOf}
use Rattle.book_tests.proofs.lock.runs.run.Given as goal

abbrev pub invariant-loop : goal.invariant-loop
invariant-loop g l = IsPassOf l.turns l.pass × (l.first ≤ length l.rows)
