use Rattle.std.proofs.Common.{◌≤◌, length}
use Rattle.cycle_lock.specs.Passes.{IsPassOf}
use Rattle.book_tests.proofs.lock.runs.goes_in_runs.Given as goal

abbrev pub invariant-loop : goal.invariant-loop
invariant-loop g l = IsPassOf l.turns l.pass × IsPassOf l.turns l.other × (l.first ≤ length l.rows)
