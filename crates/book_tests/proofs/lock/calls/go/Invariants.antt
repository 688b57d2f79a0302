use Rattle.cycle_lock.specs.Passes.{IsPassOf}
use Rattle.book_tests.proofs.lock.calls.go.Given as goal

abbrev pub invariant-loop-row : goal.invariant-loop-row
invariant-loop-row g l = IsPassOf l.turns l.pass × IsPassOf l.turns l.other
