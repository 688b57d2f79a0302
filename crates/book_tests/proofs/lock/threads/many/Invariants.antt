use Rattle.cycle_lock.specs.Passes.{IsPassOf}
use Rattle.book_tests.proofs.lock.threads.many.Given as goal

abbrev pub invariant-loop-number : goal.invariant-loop-number
invariant-loop-number g l = IsPassOf l.turns l.pass
