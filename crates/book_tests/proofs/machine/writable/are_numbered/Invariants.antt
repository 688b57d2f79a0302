use Rattle.std.proofs.Common.{◌+◌, drop}
use Rattle.command_types.specs.Bases.{AreNumbered}
use Rattle.book_tests.proofs.machine.writable.are_numbered.Given as goal

abbrev pub invariant-loop-i : goal.invariant-loop-i
invariant-loop-i l = AreNumbered (l.i + 1) (drop l.i l.rows) → AreNumbered 1 l.rows
