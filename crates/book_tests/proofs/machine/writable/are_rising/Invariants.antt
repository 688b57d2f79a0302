use Rattle.std.proofs.Common.{drop}
use Rattle.command_types.specs.Bases.{AreRising}
use Rattle.book_tests.proofs.machine.writable.are_rising.Given as goal

abbrev pub invariant-loop-row : goal.invariant-loop-row
invariant-loop-row l = AreRising l.next (drop l.row-index l.rows) → AreRising 0 l.rows
