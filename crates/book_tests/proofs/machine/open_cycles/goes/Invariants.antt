use Rattle.book_tests.specs.Changes.{LeadTo}
use Rattle.book_tests.proofs.machine.open_cycles.goes.Given as goal

abbrev pub invariant-loop-turn : goal.invariant-loop-turn
invariant-loop-turn l = LeadTo l.turn-index l.fn.machine.state l.machine.state
