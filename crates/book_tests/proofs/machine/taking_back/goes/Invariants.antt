use Rattle.book_tests.specs.Changes.{LeadTo}
use Rattle.book_tests.proofs.machine.taking_back.goes.Given as goal

abbrev pub invariant-loop-round : goal.invariant-loop-round
invariant-loop-round l = LeadTo l.round-index l.fn.machine.state l.machine.state
