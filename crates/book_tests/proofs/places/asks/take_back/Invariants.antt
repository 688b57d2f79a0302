use Rattle.publication_list.specs.Tokens.{IsPublishedIn}
use Rattle.book_tests.proofs.places.asks.take_back.Given as goal

abbrev pub invariant-loop : goal.invariant-loop
invariant-loop g l = IsPublishedIn l.list l.published
