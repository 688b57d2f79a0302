use Rattle.std.proofs.Common.{◌≡◌, Some}
use Rattle.publication_list.specs.Tokens.{IsPublishedIn, asked}
use Rattle.book_tests.proofs.places.asks.ask.Given as goal

abbrev pub invariant-loop : goal.invariant-loop
invariant-loop g l = IsPublishedIn l.list l.published × (asked l.published ≡ Some l.fn.request)
