use Rattle.std.proofs.Common.{◌≡◌, length}
use Rattle.publication_list.specs.Tokens.{IsServerOf, claims}
use Rattle.book_tests.proofs.places.asks.Hand.answer_all.Given as goal

abbrev pub invariant-loop-requests : goal.invariant-loop-requests
invariant-loop-requests l = IsServerOf l.list l.server × (claims l.server ≡ l.requests.items)

abbrev pub decreases-loop-requests : goal.decreases-loop-requests
decreases-loop-requests l = length l.requests.items
