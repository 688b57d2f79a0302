use Rattle.publication_list.specs.Tokens.{IsServerOf}
use Rattle.book_tests.proofs.places.threads.serve.Given as goal

abbrev pub invariant-loop-place : goal.invariant-loop-place
invariant-loop-place l = IsServerOf l.list l.hand.server
