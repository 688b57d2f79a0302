use Rattle.std.proofs.Common.{◌≡◌}
use Rattle.book_tests.proofs.trade_book.sums.goes.Given as goal

abbrev pub invariant-loop-moment : goal.invariant-loop-moment
invariant-loop-moment l = record {
  members : l.book.members ≡ 3;
  products : l.book.products ≡ 2;
}
