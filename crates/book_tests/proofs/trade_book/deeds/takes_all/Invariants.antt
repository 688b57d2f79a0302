use Rattle.std.proofs.Common.{◌≡◌}
use Rattle.book_tests.proofs.trade_book.deeds.takes_all.Given as goal

abbrev pub invariant-loop-deed : goal.invariant-loop-deed
invariant-loop-deed l = record {
  members : l.book.members ≡ 3;
  products : l.book.products ≡ 2;
}
