use Rattle.std.proofs.Common.{◌≡◌}
use Rattle.book_tests.proofs.trade_book.freezes.freezes_and_thaws.Given as goal

abbrev pub invariant-loop-case : goal.invariant-loop-case
invariant-loop-case l = l.book.products ≡ 2
