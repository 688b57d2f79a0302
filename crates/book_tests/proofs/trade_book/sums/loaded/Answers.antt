use Rattle.std.proofs.Common.{sym, subst, ◌≤◌}
use Rattle.command_types.specs.Trades.{gross_of}
use Rattle.product_book.specs.Book.{gross_limit}
use Rattle.book_tests.proofs.trade_book.sums.loaded.Goals as goal

pub of_rows-requires-clause-bounded : goal.of_rows-requires-clause-bounded
of_rows-requires-clause-bounded c = λ product. subst (λ rows. gross_of product rows ≤ gross_limit) (sym c.rows.ensures.rows) (c.rows.ensures.bounded product)
