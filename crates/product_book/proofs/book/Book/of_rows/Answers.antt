use Rattle.std.proofs.Common.{◌≡◌, ◌≤◌, ℕ, List, sym, subst, rules}
use Rattle.command_types.specs.declared.trade.TradeRow.{TradeRow}
use Rattle.command_types.specs.Trades.{gross_of}
use Rattle.product_book.specs.Book.{gross_limit}
use Rattle.product_book.proofs.book.Book.of_rows.Goals as goal

pub of_own_rows-requires-clause-bounded : goal.of_own_rows-requires-clause-bounded
of_own_rows-requires-clause-bounded c =
    let same : c.in_ok-copied.copied.items ≡ c.args.rows.now = search rules in
    subst (λ (rows : List TradeRow). (product : ℕ) → gross_of product rows ≤ gross_limit) (sym same) c.requires.bounded
