use Rattle.std.proofs.Common.{◌≤◌, ℕ, List, [], length, ap, sym, subst, ◌∙◌}
use Rattle.std.proofs.lemmas.List.{length-replicate}
use Rattle.command_types.specs.declared.trade.TradeRow.{TradeRow}
use Rattle.command_types.specs.Trades.{gross_of}
use Rattle.product_book.specs.Book.{gross_limit}
use Rattle.product_book.proofs.LinkedFacts.{none_linked}
use Rattle.product_book.proofs.LoadingFacts.{running_none}
use Rattle.product_book.proofs.book.Book.of_own_rows.Goals as goal

pub load-requires-clause-none : goal.load-requires-clause-none
load-requires-clause-none c =
    let links = c.reserve.new.self in
    let made = c.in_ok-links.ensures in
    let lists = c.reserve.ensures.products ∙ made.products in
    running_none _ _ c.args.members c.args.products c.in_ok-sums.sums links.by_product links.by_pair links.spare c.in_ok-sums.ensures.members
    (ap length lists ∙ length-replicate c.args.products []) c.requires.few_members c.requires.few_products c.in_ok-sums.ensures.kept
    (none_linked c.args.members c.args.products links.by_product links.by_pair links.spare lists (c.reserve.ensures.pairs ∙ made.pairs)
    (c.reserve.ensures.product_numbers ∙ made.product_numbers) (c.reserve.ensures.pair_numbers ∙ made.pair_numbers) c.reserve.ensures.product_room c.reserve.ensures.pair_room)

pub load-requires-clause-bounded : goal.load-requires-clause-bounded
load-requires-clause-bounded c = subst (λ (rows : List TradeRow). (product : ℕ) → gross_of product rows ≤ gross_limit) (sym c.deref.ensures.value) c.requires.bounded
