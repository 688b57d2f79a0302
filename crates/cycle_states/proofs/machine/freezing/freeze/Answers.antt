use Rattle.std.proofs.Common.{◌∙◌, ap}
use Rattle.product_book.specs.Freezes.{chosen_by, rows_by_choice}
use Rattle.product_book.proofs.FreezeFacts.{freezes_by_maturity}
use Rattle.cycle_states.proofs.machine.freezing.freeze.Goals as goal

pub returns : goal.returns
returns c =
    let book = c.args.book.now in
    c.freeze.ensures.state
    ∙ ap (λ flags. record book { rows = rows_by_choice flags book.rows }) (c.choose.ensures ∙ ap (λ products. chosen_by products c.args.day) c.products-products.ensures.rows)
    ∙ ap (λ rows. record book { rows = rows }) (freezes_by_maturity c.args.roster.now.products c.args.day book.rows)
