use Rattle.std.proofs.Common.{◌≤◌, ℕ, rules, IsTrue, length, sym, subst}
use Rattle.command_types.specs.Trades.{gross_of}
use Rattle.product_book.specs.Book.{gross_limit, AreTrades}
use Rattle.cycle_states.proofs.BaseFacts.{trades_of_base}
use Rattle.cycle_states.proofs.machine.Machine.of_base.Goals as goal

pub at_rest-requires-clause-trades : goal.at_rest-requires-clause-trades
at_rest-requires-clause-trades c =
    let members = length c.args.roster.members in
    let products = length c.args.roster.products in
    let fit : IsTrue c.fits.result = search rules in
    subst (AreTrades members products 1) (sym c.into_rows-trades.ensures) (trades_of_base members products 1 c.args.base.trades c.requires.numbered (c.fits.ensures.0 fit).trades)

pub at_rest-requires-clause-bounded : goal.at_rest-requires-clause-bounded
at_rest-requires-clause-bounded c =
    let fit : IsTrue c.fits.result = search rules in
    subst (λ trades. (product : ℕ) → gross_of product trades ≤ gross_limit) (sym c.into_rows-trades.ensures) (c.fits.ensures.0 fit).bounded
