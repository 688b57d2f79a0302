use Rattle.std.proofs.Common.{◌+◌, ◌∙◌, List, Option, true, false, length, is_some, IsTrue, ap, refl, subst, sym}
use Rattle.command_types.specs.declared.trade.TradeRow.{TradeRow}
use Rattle.command_types.specs.Trades.{alleged_row, live_row, row_with_hold, trade_numbered}
use Rattle.product_book.specs.Book.{may_affirm}
use Rattle.cycle_states.specs.Undo.{only_marks}
use Rattle.cycle_states.proofs.UndoFacts.{affirm_earlier, affirm_there, alleged_back, free_there, hold_earlier, hold_there, marks_back, puts_back}
use Rattle.cycle_states.proofs.machine.undo.undo_for.Goals as goal

pub returns-in-Allege-clause-back : goal.returns-in-Allege-clause-back
returns-in-Allege-clause-back c = λ s same may.
    let e = c.in-Allege in
    rw e.is (alleged_back s (alleged_row (length s.trades + 1) e.seller e.buyer e.product e.amount e.day e.submitter) refl)

pub returns-in-Affirm-clause-back : goal.returns-in-Affirm-clause-back
returns-in-Affirm-clause-back c = λ s same may.
    let allowed = rw c.in-Affirm.is at may in
    rw c.in-Affirm.is
    (puts_back c.args.book.now.rows s same c.in-Affirm.trade live_row c.put_back.result c.put_back.ensures.was
    (λ was there. affirm_earlier was (subst (λ (o : Option TradeRow). IsTrue (may_affirm o)) there allowed)))

pub returns-in-Affirm-clause-some : goal.returns-in-Affirm-clause-some
returns-in-Affirm-clause-some c = λ s same may.
    let trade = c.in-Affirm.trade in
    let allowed = rw c.in-Affirm.is at may in
    rw c.in-Affirm.is (c.put_back.ensures.there ∙ ap (λ (rows : List TradeRow). is_some (trade_numbered rows trade)) (sym same) ∙ affirm_there (trade_numbered s.trades trade) allowed)

pub returns-in-End-clause-back : goal.returns-in-End-clause-back
returns-in-End-clause-back c = λ s same may.
    let trade = c.in-End.trade in
    rw c.in-End.is
    (marks_back c.args.book.now.rows s same trade c.in-End.side c.put_back_unmarked.result c.put_back_unmarked.ensures.was
    (c.put_back_unmarked.ensures.marks ∙ ap (λ (rows : List TradeRow). only_marks (trade_numbered rows trade)) (sym same)))

pub returns-in-End-clause-some : goal.returns-in-End-clause-some
returns-in-End-clause-some c = λ s same may.
    let trade = c.in-End.trade in
    rw c.in-End.is (c.put_back_unmarked.ensures.marks ∙ ap (λ (rows : List TradeRow). only_marks (trade_numbered rows trade)) (sym same))

pub returns-in-Hold-clause-back : goal.returns-in-Hold-clause-back
returns-in-Hold-clause-back c = λ s same may.
    rw c.in-Hold.is
    (puts_back c.args.book.now.rows s same c.in-Hold.trade (row_with_hold true c.in-Hold.side) c.put_back-in-Hold.result c.put_back-in-Hold.ensures.was (λ was there. hold_earlier true c.in-Hold.side was))

pub returns-in-Hold-clause-some : goal.returns-in-Hold-clause-some
returns-in-Hold-clause-some c = λ s same may.
    let trade = c.in-Hold.trade in
    let allowed = rw c.in-Hold.is at may in
    rw c.in-Hold.is (c.put_back-in-Hold.ensures.there ∙ ap (λ (rows : List TradeRow). is_some (trade_numbered rows trade)) (sym same) ∙ hold_there c.in-Hold.side (trade_numbered s.trades trade) allowed)

pub returns-in-Free-clause-back : goal.returns-in-Free-clause-back
returns-in-Free-clause-back c = λ s same may.
    rw c.in-Free.is
    (puts_back c.args.book.now.rows s same c.in-Free.trade (row_with_hold false c.in-Free.side) c.put_back-in-Free.result c.put_back-in-Free.ensures.was (λ was there. hold_earlier false c.in-Free.side was))

pub returns-in-Free-clause-some : goal.returns-in-Free-clause-some
returns-in-Free-clause-some c = λ s same may.
    let trade = c.in-Free.trade in
    let allowed = rw c.in-Free.is at may in
    rw c.in-Free.is (c.put_back-in-Free.ensures.there ∙ ap (λ (rows : List TradeRow). is_some (trade_numbered rows trade)) (sym same) ∙ free_there c.in-Free.side (trade_numbered s.trades trade) allowed)
