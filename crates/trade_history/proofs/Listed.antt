-- The executions of a legal history, and the rows of its members.
use Rattle.std.proofs.Common.{◌≡◌, ℕ, ◌+◌, Bool, true, false, cond, ◌||◌, ◌==◌, List, [], ◌∷◌, ◌++◌, length, fold, Option, Some, None, refl, sym, ap, ◌∙◌, subst, arith}
use Rattle.std.proofs.lemmas.List.{append-nil}
use Rattle.command_types.specs.declared.ask.Entry.{Entry}
use Rattle.command_types.specs.declared.figures.Start.{Start}
use Rattle.command_types.specs.declared.trade.TradeRow.{TradeRow}
use Rattle.command_types.specs.Roster.{Rows}
use Rattle.command_types.specs.Plans.{thawed, thawed_row}
use Rattle.command_types.specs.CycleSteps.{rows_of_member}
use Rattle.command_types.specs.History.{IsLegalFrom}
use Rattle.trade_history.specs.Search.{Execution, execution_at}
use Rattle.trade_history.specs.Book.{Book, noted, book_from, execution_row, executions_at, executions_from}
use Rattle.trade_history.specs.Laws.{OwnRowsAreTheHistorys, ExecutionsAreListed, OthersAreNotListed}
use Rattle.trade_history.proofs.Outcome.{now_of}
use Rattle.trade_history.proofs.Replay.{trades_are_the_historys}
use Rattle.trade_history.proofs.Whole.{moments-push, only-at, found-at}

own_thawed : (t : Bool) (row : TradeRow) (rows : List TradeRow) → thawed (cond {A = List TradeRow} t (row ∷ rows) rows) ≡ cond {A = List TradeRow} t (thawed_row row ∷ thawed rows) (thawed rows)
own_thawed true row rows = refl
own_thawed false row rows = refl

own-thawed : (member : ℕ) (rows : List TradeRow) → thawed (rows_of_member member rows) ≡ rows_of_member member (thawed rows)
own-thawed member [] = refl
own-thawed member (row ∷ rows) =
    own_thawed ((row.seller == member) || (row.buyer == member)) row (rows_of_member member rows)
    ∙ ap (λ rest. cond {A = List TradeRow} ((row.seller == member) || (row.buyer == member)) (thawed_row row ∷ rest) rest) (own-thawed member rows)

pub own_rows_are_the_historys : OwnRowsAreTheHistorys
own_rows_are_the_historys h base legal member = own-thawed member _ ∙ ap (rows_of_member member) (trades_are_the_historys h base legal)

-- a book has one moment for each change
length-book : (roster : Rows) (number : ℕ) (book : Book) (entries : List Entry) → length (fold (noted roster number) book entries).moments ≡ length entries + length book.moments
length-book roster number book [] = omega arith
length-book roster number book (entry ∷ entries) = (let e = length-book roster number (noted roster number book entry) entries in omega arith)

pub executions-push : (base : Start) (front : List Entry) (entry : Entry) → executions_from base (front ++ entry ∷ [])
    ≡ executions_from base front ++ execution_row (base.position + length front + 1) (execution_at base.state.roster base.state.cycle.number (book_from base.state (front ++ entry ∷ [])).moments)
executions-push base front entry =
    let roster = base.state.roster in
    let number = base.state.cycle.number in
    let book = book_from base.state front in
    let long : base.position + length (now_of entry.ask book ∷ book.moments) ≡ base.position + length front + 1 =
    (let e = length-book roster number (record { moments = []; rows = thawed base.state.trades }) front in omega arith) in
    ap (executions_at roster number base.position) (moments-push base.state front entry)
    ∙ (λ i. executions_from base front ++ execution_row (long i) (execution_at roster number (sym (moments-push base.state front entry) i)))

pub executions_are_listed : ExecutionsAreListed
executions_are_listed h base legal front entry back split cycle version plan x =
    executions-push h.base front entry
    ∙ ap (λ e. executions_from h.base front ++ execution_row (h.base.position + length front + 1) e)
    (only-at h.base.state front entry back base (subst (IsLegalFrom h.base.state) split legal) cycle version plan x)

no_row : (position : ℕ) (o : Option Execution) → ((execution : Execution) → o ≡ Some execution → ⊥) → execution_row position o ≡ []
no_row position None none = refl
no_row position (Some execution) none = absurd (none execution refl)

pub others_are_not_listed : OthersAreNotListed
others_are_not_listed h base legal front entry back split none =
    let found = execution_at h.base.state.roster h.base.state.cycle.number (book_from h.base.state (front ++ entry ∷ [])).moments in
    executions-push h.base front entry
    ∙ ap (λ rows. executions_from h.base front ++ rows)
    (no_row (h.base.position + length front + 1) found (λ execution is. none execution.cycle execution.version execution.plan (found-at h.base.state front entry execution is)))
    ∙ append-nil (executions_from h.base front)
