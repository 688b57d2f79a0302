-- The changes of a legal history: what executes at each, and that it is applied whole.
use Rattle.std.proofs.Common.{◌≡◌, ℕ, List, [], ◌∷◌, ◌++◌, Option, Some, None, unwrap_or, refl, sym, ap, ◌∙◌, subst}
use Rattle.std.proofs.lemmas.List.Sums.{fold-append}
use Rattle.command_types.specs.declared.ask.Entry.{Entry}
use Rattle.command_types.specs.declared.ask.What.{What}
use Rattle.command_types.specs.declared.ask.What.TheVariants.{Trade, Affirm, End, Hold, Free}
use Rattle.command_types.specs.declared.figures.State.{State}
use Rattle.command_types.specs.declared.trade.TradeRow.{TradeRow}
use Rattle.command_types.specs.Roster.{Rows}
use Rattle.command_types.specs.Plans.{executed, thawed}
use Rattle.command_types.specs.History.{IsLegalFrom, replayed_from}
use Rattle.trade_history.specs.Moments.{Moment}
use Rattle.trade_history.specs.Executes.{Executes}
use Rattle.trade_history.specs.Search.{Execution, execution_by, execution_at}
use Rattle.trade_history.specs.Book.{IsClosedBase, rows_by, with_execution, book_after, noted, book_from}
use Rattle.trade_history.specs.Laws.{ExecutesAfter, SearchFindsExecutions, PlansExecuteWhole, OthersChangeOneRow}
use Rattle.trade_history.proofs.Kept.{Keeps}
use Rattle.trade_history.proofs.Outcome.{now_of}
use Rattle.trade_history.proofs.Found.{found-executes}
use Rattle.trade_history.proofs.OneExecution.{IsOnly, one-execution}
use Rattle.trade_history.proofs.Replay.{run-on, run-none, legal-front, legal-at}

-- the book after one change more
book-push : (s : State) (front : List Entry) (entry : Entry) → book_from s (front ++ entry ∷ []) ≡ book_after s.roster s.cycle.number (now_of entry.ask (book_from s front)) (book_from s front).moments
book-push s front entry = fold-append (noted s.roster s.cycle.number) (record { moments = []; rows = thawed s.trades }) front (entry ∷ [])

pub moments-push : (s : State) (front : List Entry) (entry : Entry) → (book_from s (front ++ entry ∷ [])).moments ≡ now_of entry.ask (book_from s front) ∷ (book_from s front).moments
moments-push s front entry = ap (λ b. b.moments) (book-push s front entry)

pub only-at : (s : State) (front : List Entry) (entry : Entry) (back : List Entry) → IsClosedBase s → IsLegalFrom s (front ++ entry ∷ back) →
    IsOnly s.roster s.cycle.number (book_from s (front ++ entry ∷ [])).moments (book_from s front).rows
only-at s front entry back base legal =
    let book = book_from s front in
    let before = replayed_from s front in
    let run = run-on s.roster s.cycle.number s (record { moments = []; rows = thawed s.trades }) front (run-none s base) (legal-front s front entry back legal) in
    subst (λ ms. IsOnly s.roster s.cycle.number ms book.rows) (sym (moments-push s front entry))
    (subst (λ r. IsOnly r s.cycle.number (now_of entry.ask book ∷ book.moments) book.rows) run.same
    (one-execution s.cycle.number before book entry.ask.by entry.ask.moment entry.ask.what (subst (λ r. Keeps r s.cycle.number before.trades before.cycle book) (sym run.same) run.keeps)
    (legal-at s front entry back legal)))

pub found-at : (s : State) (front : List Entry) (entry : Entry) (execution : Execution) → execution_at s.roster s.cycle.number (book_from s (front ++ entry ∷ [])).moments ≡ Some execution →
    ExecutesAfter s front entry execution.cycle execution.version execution.plan
found-at s front entry execution found =
    let book = book_from s front in
    subst (λ ms. Executes s.roster s.cycle.number ms book.rows execution.cycle execution.version execution.plan) (sym (moments-push s front entry))
    (found-executes s.roster s.cycle.number (now_of entry.ask book) book.moments execution (ap (execution_at s.roster s.cycle.number) (sym (moments-push s front entry)) ∙ found))

pub search_finds_executions : SearchFindsExecutions
search_finds_executions h base legal front entry back split cycle version plan = (
  λ x. only-at h.base.state front entry back base (subst (IsLegalFrom h.base.state) split legal) cycle version plan x,
  λ e. found-at h.base.state front entry (record { cycle = cycle; version = version; plan = plan }) e,
)

-- a command at which a plan executes changes no row by itself
rows-still : (roster : Rows) (number : ℕ) (moments : List Moment) (rows : List TradeRow) (by : List ℕ) (what : What) (execution : Execution) → execution_by roster number moments rows what ≡ Some execution → rows_by roster by what rows ≡ rows
rows-still roster number moments rows by (Trade seller buyer product amount day) execution e = cc
rows-still roster number moments rows by (Affirm trade) execution e = cc
rows-still roster number moments rows by (End trade) execution e = cc
rows-still roster number moments rows by (Hold trade) execution e = cc
rows-still roster number moments rows by (Free trade) execution e = cc
rows-still roster number moments rows by what execution e = refl

rows-push : (s : State) (front : List Entry) (entry : Entry) → (book_from s (front ++ entry ∷ [])).rows
    ≡ with_execution (execution_at s.roster s.cycle.number (now_of entry.ask (book_from s front) ∷ (book_from s front).moments)) (rows_by s.roster (unwrap_or entry.ask.by []) entry.ask.what (book_from s front).rows)
rows-push s front entry = ap (λ b. b.rows) (book-push s front entry)

pub plans_execute_whole : PlansExecuteWhole
plans_execute_whole h base legal front entry back split cycle version plan x =
    let s = h.base.state in
    let book = book_from s front in
    let found : execution_at s.roster s.cycle.number (now_of entry.ask book ∷ book.moments) ≡ Some (record { cycle = cycle; version = version; plan = plan }) =
    ap (execution_at s.roster s.cycle.number) (sym (moments-push s front entry)) ∙ only-at s front entry back base (subst (IsLegalFrom s) split legal) cycle version plan x in
    rows-push s front entry
    ∙ ap (λ e. with_execution e (rows_by s.roster (unwrap_or entry.ask.by []) entry.ask.what book.rows)) found
    ∙ ap (executed plan) (rows-still s.roster s.cycle.number (now_of entry.ask book ∷ book.moments) book.rows (unwrap_or entry.ask.by []) entry.ask.what (record { cycle = cycle; version = version; plan = plan }) found)

no-execution : (o : Option Execution) (rows : List TradeRow) → ((execution : Execution) → o ≡ Some execution → ⊥) → with_execution o rows ≡ rows
no-execution None rows none = refl
no-execution (Some execution) rows none = absurd (none execution refl)

pub others_change_one_row : OthersChangeOneRow
others_change_one_row h base legal front entry back split none =
    let s = h.base.state in
    let book = book_from s front in
    rows-push s front entry
    ∙ no-execution (execution_at s.roster s.cycle.number (now_of entry.ask book ∷ book.moments)) (rows_by s.roster (unwrap_or entry.ask.by []) entry.ask.what book.rows)
    (λ execution found. none execution.cycle execution.version execution.plan
    (found-at s front entry execution (ap (execution_at s.roster s.cycle.number) (moments-push s front entry) ∙ found)))
