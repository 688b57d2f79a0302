-- What an accepted command leaves and answers, beside the history's book.
use Rattle.std.proofs.Common.{◌≡◌, ℕ, List, ◌∷◌, sym, ap, ◌∙◌}
use Rattle.command_types.specs.declared.answer.Answer.{Answer}
use Rattle.command_types.specs.declared.ask.Ask.{Ask}
use Rattle.command_types.specs.declared.figures.Cycle.{Cycle}
use Rattle.command_types.specs.declared.figures.State.{State}
use Rattle.command_types.specs.declared.plan.PlanRow.{PlanRow}
use Rattle.command_types.specs.declared.trade.TradeRow.{TradeRow}
use Rattle.command_types.specs.Roster.{Rows}
use Rattle.command_types.specs.Plans.{executed, thawed}
use Rattle.command_types.specs.Cycles.{closed}
use Rattle.trade_history.specs.Moments.{Moment, cycle_at}
use Rattle.trade_history.specs.Search.{execution_at}
use Rattle.trade_history.specs.Book.{Book, book_after}
use Rattle.trade_history.specs.Laws.{TellsExecution}
use Rattle.trade_history.proofs.Kept.{Keeps}
use Rattle.trade_history.proofs.ClosingSteps.{keeps-thawed}
use Rattle.trade_history.proofs.Executing.{thawed-executed, numbered-executed}

-- the moment of a command after this book
abbrev pub now_of : Ask → Book → Moment
now_of ask book = record { ask = ask; rows = book.rows }

pub record IsOutcome (number : ℕ) (s next : State) (book : Book) (ask : Ask) (answer : Answer) : Type 0 where
  pub roster : next.roster ≡ s.roster
  pub keeps : Keeps s.roster number next.trades next.cycle (book_after s.roster number (now_of ask book) book.moments)
  pub told : TellsExecution ask.what (execution_at s.roster number (now_of ask book ∷ book.moments)) answer

-- a plan is executed, and its cycle is over
pub executed-keeps : (roster : Rows) (number : ℕ) (trades : List TradeRow) (cycle : Cycle) (book : Book) (now : Moment) (plan : List PlanRow) →
    cycle_at number (now ∷ book.moments) ≡ cycle_at number book.moments → Keeps roster number trades cycle book →
    Keeps roster number (thawed (executed plan trades)) (closed cycle.number cycle.version) (record { moments = now ∷ book.moments; rows = executed plan book.rows })
executed-keeps roster number trades cycle book now plan passes keeps = record {
  numbered = numbered-executed plan book.rows keeps.numbered;
  free = thawed-executed plan book.rows ∙ ap (executed plan) keeps.free;
  count = keeps.count ∙ sym passes;
  phase = thawed-executed plan trades ∙ ap (executed plan) (keeps-thawed roster number trades cycle book keeps);
}
