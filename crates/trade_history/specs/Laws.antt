-- The laws of a history's trades, as statements.
use Rattle.std.specs.Prelude.{◌≡◌, ◌↔◌, ℕ, ◌+◌, ◌-◌, Bool, true, false, List, [], ◌∷◌, ◌++◌, length, Option, Some, None, unwrap_or, IsTrue, IsFalse}
use Rattle.command_types.specs.declared.ask.Entry.{Entry}
use Rattle.command_types.specs.declared.ask.What.{What}
use Rattle.command_types.specs.declared.ask.What.TheVariants.{Post}
use Rattle.command_types.specs.declared.answer.Answer.{Answer}
use Rattle.command_types.specs.declared.answer.Answer.TheVariants.{Nothing, Executed}
use Rattle.command_types.specs.declared.figures.State.{State}
use Rattle.command_types.specs.declared.plan.PlanRow.{PlanRow}
use Rattle.command_types.specs.Roster.{Rows}
use Rattle.command_types.specs.Plans.{executed, thawed, count_of, is_end, is_cut, is_new}
use Rattle.command_types.specs.Cycles.{has_limits}
use Rattle.command_types.specs.CycleSteps.{rows_of_member}
use Rattle.command_types.specs.Machine.{empty_state, answer_to}
use Rattle.command_types.specs.History.{History, IsLegal, cut_after, replayed, replayed_from}
use Rattle.trade_history.specs.Moments.{is_post}
use Rattle.trade_history.specs.Executes.{Executes}
use Rattle.trade_history.specs.Search.{Execution, execution_at}
use Rattle.trade_history.specs.Book.{IsClosedBase, rows_by, trades_of, own_rows, book_from, book_of, executions_from}

-- nothing is open or frozen in the state before the first command
abbrev pub EmptyIsClosed : Type 0
EmptyIsClosed = (roster : Rows) → IsClosedBase (empty_state roster)

-- the machine's trades are the history's
abbrev pub TradesAreTheHistorys : Type 0
TradesAreTheHistorys = (h : History) → IsClosedBase h.base.state → IsLegal h → thawed (replayed h).trades ≡ trades_of h

-- so they are at each position
abbrev pub TradesFollowAtEachPosition : Type 0
TradesFollowAtEachPosition =
    (h : History) → IsClosedBase h.base.state → IsLegal h → (position : ℕ) →
    thawed (replayed (cut_after h position)).trades ≡ trades_of (cut_after h position)

-- the answer tells that a plan was executed
abbrev pub is_execution : Answer → Bool
is_execution (Nothing cycle version) = true
is_execution (Executed cycle version ended cut made) = true
is_execution answer = false

-- what a command at which a plan executes is answered: a POST that touches nobody has nothing to count
abbrev pub execution_answer : What → Execution → Answer
execution_answer (Post cycle version solutions) execution = Nothing execution.cycle execution.version
execution_answer what execution =
    Executed execution.cycle execution.version (count_of is_end execution.plan) (count_of is_cut execution.plan) (count_of is_new execution.plan)

-- the answer tells what executes, and that nothing does
abbrev pub TellsExecution : What → Option Execution → Answer → Type 0
TellsExecution what None answer = IsFalse (is_execution answer)
TellsExecution what (Some execution) answer = answer ≡ execution_answer what execution

-- each change of a history is answered so
abbrev pub AnswersTellExecutions : Type 0
AnswersTellExecutions =
    (h : History) → IsClosedBase h.base.state → IsLegal h →
    (front : List Entry) (entry : Entry) (back : List Entry) → h.entries ≡ front ++ entry ∷ back →
    TellsExecution entry.ask.what
    (execution_at h.base.state.roster h.base.state.cycle.number (book_from h.base.state (front ++ entry ∷ [])).moments)
    (answer_to (replayed_from h.base.state front) entry.ask)

-- after these changes of a history, this one executes the plan of a posting of this cycle and version
abbrev pub ExecutesAfter : State → List Entry → Entry → ℕ → ℕ → List PlanRow → Type 0
ExecutesAfter s front entry cycle version plan =
    Executes s.roster s.cycle.number (book_from s (front ++ entry ∷ [])).moments (book_from s front).rows cycle version plan

-- the plan of a posting of this cycle and version executes at this position of a history
abbrev pub ExecutesAt : History → ℕ → ℕ → ℕ → List PlanRow → Type 0
ExecutesAt h position cycle version plan =
    Executes h.base.state.roster h.base.state.cycle.number (book_of (cut_after h position)).moments (trades_of (cut_after h (position - 1))) cycle version plan

-- at the position of a change executes what executes after the changes before it
abbrev pub PositionsAreChanges : Type 0
PositionsAreChanges =
    (h : History) (front : List Entry) (entry : Entry) (back : List Entry) → h.entries ≡ front ++ entry ∷ back →
    (cycle version : ℕ) (plan : List PlanRow) →
    ExecutesAt h (h.base.position + length front + 1) cycle version plan ↔ ExecutesAfter h.base.state front entry cycle version plan

-- what the search finds at a change of a legal history is what executes there, and nothing else executes there
abbrev pub SearchFindsExecutions : Type 0
SearchFindsExecutions =
    (h : History) → IsClosedBase h.base.state → IsLegal h →
    (front : List Entry) (entry : Entry) (back : List Entry) → h.entries ≡ front ++ entry ∷ back →
    (cycle version : ℕ) (plan : List PlanRow) →
    ExecutesAfter h.base.state front entry cycle version plan
    ↔ (execution_at h.base.state.roster h.base.state.cycle.number (book_from h.base.state (front ++ entry ∷ [])).moments
    ≡ Some (record { cycle = cycle; version = version; plan = plan }))

-- a change at which a plan executes applies the whole plan, and nothing else
abbrev pub PlansExecuteWhole : Type 0
PlansExecuteWhole =
    (h : History) → IsClosedBase h.base.state → IsLegal h →
    (front : List Entry) (entry : Entry) (back : List Entry) → h.entries ≡ front ++ entry ∷ back →
    (cycle version : ℕ) (plan : List PlanRow) → ExecutesAfter h.base.state front entry cycle version plan →
    (book_from h.base.state (front ++ entry ∷ [])).rows ≡ executed plan (book_from h.base.state front).rows

-- a change at which no plan executes leaves what the command by itself makes of the trades
abbrev pub OthersChangeOneRow : Type 0
OthersChangeOneRow =
    (h : History) → IsClosedBase h.base.state → IsLegal h →
    (front : List Entry) (entry : Entry) (back : List Entry) → h.entries ≡ front ++ entry ∷ back →
    ((cycle version : ℕ) (plan : List PlanRow) → ExecutesAfter h.base.state front entry cycle version plan → ⊥) →
    (book_from h.base.state (front ++ entry ∷ [])).rows
    ≡ rows_by h.base.state.roster (unwrap_or entry.ask.by []) entry.ask.what (book_from h.base.state front).rows

-- the rows of a member that the machine has are the history's
abbrev pub OwnRowsAreTheHistorys : Type 0
OwnRowsAreTheHistorys =
    (h : History) → IsClosedBase h.base.state → IsLegal h → (member : ℕ) → thawed (rows_of_member member (replayed h).trades) ≡ own_rows h member

-- the executions are listed: one row more at each change at which a plan executes
abbrev pub ExecutionsAreListed : Type 0
ExecutionsAreListed =
    (h : History) → IsClosedBase h.base.state → IsLegal h →
    (front : List Entry) (entry : Entry) (back : List Entry) → h.entries ≡ front ++ entry ∷ back →
    (cycle version : ℕ) (plan : List PlanRow) → ExecutesAfter h.base.state front entry cycle version plan →
    executions_from h.base (front ++ entry ∷ [])
    ≡ executions_from h.base front
    ++ record {
      position = h.base.position + length front + 1;
      cycle = cycle;
      version = version;
      ended = count_of is_end plan;
      cut = count_of is_cut plan;
      made = count_of is_new plan;
    } ∷ []

-- and none at the others
abbrev pub OthersAreNotListed : Type 0
OthersAreNotListed =
    (h : History) → IsClosedBase h.base.state → IsLegal h →
    (front : List Entry) (entry : Entry) (back : List Entry) → h.entries ≡ front ++ entry ∷ back →
    ((cycle version : ℕ) (plan : List PlanRow) → ExecutesAfter h.base.state front entry cycle version plan → ⊥) →
    executions_from h.base (front ++ entry ∷ []) ≡ executions_from h.base front

-- What a version began with stands while it lasts: at two places of a history in the same version of the same cycle, the networks and the limits are the same.
abbrev pub BegunLimitsStand : Type 0
BegunLimitsStand =
    (h : History) → IsLegal h → (front middle back : List Entry) → h.entries ≡ front ++ (middle ++ back) →
    IsTrue (has_limits (replayed_from h.base.state front).cycle.phase) → IsTrue (has_limits (replayed_from h.base.state (front ++ middle)).cycle.phase) →
    (replayed_from h.base.state front).cycle.number ≡ (replayed_from h.base.state (front ++ middle)).cycle.number →
    (replayed_from h.base.state front).cycle.version ≡ (replayed_from h.base.state (front ++ middle)).cycle.version →
    (replayed_from h.base.state (front ++ middle)).cycle.begun ≡ (replayed_from h.base.state front).cycle.begun

-- a version of a cycle is posted once at most
abbrev pub VersionsArePostedOnce : Type 0
VersionsArePostedOnce =
    (h : History) → IsLegal h → (front middle back : List Entry) (first second : Entry) → h.entries ≡ front ++ first ∷ (middle ++ second ∷ back) →
    (cycle version : ℕ) → IsTrue (is_post cycle version first.ask.what) → IsTrue (is_post cycle version second.ask.what) → ⊥
