-- The replay of a legal history, beside its book: the laws.
use Rattle.std.proofs.Common.{◌≡◌, ℕ, List, [], ◌∷◌, ◌++◌, fold, IsTrue, refl, sym, ap, ◌∙◌, subst, All}
use Rattle.std.proofs.lemmas.List.Sums.{fold-append}
use Rattle.network_laws.specs.Solutions.{IsSolution}
use Rattle.command_types.specs.declared.ask.Entry.{Entry}
use Rattle.command_types.specs.declared.figures.State.{State}
use Rattle.command_types.specs.Roster.{Rows}
use Rattle.command_types.specs.Plans.{thawed}
use Rattle.command_types.specs.Machine.{answer_to, accepted, refused_or, state_after}
use Rattle.command_types.specs.History.{IsLegalFrom, solutions_posted, replayed_from, is_recorded}
use Rattle.trade_history.specs.Search.{execution_at}
use Rattle.trade_history.specs.Book.{Book, IsClosedBase, AreNumbered, book_after, noted, book_from}
use Rattle.trade_history.specs.Laws.{TradesAreTheHistorys, AnswersTellExecutions, TellsExecution}
use Rattle.trade_history.proofs.Kept.{InPhase, Keeps}
use Rattle.trade_history.proofs.ClosingSteps.{keeps-thawed}
use Rattle.trade_history.proofs.Outcome.{now_of, IsOutcome}
use Rattle.trade_history.proofs.Legal.{none-holds}
use Rattle.trade_history.proofs.Steps.{step}

pub record IsRun (roster : Rows) (number : ℕ) (s : State) (book : Book) : Type 0 where
  pub same : s.roster ≡ roster
  pub keeps : Keeps roster number s.trades s.cycle book

-- an accepted command of a run
run-outcome : (roster : Rows) (number : ℕ) (s : State) (book : Book) (entry : Entry) → IsRun roster number s book → IsTrue (is_recorded entry.ask.what (answer_to s entry.ask)) →
    IsOutcome number s (state_after s entry.ask) book entry.ask (accepted s entry.ask.by entry.ask.what)
run-outcome roster number s book entry run is =
    step number s book entry.ask.by entry.ask.moment entry.ask.what (subst (λ r. Keeps r number s.trades s.cycle book) (sym run.same) run.keeps) is

run-next : (roster : Rows) (number : ℕ) (s : State) (book : Book) (entry : Entry) → IsRun roster number s book → IsTrue (is_recorded entry.ask.what (answer_to s entry.ask)) →
    IsRun roster number (state_after s entry.ask) (noted roster number book entry)
run-next roster number s book entry run is =
    let outcome = run-outcome roster number s book entry run is in
    record {
      same = outcome.roster ∙ run.same;
      keeps = subst (λ r. Keeps r number (state_after s entry.ask).trades (state_after s entry.ask).cycle (book_after r number (now_of entry.ask book) book.moments)) run.same outcome.keeps;
    }

-- a run goes on through a legal list of changes
pub run-on : (roster : Rows) (number : ℕ) (s : State) (book : Book) (entries : List Entry) → IsRun roster number s book → IsLegalFrom s entries →
    IsRun roster number (replayed_from s entries) (fold (noted roster number) book entries)
run-on roster number s book [] run legal = run
run-on roster number s book (entry ∷ entries) run (here, rest) =
    run-on roster number (state_after s entry.ask) (noted roster number book entry) entries (run-next roster number s book entry run here.0) rest

-- a closed base is a run of nothing
pub run-none : (s : State) → IsClosedBase s → IsRun s.roster s.cycle.number s (record { moments = []; rows = thawed s.trades })
run-none s base = record {
  same = refl;
  keeps = record {
    numbered = subst (AreNumbered 0) (sym base.free) base.numbered;
    free = ap thawed base.free;
    count = refl;
    phase = subst (λ phase. InPhase phase s.roster s.cycle.number s.trades s.cycle (record { moments = []; rows = thawed s.trades })) (sym base.phase) (sym base.free);
  };
}

pub trades_are_the_historys : TradesAreTheHistorys
trades_are_the_historys h base legal =
    let s = h.base.state in
    let run = run-on s.roster s.cycle.number s (record { moments = []; rows = thawed s.trades }) h.entries (run-none s base) legal in
    keeps-thawed s.roster s.cycle.number (replayed_from s h.entries).trades (replayed_from s h.entries).cycle (book_from s h.entries) run.keeps

-- the front of a legal list is legal, and so is the change after it
pub legal-front : (s : State) (front : List Entry) (entry : Entry) (back : List Entry) → IsLegalFrom s (front ++ entry ∷ back) → IsLegalFrom s front
legal-front s [] entry back legal = tt
legal-front s (e ∷ front) entry back (here, rest) = (here, legal-front (state_after s e.ask) front entry back rest)

pub legal-at : (s : State) (front : List Entry) (entry : Entry) (back : List Entry) → IsLegalFrom s (front ++ entry ∷ back) →
    IsTrue (is_recorded entry.ask.what (answer_to (replayed_from s front) entry.ask))
legal-at s [] entry back (here, rest) = here.0
legal-at s (e ∷ front) entry back (here, rest) = legal-at (state_after s e.ask) front entry back rest

-- and it posts well-formed solutions
pub solutions-at : (s : State) (front : List Entry) (entry : Entry) (back : List Entry) → IsLegalFrom s (front ++ entry ∷ back) → All IsSolution (solutions_posted entry.ask.what)
solutions-at s [] entry back (here, rest) = here.1
solutions-at s (e ∷ front) entry back (here, rest) = solutions-at (state_after s e.ask) front entry back rest

accepted-answer : (s : State) (entry : Entry) → IsTrue (is_recorded entry.ask.what (answer_to s entry.ask)) → answer_to s entry.ask ≡ accepted s entry.ask.by entry.ask.what
accepted-answer s entry is = ap (refused_or (accepted s entry.ask.by entry.ask.what)) (none-holds s entry.ask.by entry.ask.what is)

told-at : (s : State) (front : List Entry) (entry : Entry) (back : List Entry) → IsClosedBase s → IsLegalFrom s (front ++ entry ∷ back) →
    TellsExecution entry.ask.what (execution_at s.roster s.cycle.number (book_from s (front ++ entry ∷ [])).moments) (answer_to (replayed_from s front) entry.ask)
told-at s front entry back base legal =
    let start : Book = record { moments = []; rows = thawed s.trades } in
    let book = fold (noted s.roster s.cycle.number) start front in
    let before = replayed_from s front in
    let is = legal-at s front entry back legal in
    let run = run-on s.roster s.cycle.number s start front (run-none s base) (legal-front s front entry back legal) in
    let outcome = run-outcome s.roster s.cycle.number before book entry run is in
    let moments : now_of entry.ask book ∷ book.moments ≡ (book_from s (front ++ entry ∷ [])).moments =
    sym (ap (λ b. b.moments) (fold-append (noted s.roster s.cycle.number) start front (entry ∷ []))) in
    subst (λ ms. TellsExecution entry.ask.what (execution_at s.roster s.cycle.number ms) (answer_to before entry.ask)) moments
    (subst (λ answer. TellsExecution entry.ask.what (execution_at s.roster s.cycle.number (now_of entry.ask book ∷ book.moments)) answer) (sym (accepted-answer before entry is))
    (subst (λ r. TellsExecution entry.ask.what (execution_at r s.cycle.number (now_of entry.ask book ∷ book.moments)) (accepted before entry.ask.by entry.ask.what)) run.same outcome.told))

pub answers_tell_executions : AnswersTellExecutions
answers_tell_executions h base legal front entry back split = told-at h.base.state front entry back base (subst (IsLegalFrom h.base.state) split legal)
