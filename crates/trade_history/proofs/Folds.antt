-- Histories that begin again at their end: the laws.
use Rattle.std.proofs.Common.{◌≡◌, ℕ, ◌+◌, true, List, [], ◌∷◌, ◌++◌, length, length-append, append_assoc, Option, Some, None, refl, sym, ap, ◌∙◌, subst, arith}
use Rattle.std.proofs.lemmas.Bool.{false≢true}
use Rattle.std.proofs.lemmas.List.{append-nil}
use Rattle.std.proofs.lemmas.List.Sums.{fold-append}
use Rattle.network_laws.specs.Solutions.{SolutionData}
use Rattle.command_types.specs.declared.answer.Answer.{Answer}
use Rattle.command_types.specs.declared.answer.Answer.TheVariants.{Nothing, Executed}
use Rattle.command_types.specs.declared.ask.Entry.{Entry}
use Rattle.command_types.specs.declared.ask.What.{What}
use Rattle.command_types.specs.declared.ask.What.TheVariants.{Post}
use Rattle.command_types.specs.declared.cycle.Phase.TheVariants.{None as NoPhase}
use Rattle.command_types.specs.declared.figures.State.{State}
use Rattle.command_types.specs.Roster.{Rows}
use Rattle.command_types.specs.Plans.{thawed}
use Rattle.command_types.specs.Machine.{answer_to, state_after}
use Rattle.command_types.specs.History.{History, IsLegal, IsLegalFrom, longer, replayed, replayed_from}
use Rattle.command_types.specs.Folds.{IsAtRest, folded}
use Rattle.trade_history.specs.Search.{Execution, execution_at}
use Rattle.trade_history.specs.Book.{Book, IsClosedBase, AreNumbered, book_from, ExecutionRow, execution_row, executions_from}
use Rattle.trade_history.specs.Laws.{is_execution, execution_answer, TellsExecution}
use Rattle.trade_history.specs.Folds.{FoldsGoOn, FoldsAreClosed, TradesStayInFolds, ExecutionsStayInFolds}
use Rattle.trade_history.proofs.Kept.{InPhase, Keeps}
use Rattle.trade_history.proofs.Replay.{run-none, run-on, legal-front, trades_are_the_historys, answers_tell_executions}
use Rattle.trade_history.proofs.Whole.{moments-push}
use Rattle.trade_history.proofs.Listed.{executions-push}
use Rattle.trade_history.proofs.Begins.{bare_on}
use Rattle.trade_history.proofs.PlanFacts.{posted_empty}

-- ---- further changes

-- the state after changes, and others behind them
pub replayed-append : (s : State) (front back : List Entry) → replayed_from s (front ++ back) ≡ replayed_from (replayed_from s front) back
replayed-append s front back = fold-append (λ state e. state_after state e.ask) s front back

legal-append : (s : State) (front back : List Entry) → IsLegalFrom s front → IsLegalFrom (replayed_from s front) back → IsLegalFrom s (front ++ back)
legal-append s [] back legal behind = behind
legal-append s (e ∷ front) back (here, rest) behind = (here, legal-append (state_after s e.ask) front back rest behind)

legal-behind : (s : State) (front back : List Entry) → IsLegalFrom s (front ++ back) → IsLegalFrom (replayed_from s front) back
legal-behind s [] back legal = legal
legal-behind s (e ∷ front) back (here, rest) = legal-behind (state_after s e.ask) front back rest

pub folds_go_on : FoldsGoOn
folds_go_on h legal more = record {
  place = omega (arith, length-append h.entries more);
  state = sym (replayed-append h.base.state h.entries more);
  legal = (λ behind. legal-append h.base.state h.entries more legal behind, λ whole. legal-behind h.base.state h.entries more whole);
}

-- ---- a base that is closed

closed-end : (roster : Rows) (number : ℕ) (s : State) (book : Book) → s.cycle.phase ≡ NoPhase → s.cycle.mode ≡ None → Keeps roster number s.trades s.cycle book → IsClosedBase s
closed-end roster number s book rest bare keeps =
    let same : s.trades ≡ book.rows = subst (λ phase. InPhase phase roster number s.trades s.cycle book) rest keeps.phase in
    record {
      phase = rest;
      mode = bare;
      free = ap thawed same ∙ keeps.free ∙ sym same;
      numbered = subst (AreNumbered 0) (sym same) keeps.numbered;
    }

pub folds_are_closed : FoldsAreClosed
folds_are_closed h base legal rest =
    let s = h.base.state in
    let run = run-on s.roster s.cycle.number s (record { moments = []; rows = thawed s.trades }) h.entries (run-none s base) legal in
    closed-end s.roster s.cycle.number (replayed_from s h.entries) (book_from s h.entries) rest (bare_on s h.entries (λ e. base.mode) rest) run.keeps

-- ---- trades

pub trades_stay_in_folds : TradesStayInFolds
trades_stay_in_folds h base legal rest more behind =
    let on = folds_go_on h legal more in
    sym (trades_are_the_historys (longer (folded h) more) (folds_are_closed h base legal rest) behind)
    ∙ ap (λ (s : State). thawed s.trades) on.state
    ∙ trades_are_the_historys (longer h more) base (on.legal.0 behind)

-- ---- executions

told_execution : (what : What) (x : Execution) → is_execution (execution_answer what x) ≡ true
told_execution (Post cycle version solutions) x = refl
told_execution what x = refl

abbrev counted_row : ℕ → ℕ → ℕ → ℕ → ℕ → ℕ → ExecutionRow
counted_row position cycle version ended cut made = record { position = position; cycle = cycle; version = version; ended = ended; cut = cut; made = made }

executed_row : (position c v e k m c' v' e' k' m' : ℕ) → Executed c v e k m ≡ Executed c' v' e' k' m' → counted_row position c v e k m ≡ counted_row position c' v' e' k' m'
executed_row position c v e k m c' v' e' k' m' told = cc

nothing_parts : (c v c' v' : ℕ) → Nothing c v ≡ Nothing c' v' → (c ≡ c') × (v ≡ v')
nothing_parts c v c' v' told = (cc, cc)

-- the plan of a posting that executes at once is empty
abbrev pub IsEmptyIfPosted : What → Execution → Type 0
IsEmptyIfPosted what x = (cycle version : ℕ) (solutions : List SolutionData) → what ≡ Post cycle version solutions → x.plan ≡ []

nothing_row : (position : ℕ) (x y : Execution) → Nothing x.cycle x.version ≡ Nothing y.cycle y.version → x.plan ≡ [] → y.plan ≡ [] → execution_row position (Some x) ≡ execution_row position (Some y)
nothing_row position x y told none_x none_y =
    let parts = nothing_parts x.cycle x.version y.cycle y.version told in
    ap (λ plan. execution_row position (Some (record { cycle = x.cycle; version = x.version; plan = plan }))) none_x
    ∙ (λ i. execution_row position (Some (record { cycle = parts.0 i; version = parts.1 i; plan = [] })))
    ∙ ap (λ plan. execution_row position (Some (record { cycle = y.cycle; version = y.version; plan = plan }))) (sym none_y)

both_rows : (position : ℕ) (what : What) (x y : Execution) → execution_answer what x ≡ execution_answer what y → IsEmptyIfPosted what x → IsEmptyIfPosted what y →
    execution_row position (Some x) ≡ execution_row position (Some y)
both_rows position (Post cycle version solutions) x y told none_x none_y =
    nothing_row position x y told (none_x cycle version solutions refl) (none_y cycle version solutions refl)
both_rows position what x y told none_x none_y = ap (λ row. row ∷ []) (executed_row position _ _ _ _ _ _ _ _ _ _ told)

-- what two searches find at a change, of which one answer tells, has one row
same_row : (position : ℕ) (what : What) (answer : Answer) (a b : Option Execution) → TellsExecution what a answer → TellsExecution what b answer →
    ((x : Execution) → a ≡ Some x → IsEmptyIfPosted what x) → ((y : Execution) → b ≡ Some y → IsEmptyIfPosted what y) → execution_row position a ≡ execution_row position b
same_row position what answer None None tells_a tells_b none_a none_b = refl
same_row position what answer None (Some y) tells_a tells_b none_a none_b = absurd (false≢true (sym tells_a ∙ ap is_execution tells_b ∙ told_execution what y))
same_row position what answer (Some x) None tells_a tells_b none_a none_b = absurd (false≢true (sym tells_b ∙ ap is_execution tells_a ∙ told_execution what x))
same_row position what answer (Some x) (Some y) tells_a tells_b none_a none_b = both_rows position what x y (sym tells_a ∙ tells_b) (none_a x refl) (none_b y refl)

-- what a posting executes at once is an empty plan
module _ (s : State) (base : IsClosedBase s) (front : List Entry) (entry : Entry) (back : List Entry) (legal : IsLegalFrom s (front ++ entry ∷ back)) (x : Execution)
    (found : execution_at s.roster s.cycle.number (book_from s (front ++ entry ∷ [])).moments ≡ Some x) where
  empty_asked : (by : Option (List ℕ)) (what : What) (time : ℕ) → entry.ask ≡ record { by = by; what = what; moment = time } → IsEmptyIfPosted what x
  empty_asked by what time asked cycle version solutions post =
      let book : Book = book_from s front in
      let run = run-on s.roster s.cycle.number s (record { moments = []; rows = thawed s.trades }) front (run-none s base) (legal-front s front entry back legal) in
      let asks : entry.ask ≡ record { by = by; what = Post cycle version solutions; moment = time } = asked ∙ ap (λ w. record { by = by; what = w; moment = time }) post in
      posted_empty s.roster s.cycle.number by time cycle version solutions book.rows book.moments x run.keeps.numbered
      (ap (λ a. execution_at s.roster s.cycle.number (record { ask = a; rows = book.rows } ∷ book.moments)) (sym asks)
      ∙ ap (execution_at s.roster s.cycle.number) (sym (moments-push s front entry)) ∙ found)

  pub empty_at : IsEmptyIfPosted entry.ask.what x
  empty_at = empty_asked entry.ask.by entry.ask.what entry.ask.moment refl

module _ (h : History) (base : IsClosedBase h.base.state) (legal : IsLegal h) (rest : IsAtRest h) where
  abbrev s : State
  s = h.base.state

  abbrev t : State
  t = replayed h

  -- the executions behind the fold are those of the history behind it
  abbrev AreSame : List Entry → Type 0
  AreSame front = executions_from h.base (h.entries ++ front) ≡ executions_from h.base h.entries ++ executions_from (folded h).base front

  module _ (front : List Entry) (entry : Entry) (back : List Entry) (behind : IsLegalFrom t (front ++ entry ∷ back)) where
    regrouped : h.entries ++ (front ++ entry ∷ back) ≡ (h.entries ++ front) ++ entry ∷ back
    regrouped = sym (append_assoc h.entries front (entry ∷ back))

    whole : IsLegal (longer h (front ++ entry ∷ back))
    whole = (folds_go_on h legal (front ++ entry ∷ back)).legal.0 behind

    abbrev whole_found : Option Execution
    whole_found = execution_at s.roster s.cycle.number (book_from s ((h.entries ++ front) ++ entry ∷ [])).moments

    abbrev fold_found : Option Execution
    fold_found = execution_at t.roster t.cycle.number (book_from t (front ++ entry ∷ [])).moments

    tells_whole : TellsExecution entry.ask.what whole_found (answer_to (replayed_from t front) entry.ask)
    tells_whole =
        subst (λ (n : State). TellsExecution entry.ask.what whole_found (answer_to n entry.ask)) (replayed-append s h.entries front)
        (answers_tell_executions (longer h (front ++ entry ∷ back)) base whole (h.entries ++ front) entry back regrouped)

    tells_fold : TellsExecution entry.ask.what fold_found (answer_to (replayed_from t front) entry.ask)
    tells_fold = answers_tell_executions (longer (folded h) (front ++ entry ∷ back)) (folds_are_closed h base legal rest) behind front entry back refl

    one_row : (position : ℕ) → execution_row position whole_found ≡ execution_row position fold_found
    one_row position =
        same_row position entry.ask.what (answer_to (replayed_from t front) entry.ask) whole_found fold_found tells_whole tells_fold
        (λ x found. empty_at s base (h.entries ++ front) entry back (subst (IsLegalFrom s) regrouped whole) x found)
        (λ y found. empty_at t (folds_are_closed h base legal rest) front entry back behind y found)

    one_more : AreSame front → AreSame (front ++ entry ∷ [])
    one_more same =
        let before = executions_from h.base h.entries in
        let since = executions_from (folded h).base front in
        let place : h.base.position + length (h.entries ++ front) + 1 ≡ h.base.position + length h.entries + length front + 1 = omega (arith, length-append h.entries front) in
        ap (executions_from h.base) (sym (append_assoc h.entries front (entry ∷ [])))
        ∙ executions-push h.base (h.entries ++ front) entry
        ∙ (λ i. same i ++ execution_row (place i) whole_found)
        ∙ append_assoc before since (execution_row (h.base.position + length h.entries + length front + 1) whole_found)
        ∙ ap (λ (rows : List ExecutionRow). before ++ (since ++ rows)) (one_row (h.base.position + length h.entries + length front + 1))
        ∙ ap (λ (rows : List ExecutionRow). before ++ rows) (sym (executions-push (folded h).base front entry))

  same_on : (front back : List Entry) → IsLegalFrom t (front ++ back) → AreSame front → AreSame (front ++ back)
  same_on front [] behind same = subst AreSame (sym (append-nil front)) same
  same_on front (entry ∷ back) behind same =
      let regroup = append_assoc front (entry ∷ []) back in
      subst AreSame regroup (same_on (front ++ entry ∷ []) back (subst (IsLegalFrom t) (sym regroup) behind) (one_more front entry back behind same))

  pub executions_stay : (more : List Entry) → IsLegalFrom t more → AreSame more
  executions_stay more behind =
      same_on [] more behind (ap (executions_from h.base) (append-nil h.entries) ∙ sym (append-nil (executions_from h.base h.entries)))

pub executions_stay_in_folds : ExecutionsStayInFolds
executions_stay_in_folds h base legal rest more behind = executions_stay h base legal rest more behind
