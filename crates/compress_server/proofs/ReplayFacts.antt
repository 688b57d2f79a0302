-- What a machine that made a journal's changes tells is what the history tells.
use Rattle.std.proofs.Common.{◌≡◌, ◌∙◌, refl, sym, subst, ap, ℕ, ◌+◌, ◌-◌, ◌<◌, Bool, true, false, cond, List, [], ◌∷◌, ◌++◌, length, get_or, take, drop, Option, Some, None, unwrap_or, append_assoc, arith}
use Rattle.std.proofs.lemmas.List.{append-nil, length-map, take_more}
use Rattle.std.proofs.lemmas.Option.{none-some}
use Rattle.std.specs.Prelude.{option_map, IsFalse, ◌≤◌, Result, Ok, Err, IfErr}
use Rattle.outside.specs.Disk as disks
use Rattle.outside.specs.Faults.{Rose}
use Rattle.outside.specs.Flow.{Takes, TakesFront}
use Rattle.network_laws.specs.Solutions.{SolutionData}
use Rattle.command_types.specs.declared.answer.Answer.{Answer}
use Rattle.command_types.specs.declared.ask.Entry.{Entry}
use Rattle.command_types.specs.declared.ask.What.{What}
use Rattle.command_types.specs.declared.ask.What.TheVariants.{Post}
use Rattle.command_types.specs.declared.figures.State.{State}
use Rattle.command_types.specs.declared.plan.PlanRow.{PlanRow}
use Rattle.command_types.specs.declared.trade.TradeRow.{TradeRow}
use Rattle.command_types.specs.Roster.{Rows, IsRoster}
use Rattle.command_types.specs.Books.{listed_below}
use Rattle.command_types.specs.CycleSteps.{rows_of_member}
use Rattle.command_types.specs.History.{History, IsLegal, IsLegalFrom, end_of, replayed, replayed_from}
use Rattle.command_types.specs.Machine.{answer_to}
use Rattle.command_types.specs.Plans.{thawed, thawed_row}
use Rattle.command_types.specs.Details.{lines_text, trade_line}
use Rattle.cycle_states.specs.Replayed.{IsReplayed}
use Rattle.cycle_laws.specs.Bases.{IsWritable}
use Rattle.cycle_states.proofs.DeskFacts.{roster_replayed}
use Rattle.trade_history.specs.Book.{IsClosedBase, Book, book_from, own_rows, execution_row, executions_from}
use Rattle.trade_history.specs.Laws.{is_execution, execution_answer, TellsExecution, ExecutesAfter}
use Rattle.trade_history.specs.Search.{Execution, execution_at}
use Rattle.trade_history.proofs.Listed.{own_rows_are_the_historys, executions_are_listed, others_are_not_listed}
use Rattle.trade_history.proofs.Replay.{answers_tell_executions, legal-front, run-none, run-on}
use Rattle.trade_history.proofs.Whole.{found-at, moments-push, search_finds_executions}
use Rattle.house.specs.declared.executions.Dated.{Dated}
use Rattle.house.specs.declared.recovering.Recovered.{Recovered}
use Rattle.house.specs.Executions.{told_by, executions_told, told_of}
use Rattle.house.specs.Opening.{FindsFault}
use Rattle.house.specs.Storing.{ContentStandsFor}
use Rattle.journal_core.specs.declared.fault.JournalFault.{JournalFault}
use Rattle.journal_core.specs.declared.fault.JournalFault.TheVariants as faults
use Rattle.house.proofs.ExecutionFacts.{executions_told-push}
use Rattle.statements.specs.Details.{member_text}
use Rattle.compress_server.specs.Told.{rows_told, reply_told, end_text, told_text, recovered_text}
use Rattle.compress_server.specs.Replay.{rows_text, moment_at, first_moment, execution_line, replay_text, IsKept, IsUnread, ReplayRuns}
use Rattle.compress_server.specs.Files.{FilesState, SaysRoster}
use Rattle.compress_server.specs.Housed.{DiskState}
use Rattle.compress_server.specs.Seen.{OutputState}
use Rattle.compress_server.specs.declared.replay.ReplayEnd.TheVariants.{Done, SinkFault}
use Rattle.trade_history.proofs.PlanFacts.{posted_empty}
use Rattle.compress_server.proofs.EndFacts.{rose_later}

-- ---- lines

lines-append : {T : Type 0} (line : T → List ℕ) (xs ys : List T) → lines_text line (xs ++ ys) ≡ lines_text line xs ++ lines_text line ys
lines-append line [] ys = refl
lines-append line (x ∷ xs) ys = ap (λ text. line x ++ text) (lines-append line xs ys) ∙ sym (append_assoc (line x) (lines_text line xs) (lines_text line ys))

-- one line more
lines-push : {T : Type 0} (line : T → List ℕ) (xs : List T) (x : T) → lines_text line (xs ++ x ∷ []) ≡ lines_text line xs ++ line x
lines-push line xs x = lines-append line xs (x ∷ []) ∙ ap (λ text. lines_text line xs ++ text) (append-nil (line x))

-- the lines of the first elements, with the next one's behind them
pub lines_more : {T : Type 0} (line : T → List ℕ) (xs : List T) (i : ℕ) (x : T) (before now after : List ℕ) → i < length xs → x ≡ get_or xs i x → now ≡ before ++ lines_text line (take i xs) → after ≡ now ++ line x
    → after ≡ before ++ lines_text line (take (i + 1) xs)
lines_more line xs i x before now after within is so_far pushed =
    pushed ∙ ap (λ text. text ++ line x) so_far ∙ append_assoc before (lines_text line (take i xs)) (line x)
    ∙ ap (λ text. before ++ text) (sym (ap (lines_text line) (take_more xs i x within ∙ ap (λ y. take i xs ++ y ∷ []) (sym is)) ∙ lines-push line (take i xs) x))

lines-thawed : (roster : Rows) (rows : List TradeRow) → lines_text (trade_line roster) (thawed rows) ≡ lines_text (trade_line roster) rows
lines-thawed roster [] = refl
lines-thawed roster (row ∷ rows) = ap (λ text. trade_line roster row ++ text) (lines-thawed roster rows)

-- ---- one execution more

-- the lines of an execution, and those of the answer which tells it
line_at : (h : History) (position : ℕ) (what : What) (x : Execution) (answer : Answer) → answer ≡ execution_answer what x → ((cycle version : ℕ) (solutions : List SolutionData) → what ≡ Post cycle version solutions → x.plan ≡ [])
    → lines_text reply_told (told_by position answer (moment_at h position)) ≡ lines_text (execution_line h) (execution_row position (Some x))
line_at h position (Post cycle version solutions) x answer is empty =
    ap (λ a. lines_text reply_told (told_by position a (moment_at h position))) is
    ∙ ap (λ plan. lines_text (execution_line h) (execution_row position (Some (record { cycle = x.cycle; version = x.version; plan = plan })))) (sym (empty cycle version solutions refl))
line_at h position what x answer is empty = ap (λ a. lines_text reply_told (told_by position a (moment_at h position))) is

line_told : (h : History) (position moment : ℕ) (what : What) (x : Execution) (answer : Answer) → moment ≡ moment_at h position → answer ≡ execution_answer what x
    → ((cycle version : ℕ) (solutions : List SolutionData) → what ≡ Post cycle version solutions → x.plan ≡ [])
    → lines_text reply_told (told_by position answer moment) ≡ lines_text (execution_line h) (execution_row position (Some x))
line_told h position moment what x answer then is empty = ap (λ m. lines_text reply_told (told_by position answer m)) then ∙ line_at h position what x answer is empty

none_told : (position moment : ℕ) (answer : Answer) (b : Bool) → is_execution answer ≡ b → b ≡ false → cond {A = List Dated} b (record { reply = record { at = position; answer = answer }; moment = moment } ∷ []) [] ≡ []
none_told position moment answer true is e = cc
none_told position moment answer false is e = refl

-- the change behind some others
dropped : (front : List Entry) (entry : Entry) (back : List Entry) → drop (length front) (front ++ entry ∷ back) ≡ entry ∷ back
dropped [] entry back = refl
dropped (first ∷ front) entry back = dropped front entry back

module _ (h : History) (closed : IsClosedBase h.base.state) (legal : IsLegal h) where
  abbrev s : State
  s = h.base.state

  module _ (front : List Entry) (entry : Entry) (back : List Entry) (split : h.entries ≡ front ++ entry ∷ back) where
    abbrev found_here : Option Execution
    found_here = execution_at s.roster s.cycle.number (book_from s (front ++ entry ∷ [])).moments

    abbrev answer : Answer
    answer = answer_to (replayed_from s front) entry.ask

    abbrev position : ℕ
    position = h.base.position + length front + 1

    abbrev moment : ℕ
    moment = entry.ask.moment

    -- the moment of the change that led there
    moment_here : moment ≡ moment_at h position
    moment_here =
        let place : length front ≡ position - (h.base.position + 1) = omega arith in
        ap first_moment (sym (dropped front entry back)) ∙ ap (λ es. first_moment (drop (length front) es)) (sym split) ∙ ap (λ n. first_moment (drop n h.entries)) place

    posted : (x : Execution) → found_here ≡ Some x → (by : Option (List ℕ)) (time : ℕ) (what : What) → entry.ask ≡ record { by = by; what = what; moment = time } → (cycle version : ℕ) (solutions : List SolutionData) → what ≡ Post cycle version solutions → x.plan ≡ []
    posted x is by time what asked cycle version solutions post =
        let book : Book = book_from s front in
        let run = run-on s.roster s.cycle.number s (record { moments = []; rows = thawed s.trades }) front (run-none s closed) (legal-front s front entry back (subst (IsLegalFrom s) split legal)) in
        let asks : entry.ask ≡ record { by = by; what = Post cycle version solutions; moment = time } = asked ∙ ap (λ w. record { by = by; what = w; moment = time }) post in
        posted_empty s.roster s.cycle.number by time cycle version solutions book.rows book.moments x run.keeps.numbered
        (ap (λ a. execution_at s.roster s.cycle.number (record { ask = a; rows = book.rows } ∷ book.moments)) (sym asks)
        ∙ ap (execution_at s.roster s.cycle.number) (sym (moments-push s front entry)) ∙ is)

    one : (o : Option Execution) → found_here ≡ o → lines_text (execution_line h) (executions_from h.base (front ++ entry ∷ [])) ≡ lines_text (execution_line h) (executions_from h.base front) ++ lines_text reply_told (told_by position answer moment)
    one None is =
        let tells : IsFalse (is_execution answer) = subst (λ o. TellsExecution entry.ask.what o answer) is (answers_tell_executions h closed legal front entry back split) in
        let none : told_by position answer moment ≡ [] = none_told position moment answer (is_execution answer) refl tells in
        let nothing : (cycle version : ℕ) (plan : List PlanRow) → ExecutesAfter s front entry cycle version plan → ⊥ =
        λ cycle version plan x. absurd (none-some (record { cycle = cycle; version = version; plan = plan }) (sym is ∙ (search_finds_executions h closed legal front entry back split cycle version plan).0 x)) in
        ap (lines_text (execution_line h)) (others_are_not_listed h closed legal front entry back split nothing)
        ∙ sym (append-nil (lines_text (execution_line h) (executions_from h.base front)))
        ∙ ap (λ replies. lines_text (execution_line h) (executions_from h.base front) ++ lines_text reply_told replies) (sym none)
    one (Some x) is =
        let tells : answer ≡ execution_answer entry.ask.what x = subst (λ o. TellsExecution entry.ask.what o answer) is (answers_tell_executions h closed legal front entry back split) in
        let line = line_told h position moment entry.ask.what x answer moment_here tells (posted x is entry.ask.by moment entry.ask.what refl) in
        ap (lines_text (execution_line h)) (executions_are_listed h closed legal front entry back split x.cycle x.version x.plan (found-at s front entry x is))
        ∙ lines-append (execution_line h) (executions_from h.base front) (execution_row position (Some x))
        ∙ ap (λ text. lines_text (execution_line h) (executions_from h.base front) ++ text) (sym line)

  -- the replies that told an execution have the lines of the executions
  abbrev AreTold : List Entry → Type 0
  AreTold front = lines_text reply_told (executions_told s h.base.position front) ≡ lines_text (execution_line h) (executions_from h.base front)

  one_more : (front : List Entry) (entry : Entry) (back : List Entry) → h.entries ≡ front ++ entry ∷ back → AreTold front → AreTold (front ++ entry ∷ [])
  one_more front entry back split told =
      let line = lines_text reply_told (told_by (h.base.position + length front + 1) (answer_to (replayed_from s front) entry.ask) entry.ask.moment) in
      ap (lines_text reply_told) (executions_told-push s h.base.position front entry)
      ∙ lines-append reply_told (executions_told s h.base.position front) (told_by (h.base.position + length front + 1) (answer_to (replayed_from s front) entry.ask) entry.ask.moment)
      ∙ ap (λ text. text ++ line) told
      ∙ sym (one front entry back split (found_here front entry back split) refl)

  told_on : (front back : List Entry) → h.entries ≡ front ++ back → AreTold front → AreTold (front ++ back)
  told_on front [] split told = subst AreTold (sym (append-nil front)) told
  told_on front (entry ∷ back) split told =
      let regroup = append_assoc front (entry ∷ []) back in
      subst AreTold regroup (told_on (front ++ entry ∷ []) back (split ∙ sym regroup) (one_more front entry back split told))

  pub executions_are_told : AreTold h.entries
  executions_are_told = told_on [] h.entries refl refl

-- ---- the whole text

module _ (rows : Rows) (h : History) (closed_base : IsClosedBase h.base.state) (legal : IsLegal h) (now : State) (is : now ≡ replayed h) (roster : now.roster ≡ rows) where
  abbrev lines_of : Rows → ℕ → List TradeRow → List ℕ
  lines_of roster member own = member_text roster member (length own) ++ lines_text (trade_line roster) own

  own_told : (member : ℕ) → rows_told now member ≡ rows_text rows h member
  own_told member =
      let own = rows_of_member member now.trades in
      let same : thawed own ≡ own_rows h member = ap (λ (t : State). thawed (rows_of_member member t.trades)) is ∙ own_rows_are_the_historys h closed_base legal member in
      ap (λ r. lines_of r member own) roster
      ∙ sym (λ i. member_text rows member (length-map own thawed_row i) ++ lines-thawed rows own i)
      ∙ ap (lines_of rows member) same

  pub text_told : (executions : List Dated) → executions ≡ executions_told h.base.state h.base.position h.entries → told_text now (end_of h) executions ≡ replay_text rows h
  text_told executions told =
      let members : length now.roster.members ≡ length rows.members = ap (λ (r : Rows). length r.members) roster in
      let lines : lines_text reply_told executions ≡ lines_text (execution_line h) (executions_from h.base h.entries) = ap (lines_text reply_told) told ∙ executions_are_told h closed_base legal in
      (λ i. listed_below (members i) (λ member. own_told member i) ++ (lines i ++ end_text (end_of h)))

-- what was read of a disk, for these rows, is what it keeps
pub replay_told : (rows : Rows) (o : Option disks.History) (read : Recovered) → ContentStandsFor o read.past → IsReplayed read.machine.state read.past → IsWritable rows read.past.base.state
    → told_of read.executions ≡ option_map (λ replies. replies ++ executions_told read.past.base.state read.past.base.position read.past.entries) (Some [])
    → (h : History) × IsKept rows o h × (recovered_text read ≡ replay_text rows h)
replay_told rows o read stands replayed base told =
    let h = read.past in
    let roster : read.machine.state.roster ≡ rows = roster_replayed read.machine.state h replayed ∙ base.market.same in (
      h,
      record { base = base; legal = replayed.legal; stands = stands },
      text_told rows h base.market.closed replayed.legal read.machine.state replayed.same roster (unwrap_or (told_of read.executions) []) (ap (λ o. unwrap_or o []) told),
    )

-- ---- why nothing was read, over a disk that was attached, which changes nothing

module _ (rows : Rows) (disk mid left : DiskState) where
  unread_so : (fault : JournalFault) → mid.history ≡ disk.history → disk.faults ≤ mid.faults → FindsFault rows mid.history fault → (fault ≡ faults.DiskFault → Rose mid.faults left.faults) → IsUnread rows disk left fault
  unread_so (faults.Damaged place) same up found rose = subst (λ (d : Option disks.History). FindsFault rows d (faults.Damaged place)) same found
  unread_so faults.DiskFault same up found rose = rose_later disk.faults mid.faults left.faults up (rose refl)
  unread_so faults.Memory same up found rose = tt

  pub unread_later : {R : Type 0} (result : Result R JournalFault) → mid.history ≡ disk.history → disk.faults ≤ mid.faults → IfErr result (FindsFault rows mid.history) → (result ≡ Err faults.DiskFault → Rose mid.faults left.faults) → IfErr result (IsUnread rows disk left)
  unread_later (Ok read) same up found rose = tt
  unread_later (Err fault) same up found rose = unread_so fault same up found (λ e. rose (ap (λ f. Err f) e))

-- ---- how a replay ends, over a disk that holds what it held
module _ (roster : List ℕ) (files files' : FilesState) (output output' : OutputState) (disk left : DiskState) (rows : Rows) (says : SaysRoster files.folder roster rows) (are : IsRoster rows) (same : left.history ≡ disk.history)
    (read : Recovered) (text : List ℕ) (stands : ContentStandsFor disk.history read.past) (replayed : IsReplayed read.machine.state read.past) (base : IsWritable rows read.past.base.state)
    (told : told_of read.executions ≡ option_map (λ replies. replies ++ executions_told read.past.base.state read.past.base.position read.past.entries) (Some [])) (is : text ≡ recovered_text read) where
  abbrev kept : (h : History) × IsKept rows disk.history h × (recovered_text read ≡ replay_text rows h)
  kept = replay_told rows disk.history read stands replayed base told

  pub replays : Takes output.taken output'.taken text → ReplayRuns roster files files' output output' disk left Done
  replays takes = (same, (rows, says, are, (kept.0, kept.1, subst (λ t. Takes output.taken output'.taken t) (is ∙ kept.2) takes)))

  pub replays_front : TakesFront output.taken output'.taken text → Rose output.faults output'.faults → ReplayRuns roster files files' output output' disk left SinkFault
  replays_front takes rose = ((same, (rows, says, are, (kept.0, kept.1, subst (λ t. TakesFront output.taken output'.taken t) (is ∙ kept.2) takes))), rose)
