-- A version whose limits stand was begun by a BEGIN of the history, and a proposal that stands was posted by a POST of it.
use Rattle.std.proofs.Common.{◌≡◌, ℕ, ◌+◌, ◌&&◌, Bool, true, false, List, [], ◌∷◌, ◌++◌, append_assoc, Option, None, unwrap_or, IsTrue, if◌then◌else◌, refl, sym, ap, ◌∙◌, subst, eqb-true}
use Rattle.std.proofs.lemmas.Bool.{false≢true}
use Rattle.network_laws.specs.Solutions.{SolutionData, ProblemData}
use Rattle.command_types.specs.declared.ask.Entry.{Entry}
use Rattle.command_types.specs.declared.ask.What.{What}
use Rattle.command_types.specs.declared.ask.What.TheVariants.{End, Freeze, Begin, Post, Accept, Decline, Cancel}
use Rattle.command_types.specs.declared.answer.Answer.TheVariants.{Begun}
use Rattle.command_types.specs.declared.cycle.Mode.{Mode}
use Rattle.command_types.specs.declared.cycle.Phase.TheVariants.{None as NoPhase}
use Rattle.command_types.specs.declared.figures.Cycle.{Cycle}
use Rattle.command_types.specs.declared.figures.State.{State}
use Rattle.command_types.specs.declared.plan.PlanRow.{PlanRow}
use Rattle.command_types.specs.Trades.{trade_numbered}
use Rattle.command_types.specs.Cycles.{closed, has_limits, is_proposed, may_break, broken_at, posted_plan}
use Rattle.command_types.specs.CycleSteps.{is_frozen_and_marked, proposed_or_done, touched_in, after_vote, left_after}
use Rattle.command_types.specs.Machine.{first_of, refusals, member_of, state_by}
use Rattle.command_types.specs.History.{IsLegalFrom, replayed_from}
use Rattle.cycle_states.proofs.MachineFacts.{not_refused, accepted_answer}
use Rattle.cycle_states.proofs.CycleFacts.{solving_limits}
use Rattle.cycle_states.proofs.KeptFacts.{post_solves}
use Rattle.trade_history.proofs.Legal.{begin-legal, post-legal}
use Rattle.cycle_laws.specs.Histories.{HasBegun, HasPosted}
use Rattle.cycle_laws.proofs.Prefixes.{replayed_push, by_entries}

-- what these changes tell of the cycle after them
pub record IsTraced (base : State) (past : List Entry) (cycle : Cycle) : Type 0 where
  pub begun : IsTrue (has_limits cycle.phase) → HasBegun base past cycle.number cycle.version cycle.begun
  pub posted : IsTrue (is_proposed cycle.phase) → HasPosted past cycle.number cycle.version cycle.solutions

-- nothing, where no limits stand
untraced : (base : State) (past : List Entry) (cycle : Cycle) → has_limits cycle.phase ≡ false → is_proposed cycle.phase ≡ false → IsTraced base past cycle
untraced base past cycle no_limits no_proposal = record {
  begun = λ stands. absurd (false≢true (sym no_limits ∙ stands));
  posted = λ on. absurd (false≢true (sym no_proposal ∙ on));
}

begun_still : (base : State) (past : List Entry) (entry : Entry) (cycle version : ℕ) (problems : List ProblemData) → HasBegun base past cycle version problems → HasBegun base (past ++ entry ∷ []) cycle version problems
begun_still base past entry cycle version problems has = record {
  before = has.before;
  begin = has.begin;
  after = has.after ++ entry ∷ [];
  split = ap (λ entries. entries ++ entry ∷ []) has.split ∙ append_assoc has.before (has.begin ∷ has.after) (entry ∷ []);
  mode = has.mode;
  command = has.command;
  answer = has.answer;
  taken = has.taken;
}

pub posted_still : (past : List Entry) (entry : Entry) (cycle version : ℕ) (solutions : List SolutionData) → HasPosted past cycle version solutions → HasPosted (past ++ entry ∷ []) cycle version solutions
posted_still past entry cycle version solutions has = record {
  before = has.before;
  post = has.post;
  after = has.after ++ entry ∷ [];
  split = ap (λ entries. entries ++ entry ∷ []) has.split ∙ append_assoc has.before (has.post ∷ has.after) (entry ∷ []);
  command = has.command;
}

-- an accepted POST posts its solutions in the version that stands
pub posted_now : (s : State) (past : List Entry) (entry : Entry) (number version : ℕ) (solutions : List SolutionData) → first_of (refusals s entry.ask.by (Post number version solutions)) ≡ None → entry.ask.what ≡ Post number version solutions →
    HasPosted (past ++ entry ∷ []) s.cycle.number s.cycle.version solutions
posted_now s past entry number version solutions none is =
    let legal = post-legal s entry.ask.by number version solutions none in
    record {
      before = past;
      post = entry;
      after = [];
      split = refl;
      command = is ∙ ap (λ n. Post n version solutions) (eqb-true number s.cycle.number legal.1) ∙ ap (λ n. Post s.cycle.number n solutions) (eqb-true version s.cycle.version legal.2);
    }

module _ (base : State) (past : List Entry) (entry : Entry) where
  still : (cycle : Cycle) → IsTraced base past cycle → IsTraced base (past ++ entry ∷ []) cycle
  still cycle traced = record {
    begun = λ stands. begun_still base past entry cycle.number cycle.version cycle.begun (traced.begun stands);
    posted = λ on. posted_still past entry cycle.number cycle.version cycle.solutions (traced.posted on);
  }

  ended : (t : Bool) (cycle : Cycle) (trade : ℕ) → IsTraced base past cycle → IsTraced base (past ++ entry ∷ []) (if t then broken_at cycle trade else cycle)
  ended true cycle trade traced = untraced base (past ++ entry ∷ []) (broken_at cycle trade) refl refl
  ended false cycle trade traced = still cycle traced

  proposed : (s : State) (solutions : List SolutionData) (plan : List PlanRow) (touched : List ℕ) → IsTrue (has_limits s.cycle.phase) → HasPosted (past ++ entry ∷ []) s.cycle.number s.cycle.version solutions → IsTraced base past s.cycle →
      IsTraced base (past ++ entry ∷ []) (proposed_or_done s solutions plan touched).cycle
  proposed s solutions plan [] stands now traced = untraced base (past ++ entry ∷ []) (closed s.cycle.number s.cycle.version) refl refl
  proposed s solutions plan (member ∷ members) stands now traced = record {
    begun = λ _. begun_still base past entry s.cycle.number s.cycle.version s.cycle.begun (traced.begun stands);
    posted = λ on. now;
  }

  voted : (s : State) (member : ℕ) (left : List ℕ) → IsTraced base past s.cycle → IsTraced base (past ++ entry ∷ []) (after_vote s member left).cycle
  voted s member [] traced = untraced base (past ++ entry ∷ []) (closed s.cycle.number s.cycle.version) refl refl
  voted s member (voter ∷ voters) traced = record {
    begun = λ stands. begun_still base past entry s.cycle.number s.cycle.version s.cycle.begun (traced.begun stands);
    posted = λ on. posted_still past entry s.cycle.number s.cycle.version s.cycle.solutions (traced.posted on);
  }

abbrev entry_of : ℕ → Option (List ℕ) → What → ℕ → Entry
entry_of seat by what moment = record { seat = seat; ask = record { by = by; what = what; moment = moment } }

-- an accepted BEGIN begins the next version, with the problems of the moment
begun_now : (base : State) (past : List Entry) (seat : ℕ) (by : Option (List ℕ)) (moment number : ℕ) (mode : Mode) → first_of (refusals (replayed_from base past) by (Begin number mode)) ≡ None →
    IsTraced base (past ++ entry_of seat by (Begin number mode) moment ∷ []) (state_by (replayed_from base past) by (Begin number mode)).cycle
begun_now base past seat by moment number mode none =
    let s = replayed_from base past in
    let same : number ≡ s.cycle.number = eqb-true number s.cycle.number (begin-legal s by number mode none).1 in
    record {
      begun = λ stands. record {
        before = past;
        begin = entry_of seat by (Begin number mode) moment;
        after = [];
        split = refl;
        mode = mode;
        command = ap (λ n. Begin n mode) same;
        answer = accepted_answer s (record { by = by; what = Begin number mode; moment = moment }) none ∙ ap (λ n. Begun n (1 + s.cycle.version)) same;
        taken = refl;
      };
      posted = λ on. absurd (false≢true on);
    }

traced_by : (base : State) (past : List Entry) (seat : ℕ) (by : Option (List ℕ)) (moment : ℕ) (what : What) → first_of (refusals (replayed_from base past) by what) ≡ None → IsTraced base past (replayed_from base past).cycle →
    IsTraced base (past ++ entry_of seat by what moment ∷ []) (state_by (replayed_from base past) by what).cycle
traced_by base past seat by moment (End trade) none traced =
    let s = replayed_from base past in
    ended base past (entry_of seat by (End trade) moment) (may_break s.cycle.phase && is_frozen_and_marked (trade_numbered s.trades trade)) s.cycle trade traced
traced_by base past seat by moment (Freeze day) none traced = untraced base (past ++ entry_of seat by (Freeze day) moment ∷ []) (state_by (replayed_from base past) by (Freeze day)).cycle refl refl
traced_by base past seat by moment (Begin number mode) none traced = begun_now base past seat by moment number mode none
traced_by base past seat by moment (Post number version solutions) none traced =
    let s = replayed_from base past in
    let entry = entry_of seat by (Post number version solutions) moment in
    proposed base past entry s solutions (posted_plan s.cycle s.trades solutions) (touched_in s (posted_plan s.cycle s.trades solutions))
    (solving_limits s.cycle.phase (post_solves s by number version solutions none)) (posted_now s past entry number version solutions none refl) traced
traced_by base past seat by moment (Accept number version) none traced =
    let s = replayed_from base past in
    voted base past (entry_of seat by (Accept number version) moment) s (member_of s (unwrap_or by [])) (left_after s (member_of s (unwrap_or by []))) traced
traced_by base past seat by moment (Decline number version) none traced = untraced base (past ++ entry_of seat by (Decline number version) moment ∷ []) (state_by (replayed_from base past) by (Decline number version)).cycle refl refl
traced_by base past seat by moment (Cancel number) none traced = untraced base (past ++ entry_of seat by (Cancel number) moment ∷ []) (state_by (replayed_from base past) by (Cancel number)).cycle refl refl
traced_by base past seat by moment what none traced = still base past (entry_of seat by what moment) (replayed_from base past).cycle traced

-- so it is after every legal list of changes that is so at first
pub traced_on : (base : State) (entries : List Entry) → IsTraced base [] base.cycle → IsLegalFrom base entries → IsTraced base entries (replayed_from base entries).cycle
traced_on base entries first legal =
    by_entries (λ past. IsTraced base past (replayed_from base past).cycle) base
    (λ past entry is traced. subst (λ (n : State). IsTraced base (past ++ entry ∷ []) n.cycle) (sym (replayed_push base past entry))
    (traced_by base past entry.seat entry.ask.by entry.ask.moment entry.ask.what (not_refused (replayed_from base past) entry.ask is) traced))
    first entries legal

-- as it is where no cycle is open
pub traced_closed : (s : State) → s.cycle.phase ≡ NoPhase → IsTraced s [] s.cycle
traced_closed s none = untraced s [] s.cycle (ap has_limits none) (ap is_proposed none)
