-- Cycles and versions only rise, what a version began with stands while it lasts, and it is posted once.
use Rattle.std.proofs.Common.{◌≡◌, ℕ, ◌≤◌, Bool, true, false, cond, ◌&&◌, List, [], ◌∷◌, ◌++◌, Option, unwrap_or, refl, sym, ◌∙◌, subst, arith, ◌==◌, eqb-true}
use Rattle.std.proofs.lemmas.Bool.{false≢true, and_parts, both_ways}
use Rattle.std.proofs.lemmas.List.Sums.{fold-append}
use Rattle.network_laws.specs.Solutions.{SolutionData}
use Rattle.command_types.specs.declared.ask.Entry.{Entry}
use Rattle.command_types.specs.declared.ask.What.{What}
use Rattle.command_types.specs.declared.ask.What.TheVariants.{Trade, Affirm, End, Hold, Free, Tol, Freeze, Begin, Post, Accept, Decline, Cancel}
use Rattle.command_types.specs.declared.cycle.Phase.{Phase}
use Rattle.command_types.specs.declared.cycle.Phase.TheVariants.{None as NoPhase, Frozen, Solving, Proposed, Broken}
use Rattle.command_types.specs.declared.figures.Cycle.{Cycle}
use Rattle.command_types.specs.declared.figures.State.{State}
use Rattle.command_types.specs.declared.plan.PlanRow.{PlanRow}
use Rattle.command_types.specs.Trades.{trade_numbered}
use Rattle.command_types.specs.Cycles.{may_break, has_limits, is_solving, broken_at, posted_plan}
use Rattle.command_types.specs.CycleSteps.{is_frozen_and_marked, touched_in, proposed_or_done, left_after, after_vote}
use Rattle.command_types.specs.Machine.{member_of, state_by, state_after}
use Rattle.command_types.specs.History.{IsLegalFrom, replayed_from}
use Rattle.trade_history.specs.Moments.{is_post}
use Rattle.trade_history.specs.Laws.{BegunLimitsStand, VersionsArePostedOnce}
use Rattle.trade_history.proofs.Replay.{legal-at}
use Rattle.trade_history.proofs.Legal.{Accepts, none-holds, is-change, post-legal}

-- a later cycle has a higher number, or the same number and a version that is not lower; in the same version the limits are the same, and it does not come to be solved again
pub record IsLater (before later : Cycle) : Type 0 where
  pub number : before.number ≤ later.number
  pub version : before.number ≡ later.number → before.version ≤ later.version
  pub begun : before.number ≡ later.number → before.version ≡ later.version → has_limits later.phase ≡ true → (has_limits before.phase ≡ true) × (later.begun ≡ before.begun)
  pub solving : before.number ≡ later.number → before.version ≡ later.version → is_solving later.phase ≡ true → is_solving before.phase ≡ true

later-same : (cycle : Cycle) → IsLater cycle cycle
later-same cycle = record { number = omega arith; version = λ e. omega arith; begun = λ e f g. (g, refl); solving = λ e f g. g }

solving_limits : (phase : Phase) → is_solving phase ≡ true → has_limits phase ≡ true
solving_limits NoPhase is = cc
solving_limits Frozen is = cc
solving_limits Solving is = refl
solving_limits Proposed is = refl
solving_limits Broken is = cc

later-trans : (a b c : Cycle) → IsLater a b → IsLater b c → IsLater a c
later-trans a b c x y =
    let up = x.number in
    let on = y.number in
    record {
      number = omega arith;
      version = λ e. (
          let first : a.number ≡ b.number = omega arith in
          let second : b.number ≡ c.number = omega arith in
          let v = x.version first in
          let w = y.version second in
          omega arith);
      begun = λ e f g. (
          let first : a.number ≡ b.number = omega arith in
          let second : b.number ≡ c.number = omega arith in
          let v = x.version first in
          let w = y.version second in
          let same_first : a.version ≡ b.version = omega arith in
          let same_second : b.version ≡ c.version = omega arith in
          let later = y.begun second same_second g in
          let before = x.begun first same_first later.0 in
          (before.0, later.1 ∙ before.1));
      solving = λ e f g. (
          let first : a.number ≡ b.number = omega arith in
          let second : b.number ≡ c.number = omega arith in
          let v = x.version first in
          let w = y.version second in
          let same_first : a.version ≡ b.version = omega arith in
          let same_second : b.version ≡ c.version = omega arith in
          x.solving first same_first (y.solving second same_second g));
    }

-- a cycle without limits that keeps both numbers
later-without : (before later : Cycle) → before.number ≡ later.number → before.version ≡ later.version → has_limits later.phase ≡ false → IsLater before later
later-without before later n v no_limits = record {
  number = omega arith;
  version = λ e. omega arith;
  begun = λ e f g. cc;
  solving = λ e f g. (let limits = solving_limits later.phase g in cc);
}

end_later : (t : Bool) (cycle : Cycle) (trade : ℕ) → IsLater cycle (cond t (broken_at cycle trade) cycle)
end_later true cycle trade = later-without cycle (broken_at cycle trade) refl refl refl
end_later false cycle trade = later-same cycle

post_later : (s : State) (solutions : List SolutionData) (plan : List PlanRow) (members : List ℕ) → has_limits s.cycle.phase ≡ true → IsLater s.cycle (proposed_or_done s solutions plan members).cycle
post_later s solutions plan [] limits = later-without s.cycle (proposed_or_done s solutions plan []).cycle refl refl refl
post_later s solutions plan (member ∷ members) limits = record { number = omega arith; version = λ e. omega arith; begun = λ e f g. (limits, refl); solving = λ e f g. cc }

vote_later : (s : State) (member : ℕ) (left : List ℕ) → IsLater s.cycle (after_vote s member left).cycle
vote_later s member [] = later-without s.cycle (after_vote s member []).cycle refl refl refl
vote_later s member (voter ∷ voters) = record { number = omega arith; version = λ e. omega arith; begun = λ e f g. (g, refl); solving = λ e f g. g }

later_by : (s : State) (by : Option (List ℕ)) (what : What) → Accepts s by what → IsLater s.cycle (state_by s by what).cycle
later_by s by (Trade seller buyer product amount day) is = later-same s.cycle
later_by s by (Affirm trade) is = later-same s.cycle
later_by s by (End trade) is = end_later (may_break s.cycle.phase && is_frozen_and_marked (trade_numbered s.trades trade)) s.cycle trade
later_by s by (Hold trade) is = later-same s.cycle
later_by s by (Free trade) is = later-same s.cycle
later_by s by (Tol other product side floor ceiling) is = later-same s.cycle
later_by s by (Freeze day) is = record { number = omega arith; version = λ e. absurd (omega arith); begun = λ e f g. absurd (omega arith); solving = λ e f g. absurd (omega arith) }
later_by s by (Begin c mode) is = record { number = omega arith; version = λ e. omega arith; begun = λ e f g. absurd (omega arith); solving = λ e f g. absurd (omega arith) }
later_by s by (Post c v solutions) is =
    post_later s solutions (posted_plan s.cycle s.trades solutions) (touched_in s (posted_plan s.cycle s.trades solutions))
    (solving_limits s.cycle.phase (post-legal s by c v solutions (none-holds s by (Post c v solutions) is)).0)
later_by s by (Accept c v) is = vote_later s (member_of s (unwrap_or by [])) (left_after s (member_of s (unwrap_or by [])))
later_by s by (Decline c v) is = later-without s.cycle (state_by s by (Decline c v)).cycle refl refl refl
later_by s by (Cancel c) is = later-without s.cycle (state_by s by (Cancel c)).cycle refl refl refl
later_by s by what is = absurd (false≢true (is-change s by what is))

later-run : (s : State) (entries rest : List Entry) → IsLegalFrom s (entries ++ rest) → IsLater s.cycle (replayed_from s entries).cycle
later-run s [] rest legal = later-same s.cycle
later-run s (entry ∷ entries) rest (here, legal) =
    later-trans s.cycle (state_after s entry.ask).cycle (replayed_from (state_after s entry.ask) entries).cycle (later_by s entry.ask.by entry.ask.what here.0)
    (later-run (state_after s entry.ask) entries rest legal)

legal-back : (s : State) (front back : List Entry) → IsLegalFrom s (front ++ back) → IsLegalFrom (replayed_from s front) back
legal-back s [] back legal = legal
legal-back s (entry ∷ front) back (here, legal) = legal-back (state_after s entry.ask) front back legal

stand : (s t : State) → IsLater s.cycle t.cycle → has_limits t.cycle.phase ≡ true → s.cycle.number ≡ t.cycle.number → s.cycle.version ≡ t.cycle.version → t.cycle.begun ≡ s.cycle.begun
stand s t later limits number version = (later.begun number version limits).1

pub begun_limits_stand : BegunLimitsStand
begun_limits_stand h legal front middle back split first second number version =
    let s = h.base.state in
    let on : replayed_from (replayed_from s front) middle ≡ replayed_from s (front ++ middle) = sym (fold-append (λ state entry. state_after state entry.ask) s front middle) in
    let later = later-run (replayed_from s front) middle back (legal-back s front (middle ++ back) (subst (IsLegalFrom s) split legal)) in
    stand (replayed_from s front) (replayed_from s (front ++ middle)) (subst (λ t. IsLater (replayed_from s front).cycle t.cycle) on later) second number version

-- a POST is accepted where its version is being solved, and ends that
post-accepted : (k v : ℕ) (s : State) (by : Option (List ℕ)) (what : What) → is_post k v what ≡ true → Accepts s by what →
    (is_solving s.cycle.phase ≡ true) × (s.cycle.number ≡ k) × (s.cycle.version ≡ v)
post-accepted k v s by (Post c w solutions) post is =
    let legal = post-legal s by c w solutions (none-holds s by (Post c w solutions) is) in
    let parts = and_parts (c == k) (w == v) post in
    (legal.0, sym (eqb-true c s.cycle.number legal.1) ∙ eqb-true c k parts.0, sym (eqb-true w s.cycle.version legal.2) ∙ eqb-true w v parts.1)
post-accepted k v s by what post is = absurd (false≢true post)

post_leaves : (s : State) (solutions : List SolutionData) (plan : List PlanRow) (members : List ℕ) →
    (is_solving (proposed_or_done s solutions plan members).cycle.phase ≡ false)
    × ((proposed_or_done s solutions plan members).cycle.number ≡ s.cycle.number) × ((proposed_or_done s solutions plan members).cycle.version ≡ s.cycle.version)
post_leaves s solutions plan [] = (refl, refl, refl)
post_leaves s solutions plan (member ∷ members) = (refl, refl, refl)

post-leaves : (k v : ℕ) (s : State) (by : Option (List ℕ)) (what : What) → is_post k v what ≡ true →
    (is_solving (state_by s by what).cycle.phase ≡ false) × ((state_by s by what).cycle.number ≡ s.cycle.number) × ((state_by s by what).cycle.version ≡ s.cycle.version)
post-leaves k v s by (Post c w solutions) post = post_leaves s solutions (posted_plan s.cycle s.trades solutions) (touched_in s (posted_plan s.cycle s.trades solutions))
post-leaves k v s by what post = absurd (false≢true post)

once : (k v : ℕ) (s : State) (first : Entry) (middle : List Entry) (second : Entry) (back : List Entry) → IsLegalFrom s (first ∷ (middle ++ second ∷ back)) →
    is_post k v first.ask.what ≡ true → is_post k v second.ask.what ≡ true → ⊥
once k v s first middle second back (here, rest) post again =
    let next = state_after s first.ask in
    let last = replayed_from next middle in
    let one = post-accepted k v s first.ask.by first.ask.what post here.0 in
    let left = post-leaves k v s first.ask.by first.ask.what post in
    let other = post-accepted k v last second.ask.by second.ask.what again (legal-at next middle second back rest) in
    let later = later-run next middle (second ∷ back) rest in
    both_ways (is_solving next.cycle.phase) left.0 (later.solving (left.1 ∙ one.1 ∙ sym other.1) (left.2 ∙ one.2 ∙ sym other.2) other.0)

pub versions_are_posted_once : VersionsArePostedOnce
versions_are_posted_once h legal front middle back first second split k v post again =
    once k v (replayed_from h.base.state front) first middle second back
    (legal-back h.base.state front (first ∷ (middle ++ second ∷ back)) (subst (IsLegalFrom h.base.state) split legal)) post again
