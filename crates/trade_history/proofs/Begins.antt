-- Versions: where none stands, and where the last one began.
use Rattle.std.proofs.Common.{◌≡◌, ◌⊎◌, ℕ, ◌+◌, ◌≤◌, ◌&&◌, Bool, true, false, cond, List, [], ◌∷◌, ◌++◌, length, Option, Some, None, unwrap_or, is_some, refl, sym, ap, ◌∙◌, arith, inl, inr}
use Rattle.std.proofs.lemmas.Bool.{false≢true}
use Rattle.network_laws.specs.Solutions.{SolutionData}
use Rattle.units_core.specs.Day.{DayParts}
use Rattle.command_types.specs.declared.ask.Ask.{Ask}
use Rattle.command_types.specs.declared.ask.Entry.{Entry}
use Rattle.command_types.specs.declared.ask.What.{What}
use Rattle.command_types.specs.declared.ask.What.TheVariants.{End, Freeze, Begin, Post, Proof, Accept, Decline, Cancel}
use Rattle.command_types.specs.declared.answer.Answer.TheVariants.{ProofRows}
use Rattle.command_types.specs.declared.cycle.Mode.{Mode}
use Rattle.command_types.specs.declared.cycle.Phase.TheVariants.{None as NoPhase}
use Rattle.command_types.specs.declared.figures.Cycle.{Cycle}
use Rattle.command_types.specs.declared.figures.State.{State}
use Rattle.command_types.specs.declared.plan.PlanRow.{PlanRow}
use Rattle.command_types.specs.declared.proof.ProofHead.{ProofHead}
use Rattle.command_types.specs.declared.proof.ProofRow.{ProofRow}
use Rattle.command_types.specs.declared.refusal.Refusal.{Refusal}
use Rattle.command_types.specs.Trades.{trade_numbered}
use Rattle.command_types.specs.Cycles.{may_break, broken_at, posted_plan}
use Rattle.command_types.specs.CycleSteps.{is_frozen_and_marked, touched_in, proposed_or_done, proof_on, left_after, after_vote}
use Rattle.command_types.specs.Machine.{member_of, first_of, refused_or, refusals, answer_to, state_by, state_after}
use Rattle.command_types.specs.History.{History, end_of, replayed_from}
use Rattle.command_types.specs.Offers.{is_begin, begin_from, last_begin}

-- ---- a cycle that is not open has no version

abbrev IsBare : Cycle → Type 0
IsBare cycle = cycle.phase ≡ NoPhase → cycle.mode ≡ None

end_bare : (t : Bool) (cycle : Cycle) (trade : ℕ) → IsBare cycle → IsBare (cond t (broken_at cycle trade) cycle)
end_bare true cycle trade bare = λ e. absurd (cc)
end_bare false cycle trade bare = bare

post_bare : (s : State) (solutions : List SolutionData) (plan : List PlanRow) (members : List ℕ) → IsBare (proposed_or_done s solutions plan members).cycle
post_bare s solutions plan [] = λ e. refl
post_bare s solutions plan (member ∷ members) = λ e. absurd (cc)

vote_bare : (s : State) (member : ℕ) (left : List ℕ) → IsBare s.cycle → IsBare (after_vote s member left).cycle
vote_bare s member [] bare = λ e. refl
vote_bare s member (voter ∷ voters) bare = bare

bare_by : (s : State) (by : Option (List ℕ)) (what : What) → IsBare s.cycle → IsBare (state_by s by what).cycle
bare_by s by (End trade) bare = end_bare (may_break s.cycle.phase && is_frozen_and_marked (trade_numbered s.trades trade)) s.cycle trade bare
bare_by s by (Freeze day) bare = λ e. refl
bare_by s by (Begin c mode) bare = λ e. absurd (cc)
bare_by s by (Post c v solutions) bare = post_bare s solutions (posted_plan s.cycle s.trades solutions) (touched_in s (posted_plan s.cycle s.trades solutions))
bare_by s by (Accept c v) bare = vote_bare s (member_of s (unwrap_or by [])) (left_after s (member_of s (unwrap_or by []))) bare
bare_by s by (Decline c v) bare = λ e. refl
bare_by s by (Cancel c) bare = λ e. refl
bare_by s by what bare = bare

-- so it is after any changes
pub bare_on : (s : State) (entries : List Entry) → (s.cycle.phase ≡ NoPhase → s.cycle.mode ≡ None) → (replayed_from s entries).cycle.phase ≡ NoPhase → (replayed_from s entries).cycle.mode ≡ None
bare_on s [] bare rest = bare rest
bare_on s (entry ∷ entries) bare rest = bare_on (state_after s entry.ask) entries (bare_by s entry.ask.by entry.ask.what bare) rest

-- ---- a version that stands began

-- a change leaves no version, begins one, or leaves what stands
abbrev Leaves : State → What → State → Type 0
Leaves s what next = (next.cycle.mode ≡ None) ⊎ ((is_begin what ≡ true) ⊎ (next.cycle.mode ≡ s.cycle.mode))

end_leaves : (t : Bool) (cycle : Cycle) (trade : ℕ) → (cond t (broken_at cycle trade) cycle).mode ≡ cycle.mode
end_leaves true cycle trade = refl
end_leaves false cycle trade = refl

post_leaves : (s : State) (c v : ℕ) (solutions : List SolutionData) (plan : List PlanRow) (members : List ℕ) → Leaves s (Post c v solutions) (proposed_or_done s solutions plan members)
post_leaves s c v solutions plan [] = inl refl
post_leaves s c v solutions plan (member ∷ members) = inr (inr refl)

vote_leaves : (s : State) (c v member : ℕ) (left : List ℕ) → Leaves s (Accept c v) (after_vote s member left)
vote_leaves s c v member [] = inl refl
vote_leaves s c v member (voter ∷ voters) = inr (inr refl)

leaves_by : (s : State) (by : Option (List ℕ)) (what : What) → Leaves s what (state_by s by what)
leaves_by s by (End trade) = inr (inr (end_leaves (may_break s.cycle.phase && is_frozen_and_marked (trade_numbered s.trades trade)) s.cycle trade))
leaves_by s by (Freeze day) = inl refl
leaves_by s by (Begin c mode) = inr (inl refl)
leaves_by s by (Post c v solutions) = post_leaves s c v solutions (posted_plan s.cycle s.trades solutions) (touched_in s (posted_plan s.cycle s.trades solutions))
leaves_by s by (Accept c v) = vote_leaves s c v (member_of s (unwrap_or by [])) (left_after s (member_of s (unwrap_or by [])))
leaves_by s by (Decline c v) = inl refl
leaves_by s by (Cancel c) = inl refl
leaves_by s by what = inr (inr refl)

placed : (b : Bool) (found place : ℕ) → b ≡ true → 1 ≤ cond b (place + 1) found
placed true found place is = omega arith
placed false found place is = absurd (false≢true is)

kept : (b : Bool) (found place : ℕ) → 1 ≤ found → 1 ≤ cond b (place + 1) found
kept true found place is = omega arith
kept false found place is = is

begun_next : (s : State) (ask : Ask) (found place : ℕ) → (is_some s.cycle.mode ≡ true → 1 ≤ found) → is_some (state_after s ask).cycle.mode ≡ true → 1 ≤ cond (is_begin ask.what) (place + 1) found
begun_next s ask found place before is = elim (leaves_by s ask.by ask.what) [
  | inl none ↦ absurd (false≢true (sym (ap is_some none) ∙ is))
  | inr (inl begins) ↦ placed (is_begin ask.what) found place begins
  | inr (inr same) ↦ kept (is_begin ask.what) found place (before (sym (ap is_some same) ∙ is))
]

begun_on : (s : State) (found place : ℕ) (entries : List Entry) → (is_some s.cycle.mode ≡ true → 1 ≤ found) → is_some (replayed_from s entries).cycle.mode ≡ true → 1 ≤ begin_from found place entries
begun_on s found place [] before is = before is
begun_on s found place (entry ∷ entries) before is =
    begun_on (state_after s entry.ask) (cond (is_begin entry.ask.what) (place + 1) found) (place + 1) entries (begun_next s entry.ask found place before) is

-- a version that stands behind a state without one began with one of the changes since
pub has_begun : (s : State) (entries : List Entry) → s.cycle.mode ≡ None → is_some (replayed_from s entries).cycle.mode ≡ true → 1 ≤ last_begin entries
has_begun s entries none is = begun_on s 0 0 entries (λ e. absurd (false≢true (sym (ap is_some none) ∙ e))) is

proof_mode : (day : Option DayParts) (mode : Option Mode) (s : State) (member : ℕ) (refusal : Option Refusal) (head : ProofHead) (rows : List ProofRow) →
    refused_or (proof_on day mode s member) refusal ≡ ProofRows head rows → is_some mode ≡ true
proof_mode (Some day) (Some mode) s member None head rows e = refl
proof_mode (Some day) None s member None head rows e = absurd (cc)
proof_mode None (Some mode) s member None head rows e = absurd (cc)
proof_mode None None s member None head rows e = absurd (cc)
proof_mode day mode s member (Some refusal) head rows e = absurd (cc)

-- a version stands where a member is told of it
pub told_mode : (s : State) (by : Option (List ℕ)) (moment cycle : ℕ) (head : ProofHead) (rows : List ProofRow) →
    answer_to s (record { by = by; what = Proof cycle; moment = moment }) ≡ ProofRows head rows → is_some s.cycle.mode ≡ true
told_mode s by moment cycle head rows e = proof_mode s.cycle.day s.cycle.mode s (member_of s (unwrap_or by [])) (first_of (refusals s by (Proof cycle))) head rows e

-- ---- where it began

begin_append : (found place : ℕ) (front back : List Entry) → begin_from found place (front ++ back) ≡ begin_from (begin_from found place front) (place + length front) back
begin_append found place [] back = ap (λ n. begin_from found n back) (omega arith)
begin_append found place (entry ∷ front) back =
    let next : ℕ = cond (is_begin entry.ask.what) (place + 1) found in
    begin_append next (place + 1) front back ∙ ap (λ n. begin_from (begin_from next (place + 1) front) n back) (omega arith)

-- from two places on, none began, or one that is as far behind each of them
abbrev Shifts : List Entry → ℕ → ℕ → ℕ → ℕ → Type 0
Shifts entries f g p q = ((begin_from f p entries ≡ f) × (begin_from g q entries ≡ g)) ⊎ ((d : ℕ) × (begin_from f p entries ≡ p + d) × (begin_from g q entries ≡ q + d))

shift_by : (b : Bool) (entries : List Entry) (f g p q : ℕ) → ((f g p q : ℕ) → Shifts entries f g p q) →
    ((begin_from (cond b (p + 1) f) (p + 1) entries ≡ f) × (begin_from (cond b (q + 1) g) (q + 1) entries ≡ g))
    ⊎ ((d : ℕ) × (begin_from (cond b (p + 1) f) (p + 1) entries ≡ p + d) × (begin_from (cond b (q + 1) g) (q + 1) entries ≡ q + d))
shift_by true entries f g p q shifts = elim (shifts (p + 1) (q + 1) (p + 1) (q + 1)) [
  | inl none ↦ inr (1, none.0, none.1)
  | inr one ↦ inr (one.0 + 1, one.1 ∙ omega arith, one.2 ∙ omega arith)
]
shift_by false entries f g p q shifts = elim (shifts f g (p + 1) (q + 1)) [
  | inl none ↦ inl none
  | inr one ↦ inr (one.0 + 1, one.1 ∙ omega arith, one.2 ∙ omega arith)
]

shifts : (entries : List Entry) (f g p q : ℕ) → Shifts entries f g p q
shifts [] f g p q = inl (refl, refl)
shifts (entry ∷ entries) f g p q = shift_by (is_begin entry.ask.what) entries f g p q (shifts entries)

-- a version that began behind a history began at the same position, told from the fold on or from the history's base
pub begun_same : (h : History) (front : List Entry) → 1 ≤ last_begin front → h.base.position + last_begin (h.entries ++ front) ≡ end_of h + last_begin front
begun_same h front some =
    let before : ℕ = last_begin h.entries in
    let apart : last_begin (h.entries ++ front) ≡ begin_from before (0 + length h.entries) front = begin_append 0 0 h.entries front in
    elim (shifts front before 0 (0 + length h.entries) 0) [
      | inl none ↦ absurd (let is = none.1 in omega (arith, is, some))
      | inr one ↦ let a = one.1 in let b = one.2 in omega (arith, apart, a, b)
    ]
