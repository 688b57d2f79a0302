-- What every change keeps of the cycle: its problems and its proposal rest on the frozen trades alone, whatever their marks.
use Rattle.std.proofs.Common.{◌≡◌, ℕ, ◌&&◌, ◌||◌, not, nat_lt, Bool, true, false, List, [], ◌∷◌, length, Option, Some, None, is_some, IsTrue, All, unwrap_or, if◌then◌else◌, refl, ap, sym, subst, ◌∙◌}
use Rattle.std.proofs.lemmas.Bool.{false≢true}
use Rattle.network_laws.specs.Networks.{NetworkData}
use Rattle.network_laws.specs.Solutions.{SolutionData, IsSolution}
use Rattle.units_core.specs.Day.{DayParts}
use Rattle.command_types.specs.declared.ask.What.{What}
use Rattle.command_types.specs.declared.ask.What.TheVariants.{Hello, Trade, Affirm, End, Hold, Free, Tol, Nets, Statement, Freeze, Begin, Limits, Row, Pot, Post, Fetch, Next, Plan, Proof, Accept, Decline, Cancel, Bye, Unreadable}
use Rattle.command_types.specs.declared.cycle.Phase.{Phase}
use Rattle.command_types.specs.declared.cycle.Phase.TheVariants as phase
use Rattle.command_types.specs.declared.figures.Cycle.{Cycle}
use Rattle.command_types.specs.declared.figures.State.{State}
use Rattle.command_types.specs.declared.refusal.BadPost.{BadPost}
use Rattle.command_types.specs.declared.refusal.Refusal.TheVariants.{NotGreeted}
use Rattle.command_types.specs.declared.trade.Side.{Side}
use Rattle.command_types.specs.declared.trade.TradeRow.{TradeRow}
use Rattle.command_types.specs.declared.trade.TradeState.{TradeState}
use Rattle.command_types.specs.declared.trade.TradeState.TheVariants.{Alleged, Live, Ended}
use Rattle.command_types.specs.Roster.{Rows, is_party}
use Rattle.command_types.specs.Trades.{is_alleged, is_live, trade_numbered, affirmed, ended_by, held_by, freed_by}
use Rattle.command_types.specs.Cycles.{closed, is_open, is_solving, is_proposed, may_begin, may_break, has_limits, bad_post, plan_on, posted_plan, old_networks, new_networks, broken_at}
use Rattle.command_types.specs.CycleRefusals.{begin_refusals, post_refusals, accept_refusals, if_bad_post}
use Rattle.command_types.specs.CycleSteps.{is_frozen_and_marked, proposed_or_done, touched_in, after_vote, left_after}
use Rattle.command_types.specs.Machine.{first_of, refusals, member_of, product_of, side_at, side_of, state_by, affirm_refusals, hold_refusals, free_refusals}
use Rattle.command_types.specs.History.{solutions_posted}
use Rattle.acceptance.specs.Laws.{frozen_of}
use Rattle.posting.specs.Laws.{HasSamePosting}
use Rattle.posting.proofs.FrozenStays.{plan_stays, alleged_stays, affirmed_stays, held_stays, freed_stays, ended_stays}
use Rattle.cycle_states.specs.Machine.{IsCycle, IsUnbroken}
use Rattle.cycle_states.proofs.MachineFacts.{none_holds, not_false}
use Rattle.cycle_states.proofs.CycleFacts.{found, second_fails, begin_breaks, limits_break, proposed_limits, solving_limits, decline_proposed}

breaks_open : (p : Phase) → IsTrue (may_break p) → IsTrue (is_open p)
breaks_open phase.None h = absurd (false≢true h)
breaks_open phase.Frozen h = refl
breaks_open phase.Solving h = refl
breaks_open phase.Proposed h = refl
breaks_open phase.Broken h = refl

plan_same : (day : Option DayParts) (rows other : List TradeRow) (old new : List NetworkData) → HasSamePosting other rows → plan_on day rows old new ≡ plan_on day other old new
plan_same None rows other old new same = refl
plan_same (Some day) rows other old new same = sym (same.plan old new day)

-- a cycle goes over to trades of which the frozen ones are the same but for the marks
pub same_frozen : (roster : Rows) (rows other : List TradeRow) (cycle : Cycle) → (IsTrue (has_limits cycle.phase) → frozen_of other ≡ frozen_of rows) → IsCycle roster rows cycle → IsCycle roster other cycle
same_frozen roster rows other cycle same kept = record {
  day = kept.day;
  begun = λ stands. let version = kept.begun stands in record {
    in_which = version.in_which;
    in_mode = version.in_mode;
    same = version.same ∙ (plan_stays rows other (sym (same stands))).problems roster cycle.settings version.in_which;
  };
  proposed = λ on. let q = kept.proposed on in record {
    solutions = q.solutions;
    certified = q.certified;
    planned = q.planned ∙ plan_same cycle.day rows other (old_networks cycle.begun) (new_networks cycle.solutions) (plan_stays other rows (same (proposed_limits cycle.phase on)));
  };
}

-- a cycle that is over keeps nothing
pub closed_kept : (roster : Rows) (rows : List TradeRow) (number version : ℕ) → IsCycle roster rows (closed number version)
closed_kept roster rows number version = record {
  day = λ may. absurd (false≢true may);
  begun = λ stands. absurd (false≢true stands);
  proposed = λ on. absurd (false≢true on);
}

-- what an accepted AFFIRM, HOLD or FREE found
pub affirm_stands : (s : State) (by : Option (List ℕ)) (trade : ℕ) (row : TradeRow) → first_of (refusals s by (Affirm trade)) ≡ None → trade_numbered s.trades trade ≡ Some row → is_alleged row.state ≡ true
affirm_stands s by trade row none is =
    let P : Option TradeRow → Type 0 = λ o. first_of ((not (is_party s.roster by), NotGreeted) ∷ affirm_refusals s (unwrap_or by []) o) ≡ None in
    not_false (is_alleged row.state)
    (none_holds ((not (is_party s.roster by), NotGreeted) ∷ affirm_refusals s (unwrap_or by []) (Some row)) (subst P is none)).1.1.0

hold_stands : (s : State) (by : Option (List ℕ)) (trade : ℕ) (row : TradeRow) → first_of (refusals s by (Hold trade)) ≡ None → trade_numbered s.trades trade ≡ Some row → (is_open s.cycle.phase && row.frozen) ≡ false
hold_stands s by trade row none is =
    let P : Option TradeRow → Type 0 = λ o. first_of ((not (is_party s.roster by), NotGreeted) ∷ hold_refusals s (unwrap_or by []) o) ≡ None in
    (none_holds ((not (is_party s.roster by), NotGreeted) ∷ hold_refusals s (unwrap_or by []) (Some row)) (subst P is none)).1.1.1.0

free_stands : (s : State) (by : Option (List ℕ)) (trade : ℕ) (row : TradeRow) → first_of (refusals s by (Free trade)) ≡ None → trade_numbered s.trades trade ≡ Some row → (is_open s.cycle.phase && row.frozen) ≡ false
free_stands s by trade row none is =
    let P : Option TradeRow → Type 0 = λ o. first_of ((not (is_party s.roster by), NotGreeted) ∷ free_refusals s (unwrap_or by []) o) ≡ None in
    (none_holds ((not (is_party s.roster by), NotGreeted) ∷ free_refusals s (unwrap_or by []) (Some row)) (subst P is none)).1.1.1.0

-- an alleged trade is not frozen, where frozen ones are live
alleged_unfrozen : (frozen : Bool) (state : TradeState) → (IsTrue frozen → IsTrue (is_live state)) → is_alleged state ≡ true → frozen ≡ false
alleged_unfrozen false state sound alleged = refl
alleged_unfrozen true Alleged sound alleged = absurd (false≢true (sound refl))
alleged_unfrozen true Live sound alleged = absurd (false≢true alleged)
alleged_unfrozen true Ended sound alleged = absurd (false≢true alleged)

-- a frozen trade that has no mark is only marked
unmarked_stays : (frozen marked : Bool) (state : TradeState) → (frozen && marked) ≡ false → (IsTrue frozen → IsTrue (is_live state)) → (frozen && (is_alleged state || marked)) ≡ false
unmarked_stays false marked state off sound = refl
unmarked_stays true marked Alleged off sound = absurd (false≢true (sound refl))
unmarked_stays true marked Live off sound = off
unmarked_stays true marked Ended off sound = absurd (false≢true (sound refl))

-- no command about one trade changes a frozen one but by a mark, while the cycle may break
pub affirm_leaves : (s : State) (by : Option (List ℕ)) (trade : ℕ) → first_of (refusals s by (Affirm trade)) ≡ None → IsUnbroken s.cycle.phase s.trades → IsTrue (may_break s.cycle.phase) →
    frozen_of (affirmed s.trades trade) ≡ frozen_of s.trades
affirm_leaves s by trade none unbroken may =
    affirmed_stays s.trades trade (λ row is. alleged_unfrozen row.frozen row.state (found s.trades trade (nat_lt 0 trade) row is (unbroken may)) (affirm_stands s by trade row none is))

pub hold_leaves : (s : State) (by : Option (List ℕ)) (trade : ℕ) (side : Side) → first_of (refusals s by (Hold trade)) ≡ None → IsTrue (may_break s.cycle.phase) → frozen_of (held_by side s.trades trade) ≡ frozen_of s.trades
hold_leaves s by trade side none may =
    held_stays side s.trades trade (λ row is. second_fails (is_open s.cycle.phase) row.frozen (hold_stands s by trade row none is) (breaks_open s.cycle.phase may))

pub free_leaves : (s : State) (by : Option (List ℕ)) (trade : ℕ) (side : Side) → first_of (refusals s by (Free trade)) ≡ None → IsTrue (may_break s.cycle.phase) → frozen_of (freed_by side s.trades trade) ≡ frozen_of s.trades
free_leaves s by trade side none may =
    freed_stays side s.trades trade (λ row is. second_fails (is_open s.cycle.phase) row.frozen (free_stands s by trade row none is) (breaks_open s.cycle.phase may))

pub end_leaves : (cycle : Cycle) (rows : List TradeRow) (trade : ℕ) (side : Side) → (may_break cycle.phase && is_frozen_and_marked (trade_numbered rows trade)) ≡ false → IsUnbroken cycle.phase rows → IsTrue (may_break cycle.phase) →
    frozen_of (ended_by side rows trade) ≡ frozen_of rows
end_leaves cycle rows trade side is unbroken may =
    let off : is_frozen_and_marked (trade_numbered rows trade) ≡ false = second_fails (may_break cycle.phase) (is_frozen_and_marked (trade_numbered rows trade)) is may in
    ended_stays side rows trade
    (λ row at_place. unmarked_stays row.frozen (is_some row.mark) row.state (sym (ap is_frozen_and_marked at_place) ∙ off) (found rows trade (nat_lt 0 trade) row at_place (unbroken may)))

-- an END breaks the cycle, or leaves the frozen trades but for a mark
ended_kept : (t : Bool) (roster : Rows) (cycle : Cycle) (rows : List TradeRow) (trade : ℕ) (side : Side) → (may_break cycle.phase && is_frozen_and_marked (trade_numbered rows trade)) ≡ t → IsUnbroken cycle.phase rows → IsCycle roster rows cycle →
    IsCycle roster (ended_by side rows trade) (if t then broken_at cycle trade else cycle)
ended_kept true roster cycle rows trade side is unbroken kept = record {
  day = λ may. absurd (false≢true may);
  begun = λ stands. absurd (false≢true stands);
  proposed = λ on. absurd (false≢true on);
}
ended_kept false roster cycle rows trade side is unbroken kept =
    same_frozen roster rows (ended_by side rows trade) cycle (λ stands. end_leaves cycle rows trade side is unbroken (limits_break cycle.phase stands)) kept

-- what an accepted POST found
post_rows : (s : State) (by : Option (List ℕ)) (cycle version : ℕ) (solutions : List SolutionData) → first_of (refusals s by (Post cycle version solutions)) ≡ None → (is_solving s.cycle.phase ≡ true) × ((if_bad_post (bad_post (length s.roster.members) s.cycle.begun solutions)).0 ≡ false)
post_rows s by cycle version solutions none =
    let tests = none_holds ((not (is_party s.roster by), NotGreeted) ∷ post_refusals s (unwrap_or by []) cycle version solutions) none in
    (not_false (is_solving s.cycle.phase) tests.1.1.1.1.0, tests.1.1.1.1.1.1.0)

fine_post : (o : Option BadPost) → (if_bad_post o).0 ≡ false → o ≡ None
fine_post None is = refl
fine_post (Some post) is = cc

-- an accepted POST comes in phase solving, and its solutions are certified
pub post_solves : (s : State) (by : Option (List ℕ)) (cycle version : ℕ) (solutions : List SolutionData) → first_of (refusals s by (Post cycle version solutions)) ≡ None → IsTrue (is_solving s.cycle.phase)
post_solves s by cycle version solutions none = (post_rows s by cycle version solutions none).0

pub post_certified : (s : State) (by : Option (List ℕ)) (cycle version : ℕ) (solutions : List SolutionData) → first_of (refusals s by (Post cycle version solutions)) ≡ None → bad_post (length s.roster.members) s.cycle.begun solutions ≡ None
post_certified s by cycle version solutions none = fine_post (bad_post (length s.roster.members) s.cycle.begun solutions) (post_rows s by cycle version solutions none).1

-- an accepted ACCEPT comes in phase proposed
pub accept_proposed : (s : State) (by : Option (List ℕ)) (cycle version : ℕ) → first_of (refusals s by (Accept cycle version)) ≡ None → IsTrue (is_proposed s.cycle.phase)
accept_proposed s by cycle version none =
    not_false (is_proposed s.cycle.phase) (none_holds ((not (is_party s.roster by), NotGreeted) ∷ accept_refusals s (unwrap_or by []) cycle version) none).1.1.1.0

pub begin_may : (s : State) (by : Option (List ℕ)) (cycle : ℕ) → first_of ((not (is_party s.roster by), NotGreeted) ∷ begin_refusals s (unwrap_or by []) cycle) ≡ None → IsTrue (may_break s.cycle.phase)
begin_may s by cycle none =
    begin_breaks s.cycle.phase (not_false (may_begin s.cycle.phase) (none_holds ((not (is_party s.roster by), NotGreeted) ∷ begin_refusals s (unwrap_or by []) cycle) none).1.1.1.1.0)

posted_kept : (s : State) (solutions : List SolutionData) (touched : List ℕ) → IsTrue (is_solving s.cycle.phase) → bad_post (length s.roster.members) s.cycle.begun solutions ≡ None → All IsSolution solutions → IsCycle s.roster s.trades s.cycle →
    IsCycle s.roster (proposed_or_done s solutions (posted_plan s.cycle s.trades solutions) touched).trades (proposed_or_done s solutions (posted_plan s.cycle s.trades solutions) touched).cycle
posted_kept s solutions [] solving certified sound kept = closed_kept s.roster _ s.cycle.number s.cycle.version
posted_kept s solutions (member ∷ members) solving certified sound kept = record {
  day = λ may. kept.day (limits_break s.cycle.phase (solving_limits s.cycle.phase solving));
  begun = λ stands. kept.begun (solving_limits s.cycle.phase solving);
  proposed = λ on. record { solutions = sound; certified = certified; planned = refl };
}

voted_kept : (s : State) (member : ℕ) (left : List ℕ) → IsCycle s.roster s.trades s.cycle → IsCycle s.roster (after_vote s member left).trades (after_vote s member left).cycle
voted_kept s member [] kept = closed_kept s.roster _ s.cycle.number s.cycle.version
voted_kept s member (voter ∷ voters) kept = record {
  day = kept.day;
  begun = kept.begun;
  proposed = λ on. let q = kept.proposed on in record { solutions = q.solutions; certified = q.certified; planned = q.planned };
}

kept_by : (s : State) (by : Option (List ℕ)) (what : What) → first_of (refusals s by what) ≡ None → IsUnbroken s.cycle.phase s.trades → All IsSolution (solutions_posted what) → IsCycle s.roster s.trades s.cycle →
    IsCycle s.roster (state_by s by what).trades (state_by s by what).cycle
kept_by s by (Hello name key) none unbroken sound kept = kept
kept_by s by (Trade seller buyer product amount day) none unbroken sound kept =
    same_frozen s.roster s.trades _ s.cycle (λ stands. alleged_stays s.trades (member_of s seller) (member_of s buyer) (product_of s product) amount day (side_of (unwrap_or by []) seller)) kept
kept_by s by (Affirm trade) none unbroken sound kept =
    same_frozen s.roster s.trades _ s.cycle (λ stands. affirm_leaves s by trade none unbroken (limits_break s.cycle.phase stands)) kept
kept_by s by (End trade) none unbroken sound kept =
    ended_kept (may_break s.cycle.phase && is_frozen_and_marked (trade_numbered s.trades trade)) s.roster s.cycle s.trades trade (side_at s (unwrap_or by []) (trade_numbered s.trades trade)) refl unbroken kept
kept_by s by (Hold trade) none unbroken sound kept =
    same_frozen s.roster s.trades _ s.cycle (λ stands. hold_leaves s by trade (side_at s (unwrap_or by []) (trade_numbered s.trades trade)) none (limits_break s.cycle.phase stands)) kept
kept_by s by (Free trade) none unbroken sound kept =
    same_frozen s.roster s.trades _ s.cycle (λ stands. free_leaves s by trade (side_at s (unwrap_or by []) (trade_numbered s.trades trade)) none (limits_break s.cycle.phase stands)) kept
kept_by s by (Tol other product side floor ceiling) none unbroken sound kept = kept
kept_by s by (Nets product) none unbroken sound kept = kept
kept_by s by Statement none unbroken sound kept = kept
kept_by s by (Freeze day) none unbroken sound kept = record {
  day = λ may. refl;
  begun = λ stands. absurd (false≢true stands);
  proposed = λ on. absurd (false≢true on);
}
kept_by s by (Begin cycle mode) none unbroken sound kept = record {
  day = λ may. kept.day (begin_may s by cycle none);
  begun = λ stands. record { in_which = mode; in_mode = refl; same = refl };
  proposed = λ on. absurd (false≢true on);
}
kept_by s by (Limits product) none unbroken sound kept = kept
kept_by s by (Row product seller buyer amount size sum) none unbroken sound kept = kept
kept_by s by (Pot product member value size) none unbroken sound kept = kept
kept_by s by (Post cycle version solutions) none unbroken sound kept =
    posted_kept s solutions (touched_in s (posted_plan s.cycle s.trades solutions)) (post_solves s by cycle version solutions none) (post_certified s by cycle version solutions none) sound kept
kept_by s by (Fetch cycle version) none unbroken sound kept = kept
kept_by s by (Next position) none unbroken sound kept = kept
kept_by s by (Plan cycle) none unbroken sound kept = kept
kept_by s by (Proof cycle) none unbroken sound kept = kept
kept_by s by (Accept cycle version) none unbroken sound kept = voted_kept s (member_of s (unwrap_or by [])) (left_after s (member_of s (unwrap_or by []))) kept
kept_by s by (Decline cycle version) none unbroken sound kept = record {
  day = λ may. kept.day (limits_break s.cycle.phase (proposed_limits s.cycle.phase (decline_proposed s by cycle version none)));
  begun = λ stands. absurd (false≢true stands);
  proposed = λ on. absurd (false≢true on);
}
kept_by s by (Cancel cycle) none unbroken sound kept = closed_kept s.roster _ s.cycle.number s.cycle.version
kept_by s by Bye none unbroken sound kept = kept
kept_by s by (Unreadable at) none unbroken sound kept = kept

-- after an accepted change the cycle keeps what it should
pub stays_kept : (s : State) (n : State) (by : Option (List ℕ)) (what : What) → n ≡ state_by s by what → first_of (refusals s by what) ≡ None → IsUnbroken s.cycle.phase s.trades → All IsSolution (solutions_posted what) → IsCycle s.roster s.trades s.cycle →
    IsCycle s.roster n.trades n.cycle
stays_kept s n by what on none unbroken sound kept = subst (λ m. IsCycle s.roster m.trades m.cycle) (sym on) (kept_by s by what none unbroken sound kept)
