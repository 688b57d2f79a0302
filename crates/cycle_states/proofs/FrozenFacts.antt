-- What every change keeps of a freeze: while the cycle may break, the networks and free trades that are kept are of the trades that are frozen.
use Rattle.std.proofs.Common.{◌≡◌, ℕ, ◌+◌, ◌<◌, ◌&&◌, Bool, true, false, List, [], ◌∷◌, ◌++◌, length, get_or, Option, Some, None, IsTrue, unwrap_or, if◌then◌else◌, arith, refl, ap, sym, subst, ◌∙◌, below_more, length-append}
use Rattle.std.proofs.lemmas.Bool.{false≢true}
use Rattle.std.proofs.lemmas.List.{get_or_append_left}
use Rattle.std.proofs.Math.Seq.{get_or-append_seam}
use Rattle.units_core.specs.Day.{DayParts}
use Rattle.network_laws.specs.Limits.{LimitsData}
use Rattle.network_laws.specs.Networks.{NetworkData}
use Rattle.network_laws.specs.Solutions.{ProblemData, SolutionData}
use Rattle.command_types.specs.declared.ask.Ask.{Ask}
use Rattle.command_types.specs.declared.ask.What.{What}
use Rattle.command_types.specs.declared.ask.What.TheVariants.{Hello, Trade, Affirm, End, Hold, Free, Tol, Nets, Statement, Freeze, Begin, Limits, Row, Pot, Post, Fetch, Next, Plan, Proof, Accept, Decline, Cancel, Bye, Unreadable}
use Rattle.command_types.specs.declared.cycle.Mode.{Mode}
use Rattle.command_types.specs.declared.figures.Cycle.{Cycle}
use Rattle.command_types.specs.declared.figures.State.{State}
use Rattle.command_types.specs.declared.plan.PlanRow.{PlanRow}
use Rattle.command_types.specs.declared.tolerance.ToleranceRow.{ToleranceRow}
use Rattle.command_types.specs.declared.trade.Side.{Side}
use Rattle.command_types.specs.declared.trade.TradeRow.{TradeRow}
use Rattle.command_types.specs.Books.{frozen_network, held_network}
use Rattle.command_types.specs.Cycles.{may_break, posted_plan, broken_at, problem_of}
use Rattle.command_types.specs.CycleSteps.{is_frozen_and_marked, proposed_or_done, touched_in, after_vote, left_after}
use Rattle.command_types.specs.Machine.{first_of, refusals, member_of, product_of, side_at, side_of, state_by, state_after}
use Rattle.command_types.specs.Plans.{plan_of}
use Rattle.command_types.specs.Roster.{Rows}
use Rattle.command_types.specs.Tolerances.{limits_of}
use Rattle.command_types.specs.Trades.{ended_by, trade_numbered}
use Rattle.acceptance.specs.Laws.{frozen_of}
use Rattle.acceptance.proofs.FrozenRows.{plan_is_of_the_frozen}
use Rattle.posting.proofs.FrozenStays.{alleged_stays}
use Rattle.cycle_states.specs.declared.machine.frozen.FrozenProduct.{FrozenProduct}
use Rattle.cycle_states.specs.Effects.{effect_by, effect_of, posting_effect, vote_effect}
use Rattle.cycle_states.specs.Frozen.{frozen_product, kept_with, AreFrozenOf, AreOfFreeze, FrozenView, HaveTheirPlans, IsFrozenOf}
use Rattle.cycle_states.specs.Machine.{IsUnbroken}
use Rattle.cycle_states.proofs.CycleFacts.{decline_proposed, limits_break, proposed_limits, solving_limits}
use Rattle.cycle_states.proofs.KeptFacts.{affirm_leaves, begin_may, end_leaves, free_leaves, hold_leaves, post_solves}

-- those of one more product
pub one_more : (members : ℕ) (rows : List TradeRow) (before after : List FrozenProduct) (made : FrozenProduct) (product : ℕ) → length before ≡ product → AreFrozenOf members rows before → made ≡ frozen_product members product rows → after ≡ before ++ made ∷ [] →
    (length after ≡ product + 1) × AreFrozenOf members rows after
one_more members rows before after made product long are is added = (all, λ k d l. each d k (let below : k < product + 1 = omega (arith, all, l) in below))
  where
    all : length after ≡ product + 1
    all = ap length added ∙ length-append before (made ∷ []) ∙ ap (λ n. n + 1) long

    each : (d : FrozenProduct) (k : ℕ) → k < product + 1 → get_or after k d ≡ frozen_product members k rows
    each d = below_more (λ k. get_or after k d ≡ frozen_product members k rows) product
        (λ k l. let old : k < length before = omega (arith, long, l) in ap (λ xs. get_or xs k d) added ∙ get_or_append_left before (made ∷ []) d k old ∙ are k d old)
        (ap (λ n. get_or after n d) (sym long) ∙ ap (λ xs. get_or xs (length before) d) added ∙ get_or-append_seam before made [] d ∙ is)

-- a product's limits, and its frozen network again, are its problem
pub problem_made : (roster : Rows) (rows : List TradeRow) (settings : List ToleranceRow) (mode : Mode) (members product : ℕ) (frozen : FrozenProduct) (problem : ProblemData) (limits : LimitsData) (network : NetworkData) → members ≡ length roster.members → frozen ≡ frozen_product members product rows →
    limits ≡ limits_of mode roster.members settings product frozen.network frozen.held → network ≡ frozen.network → problem ≡ record { limits = limits; network = network } → problem ≡ problem_of roster rows settings mode product
problem_made roster rows settings mode members product frozen problem limits network all is bound same made =
    let here : frozen ≡ frozen_product (length roster.members) product rows = is ∙ ap (λ (n : ℕ). frozen_product n product rows) all in
    let make : LimitsData → NetworkData → ProblemData = λ l n. record { limits = l; network = n } in
    let of : FrozenProduct → ProblemData = λ f. record { limits = limits_of mode roster.members settings product f.network f.held; network = f.network } in
    made ∙ ap (λ (l : LimitsData). make l network) bound ∙ ap (make (of frozen).limits) same ∙ ap of here

same_free : (rows other : List TradeRow) (free : Option (List TradeRow)) → ((old new : List NetworkData) (day : DayParts) → plan_of rows old new day ≡ plan_of other old new day) → HaveTheirPlans rows free → HaveTheirPlans other free
same_free rows other None plan have = have
same_free rows other (Some free) plan have = λ old new day. have old new day ∙ plan old new day

-- where no frozen trade changes but by a mark, what is kept stays
pub same_frozen_of : (members : ℕ) (rows other : List TradeRow) (kept : FrozenView) → frozen_of other ≡ frozen_of rows → IsFrozenOf members rows kept → IsFrozenOf members other kept
same_frozen_of members rows other kept same are =
    let plans = plan_is_of_the_frozen rows other (sym same) in
    let make : NetworkData → NetworkData → FrozenProduct = λ network held. record { network = network; held = held } in
    record {
      networks = λ product d l.
          are.networks product d l ∙ ap (λ (y : NetworkData). make y (held_network members product rows)) (plans.frozen members product) ∙ ap (make (frozen_network members product other)) (plans.held members product);
      free = same_free rows other kept.free plans.plan are.free;
    }

-- a broken cycle needs none
frozen_ended : (t : Bool) (members : ℕ) (cycle : Cycle) (rows : List TradeRow) (trade : ℕ) (side : Side) (kept : FrozenView) → (may_break cycle.phase && is_frozen_and_marked (trade_numbered rows trade)) ≡ t → IsUnbroken cycle.phase rows → AreOfFreeze members rows cycle.phase kept →
    AreOfFreeze members (ended_by side rows trade) (if t then broken_at cycle trade else cycle).phase kept
frozen_ended true members cycle rows trade side kept is unbroken are = λ may. absurd (false≢true may)
frozen_ended false members cycle rows trade side kept is unbroken are = λ may. same_frozen_of members rows (ended_by side rows trade) kept (end_leaves cycle rows trade side is unbroken may) (are may)

frozen_posted : (members : ℕ) (s : State) (solutions : List SolutionData) (plan : List PlanRow) (touched : List ℕ) (kept : FrozenView) → IsTrue (may_break s.cycle.phase) → AreOfFreeze members s.trades s.cycle.phase kept →
    AreOfFreeze members (proposed_or_done s solutions plan touched).trades (proposed_or_done s solutions plan touched).cycle.phase (kept_with (posting_effect solutions plan touched) kept)
frozen_posted members s solutions plan [] kept breaks are = λ may. absurd (false≢true may)
frozen_posted members s solutions plan (member ∷ touched) kept breaks are = λ may. are breaks

frozen_voted : (members : ℕ) (s : State) (member : ℕ) (left : List ℕ) (kept : FrozenView) → AreOfFreeze members s.trades s.cycle.phase kept →
    AreOfFreeze members (after_vote s member left).trades (after_vote s member left).cycle.phase (kept_with (vote_effect member left) kept)
frozen_voted members s member [] kept are = λ may. absurd (false≢true may)
frozen_voted members s member (voter ∷ voters) kept are = are

frozen_by : (members : ℕ) (s : State) (by : Option (List ℕ)) (what : What) (kept : FrozenView) → first_of (refusals s by what) ≡ None → IsUnbroken s.cycle.phase s.trades → AreOfFreeze members s.trades s.cycle.phase kept →
    AreOfFreeze members (state_by s by what).trades (state_by s by what).cycle.phase (kept_with (effect_by s (unwrap_or by []) what) kept)
frozen_by members s by (Hello name key) kept none unbroken are = are
frozen_by members s by (Trade seller buyer product amount day) kept none unbroken are = λ may.
    same_frozen_of members s.trades (state_by s by (Trade seller buyer product amount day)).trades kept (alleged_stays s.trades (member_of s seller) (member_of s buyer) (product_of s product) amount day (side_of (unwrap_or by []) seller)) (are may)
frozen_by members s by (Affirm trade) kept none unbroken are = λ may. same_frozen_of members s.trades (state_by s by (Affirm trade)).trades kept (affirm_leaves s by trade none unbroken may) (are may)
frozen_by members s by (End trade) kept none unbroken are =
    frozen_ended (may_break s.cycle.phase && is_frozen_and_marked (trade_numbered s.trades trade)) members s.cycle s.trades trade (side_at s (unwrap_or by []) (trade_numbered s.trades trade)) kept refl unbroken are
frozen_by members s by (Hold trade) kept none unbroken are = λ may.
    same_frozen_of members s.trades (state_by s by (Hold trade)).trades kept (hold_leaves s by trade (side_at s (unwrap_or by []) (trade_numbered s.trades trade)) none may) (are may)
frozen_by members s by (Free trade) kept none unbroken are = λ may.
    same_frozen_of members s.trades (state_by s by (Free trade)).trades kept (free_leaves s by trade (side_at s (unwrap_or by []) (trade_numbered s.trades trade)) none may) (are may)
frozen_by members s by (Tol other product side floor ceiling) kept none unbroken are = are
frozen_by members s by (Nets product) kept none unbroken are = are
frozen_by members s by Statement kept none unbroken are = are
frozen_by members s by (Freeze day) kept none unbroken are = λ may. record {
  networks = λ product d l. let past : product < 0 = l in absurd (omega (arith, past));
  free = tt;
}
frozen_by members s by (Begin cycle mode) kept none unbroken are = λ may. are (begin_may s by cycle none)
frozen_by members s by (Limits product) kept none unbroken are = are
frozen_by members s by (Row product seller buyer amount size sum) kept none unbroken are = are
frozen_by members s by (Pot product member value size) kept none unbroken are = are
frozen_by members s by (Post cycle version solutions) kept none unbroken are =
    frozen_posted members s solutions (posted_plan s.cycle s.trades solutions) (touched_in s (posted_plan s.cycle s.trades solutions)) kept
    (limits_break s.cycle.phase (solving_limits s.cycle.phase (post_solves s by cycle version solutions none))) are
frozen_by members s by (Fetch cycle version) kept none unbroken are = are
frozen_by members s by (Next position) kept none unbroken are = are
frozen_by members s by (Plan cycle) kept none unbroken are = are
frozen_by members s by (Proof cycle) kept none unbroken are = are
frozen_by members s by (Accept cycle version) kept none unbroken are =
    frozen_voted members s (member_of s (unwrap_or by [])) (left_after s (member_of s (unwrap_or by []))) kept are
frozen_by members s by (Decline cycle version) kept none unbroken are = λ may. are (limits_break s.cycle.phase (proposed_limits s.cycle.phase (decline_proposed s by cycle version none)))
frozen_by members s by (Cancel cycle) kept none unbroken are = λ may. absurd (false≢true may)
frozen_by members s by Bye kept none unbroken are = are
frozen_by members s by (Unreadable at) kept none unbroken are = are

-- after an accepted change, what is kept is still of the freeze
pub stays_frozen : (members : ℕ) (s n : State) (ask : Ask) (kept after : FrozenView) → n ≡ state_after s ask → after ≡ kept_with (effect_of s ask) kept → first_of (refusals s ask.by ask.what) ≡ None → IsUnbroken s.cycle.phase s.trades →
    AreOfFreeze members s.trades s.cycle.phase kept → AreOfFreeze members n.trades n.cycle.phase after
stays_frozen members s n ask kept after on is none unbroken are =
    subst (λ (m : State). AreOfFreeze members m.trades m.cycle.phase after) (sym on)
    (subst (λ (frozen : FrozenView). AreOfFreeze members (state_after s ask).trades (state_after s ask).cycle.phase frozen) (sym is) (frozen_by members s ask.by ask.what kept none unbroken are))
