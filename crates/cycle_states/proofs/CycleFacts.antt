-- What every change of the machine keeps: no frozen trade ends in a cycle that may break, and its numbers rise by at most one.
use Rattle.std.proofs.Common.{◌≡◌, ℕ, ◌+◌, ◌-◌, ◌≤◌, ◌<◌, ◌^◌, ◌&&◌, not, nat_lt, Bool, true, false, List, [], ◌∷◌, length, get_or, Option, Some, None, is_some, slice_get, IsTrue, unwrap_or, if◌then◌else◌, arith, refl, ap, sym, subst, ◌∙◌}
use Rattle.std.proofs.lemmas.Bool.{false≢true}
use Rattle.std.proofs.lemmas.List.Elements.{All-nil, All-cons, All-append, All-map, All-set}
use Rattle.std.proofs.lemmas.Option.{slice_get_within, get_or_from_slice_get}
use Rattle.network_laws.specs.Solutions.{SolutionData}
use Rattle.units_core.specs.Day.{DayParts}
use Rattle.command_types.specs.declared.ask.Ask.{Ask}
use Rattle.command_types.specs.declared.ask.Entry.{Entry}
use Rattle.command_types.specs.declared.ask.What.{What}
use Rattle.command_types.specs.declared.ask.What.TheVariants.{Hello, Trade, Affirm, End, Hold, Free, Tol, Nets, Statement, Freeze, Begin, Limits, Row, Pot, Post, Fetch, Next, Plan, Proof, Accept, Decline, Cancel, Bye, Unreadable}
use Rattle.command_types.specs.declared.cycle.Phase.{Phase}
use Rattle.command_types.specs.declared.cycle.Phase.TheVariants as phase
use Rattle.command_types.specs.declared.figures.Cycle.{Cycle}
use Rattle.command_types.specs.declared.figures.State.{State}
use Rattle.command_types.specs.declared.plan.PlanRow.{PlanRow}
use Rattle.command_types.specs.declared.refusal.Refusal.TheVariants.{NotGreeted}
use Rattle.command_types.specs.declared.roster.ProductRow.{ProductRow}
use Rattle.command_types.specs.declared.trade.Side.{Side}
use Rattle.command_types.specs.declared.trade.Side.TheVariants.{Out, In}
use Rattle.command_types.specs.declared.trade.TradeRow.{TradeRow}
use Rattle.command_types.specs.declared.trade.TradeState.{TradeState}
use Rattle.command_types.specs.declared.trade.TradeState.TheVariants.{Alleged, Live, Ended}
use Rattle.command_types.specs.Trades.{is_live, trade_numbered, with_row, with_changed, changed_row, live_row, row_ended_by, row_with_hold, ended_by, alleged_row}
use Rattle.command_types.specs.CycleRefusals.{post_refusals, decline_refusals}
use Rattle.command_types.specs.Roster.{is_party}
use Rattle.command_types.specs.Cycles.{is_solving, is_proposed, has_limits, may_begin, may_break, product_matures_after, row_at_freeze, posted_plan, broken_at}
use Rattle.command_types.specs.CycleSteps.{is_frozen_and_marked, proposed_or_done, touched_in, after_vote, left_after}
use Rattle.command_types.specs.History.{History, replayed_from}
use Rattle.command_types.specs.Machine.{first_of, refusals, member_of, product_of, side_at, side_of, state_by, state_after}
use Rattle.cycle_states.specs.Machine.{FrozenAreLive, IsUnbroken, IsYoung}
use Rattle.cycle_states.specs.PlainDesk.{IsPlain}
use Rattle.cycle_states.specs.Replayed.{IsReplayed, IsSmall}
use Rattle.cycle_states.proofs.MachineFacts.{none_holds, not_false}

-- a frozen trade is live
abbrev pub IsSound : TradeRow → Type 0
IsSound row = IsTrue row.frozen → IsTrue (is_live row.state)

unfrozen : (row : TradeRow) → row.frozen ≡ false → IsSound row
unfrozen row off on = absurd (false≢true (sym off ∙ on))

-- so is one that was looked up
pub found : (rows : List TradeRow) (number : ℕ) (t : Bool) (row : TradeRow) → (if t then slice_get rows (number - 1) else None) ≡ Some row → FrozenAreLive rows → IsSound row
found rows number true row is all =
    subst IsSound (get_or_from_slice_get rows (number - 1) row row is) (all (number - 1) row (slice_get_within rows (number - 1) row is))
found rows number false row is all = cc

changed_at : (change : TradeRow → TradeRow) (rows : List TradeRow) (number : ℕ) (o : Option TradeRow) → trade_numbered rows number ≡ o → ((row : TradeRow) → o ≡ Some row → IsSound row → IsSound (change row)) → FrozenAreLive rows →
    FrozenAreLive (with_row rows number (changed_row change o))
changed_at change rows number None is sound all = all
changed_at change rows number (Some row) is sound all =
    All-set IsSound rows (number - 1) (change row) (sound row refl (found rows number (nat_lt 0 number) row is all)) all

-- a change that keeps one trade sound keeps all
changed_sound : (change : TradeRow → TradeRow) (rows : List TradeRow) (number : ℕ) → ((row : TradeRow) → trade_numbered rows number ≡ Some row → IsSound row → IsSound (change row)) → FrozenAreLive rows → FrozenAreLive (with_changed change rows number)
changed_sound change rows number sound all = changed_at change rows number (trade_numbered rows number) refl sound all

held_sound : (held : Bool) (side : Side) (row : TradeRow) → IsSound row → IsSound (row_with_hold held side row)
held_sound held Out row sound = sound
held_sound held In row sound = sound

ends_sound : (side : Side) (row : TradeRow) (state : TradeState) (mark : Option Side) (frozen : Bool) → (frozen && is_some mark) ≡ false → (IsTrue frozen → IsTrue (is_live state)) →
    IsSound (row_ended_by side (record row { state = state; mark = mark; frozen = frozen }))
ends_sound side row Alleged mark true off sound = absurd (false≢true (sound refl))
ends_sound side row Alleged mark false off sound = λ on. absurd (false≢true on)
ends_sound side row Live None frozen off sound = λ on. refl
ends_sound side row Live (Some m) true off sound = absurd (false≢true (sym off))
ends_sound side row Live (Some m) false off sound = λ on. absurd (false≢true on)
ends_sound side row Ended mark true off sound = absurd (false≢true (sound refl))
ends_sound side row Ended None false off sound = λ on. absurd (false≢true on)
ends_sound side row Ended (Some m) false off sound = λ on. absurd (false≢true on)

pub second_fails : (a b : Bool) → (a && b) ≡ false → IsTrue a → b ≡ false
second_fails true b h is = h
second_fails false b h is = absurd (false≢true is)

first_of_both : (a b : Bool) → IsTrue (a && b) → IsTrue a
first_of_both true b h = refl
first_of_both false b h = absurd (false≢true h)

-- an END breaks the cycle, or ends no frozen trade
end_unbroken : (t : Bool) (cycle : Cycle) (rows : List TradeRow) (trade : ℕ) (side : Side) → (may_break cycle.phase && is_frozen_and_marked (trade_numbered rows trade)) ≡ t → IsUnbroken cycle.phase rows →
    IsUnbroken (if t then broken_at cycle trade else cycle).phase (ended_by side rows trade)
end_unbroken true cycle rows trade side is before = λ may. absurd (false≢true may)
end_unbroken false cycle rows trade side is before = λ may.
    let off : is_frozen_and_marked (trade_numbered rows trade) ≡ false = second_fails (may_break cycle.phase) (is_frozen_and_marked (trade_numbered rows trade)) is may in
    changed_sound (row_ended_by side) rows trade (λ row at_place sound. ends_sound side row row.state row.mark row.frozen (sym (ap is_frozen_and_marked at_place) ∙ off) sound) (before may)

freeze_sound : (products : List ProductRow) (day : DayParts) (row : TradeRow) → IsSound (row_at_freeze products day row)
freeze_sound products day row = first_of_both (is_live row.state) (product_matures_after (slice_get products row.product) day)

-- where a version may begin, the cycle may break
pub begin_breaks : (p : Phase) → may_begin p ≡ true → IsTrue (may_break p)
begin_breaks phase.None h = absurd (false≢true h)
begin_breaks phase.Frozen h = refl
begin_breaks phase.Solving h = refl
begin_breaks phase.Proposed h = refl
begin_breaks phase.Broken h = absurd (false≢true h)

-- limits stand in a cycle that may break
pub limits_break : (p : Phase) → IsTrue (has_limits p) → IsTrue (may_break p)
limits_break phase.None h = absurd (false≢true h)
limits_break phase.Frozen h = refl
limits_break phase.Solving h = refl
limits_break phase.Proposed h = refl
limits_break phase.Broken h = absurd (false≢true h)

pub proposed_limits : (p : Phase) → IsTrue (is_proposed p) → IsTrue (has_limits p)
proposed_limits phase.None h = absurd (false≢true h)
proposed_limits phase.Frozen h = absurd (false≢true h)
proposed_limits phase.Solving h = absurd (false≢true h)
proposed_limits phase.Proposed h = refl
proposed_limits phase.Broken h = absurd (false≢true h)

pub solving_limits : (p : Phase) → IsTrue (is_solving p) → IsTrue (has_limits p)
solving_limits phase.None h = absurd (false≢true h)
solving_limits phase.Frozen h = absurd (false≢true h)
solving_limits phase.Solving h = refl
solving_limits phase.Proposed h = refl
solving_limits phase.Broken h = absurd (false≢true h)

post_breaks : (s : State) (by : Option (List ℕ)) (cycle version : ℕ) (solutions : List SolutionData) → first_of (refusals s by (Post cycle version solutions)) ≡ None → IsTrue (may_break s.cycle.phase)
post_breaks s by cycle version solutions none =
    limits_break s.cycle.phase (solving_limits s.cycle.phase
    (not_false (is_solving s.cycle.phase) (none_holds ((not (is_party s.roster by), NotGreeted) ∷ post_refusals s (unwrap_or by []) cycle version solutions) none).1.1.1.1.0))

-- an accepted DECLINE comes in phase proposed
pub decline_proposed : (s : State) (by : Option (List ℕ)) (cycle version : ℕ) → first_of (refusals s by (Decline cycle version)) ≡ None → is_proposed s.cycle.phase ≡ true
decline_proposed s by cycle version none =
    not_false (is_proposed s.cycle.phase) (none_holds ((not (is_party s.roster by), NotGreeted) ∷ decline_refusals s (unwrap_or by []) cycle version) none).1.1.1.0

posted_unbroken : (s : State) (solutions : List SolutionData) (plan : List PlanRow) (touched : List ℕ) → IsTrue (may_break s.cycle.phase) → IsUnbroken s.cycle.phase s.trades → IsUnbroken (proposed_or_done s solutions plan touched).cycle.phase (proposed_or_done s solutions plan touched).trades
posted_unbroken s solutions plan [] breaks before = λ may. absurd (false≢true may)
posted_unbroken s solutions plan (member ∷ members) breaks before = λ may. before breaks

voted_unbroken : (s : State) (member : ℕ) (left : List ℕ) → IsUnbroken s.cycle.phase s.trades → IsUnbroken (after_vote s member left).cycle.phase (after_vote s member left).trades
voted_unbroken s member [] before = λ may. absurd (false≢true may)
voted_unbroken s member (voter ∷ voters) before = before

unbroken_by : (s : State) (by : Option (List ℕ)) (what : What) → first_of (refusals s by what) ≡ None → IsUnbroken s.cycle.phase s.trades → IsUnbroken (state_by s by what).cycle.phase (state_by s by what).trades
unbroken_by s by (Hello name key) none before = before
unbroken_by s by (Trade seller buyer product amount day) none before = λ may.
    let name = unwrap_or by [] in
    let row = alleged_row (length s.trades + 1) (member_of s seller) (member_of s buyer) (product_of s product) amount day (side_of name seller) in
    All-append IsSound s.trades (row ∷ []) (before may) (All-cons IsSound row [] (unfrozen row refl) (All-nil IsSound))
unbroken_by s by (Affirm trade) none before = λ may. changed_sound live_row s.trades trade (λ row is sound on. refl) (before may)
unbroken_by s by (End trade) none before =
    end_unbroken (may_break s.cycle.phase && is_frozen_and_marked (trade_numbered s.trades trade)) s.cycle s.trades trade (side_at s (unwrap_or by []) (trade_numbered s.trades trade)) refl before
unbroken_by s by (Hold trade) none before = λ may.
    let side = side_at s (unwrap_or by []) (trade_numbered s.trades trade) in
    changed_sound (row_with_hold true side) s.trades trade (λ row is sound. held_sound true side row sound) (before may)
unbroken_by s by (Free trade) none before = λ may.
    let side = side_at s (unwrap_or by []) (trade_numbered s.trades trade) in
    changed_sound (row_with_hold false side) s.trades trade (λ row is sound. held_sound false side row sound) (before may)
unbroken_by s by (Tol other product side floor ceiling) none before = before
unbroken_by s by (Nets product) none before = before
unbroken_by s by Statement none before = before
unbroken_by s by (Freeze day) none before = λ may.
    All-map IsSound (row_at_freeze s.roster.products day) s.trades (λ k d l. freeze_sound s.roster.products day (get_or s.trades k d))
unbroken_by s by (Begin cycle mode) none before = λ may.
    let tests = none_holds (refusals s by (Begin cycle mode)) none in
    before (begin_breaks s.cycle.phase (not_false (may_begin s.cycle.phase) tests.1.1.1.1.0))
unbroken_by s by (Limits product) none before = before
unbroken_by s by (Row product seller buyer amount size sum) none before = before
unbroken_by s by (Pot product member value size) none before = before
unbroken_by s by (Post cycle version solutions) none before =
    posted_unbroken s solutions (posted_plan s.cycle s.trades solutions) (touched_in s (posted_plan s.cycle s.trades solutions)) (post_breaks s by cycle version solutions none) before
unbroken_by s by (Fetch cycle version) none before = before
unbroken_by s by (Next position) none before = before
unbroken_by s by (Plan cycle) none before = before
unbroken_by s by (Proof cycle) none before = before
unbroken_by s by (Accept cycle version) none before = voted_unbroken s (member_of s (unwrap_or by [])) (left_after s (member_of s (unwrap_or by []))) before
unbroken_by s by (Decline cycle version) none before = λ may. before (limits_break s.cycle.phase (proposed_limits s.cycle.phase (decline_proposed s by cycle version none)))
unbroken_by s by (Cancel cycle) none before = λ may. absurd (false≢true may)
unbroken_by s by Bye none before = before
unbroken_by s by (Unreadable at) none before = before

-- after an accepted change, each frozen trade of a cycle that may break is live
pub stays_unbroken : (s n : State) (ask : Ask) → n ≡ state_after s ask → first_of (refusals s ask.by ask.what) ≡ None → IsUnbroken s.cycle.phase s.trades → IsUnbroken n.cycle.phase n.trades
stays_unbroken s n ask on none before = subst (λ m. IsUnbroken m.cycle.phase m.trades) (sym on) (unbroken_by s ask.by ask.what none before)

-- neither number rises by more than one
abbrev Rises : Cycle → Cycle → Type 0
Rises old new = (new.number ≤ old.number + 1) × (new.version ≤ old.version + 1)

stay : (cycle : Cycle) → Rises cycle cycle
stay cycle = (omega arith, omega arith)

rises_posted : (s : State) (solutions : List SolutionData) (plan : List PlanRow) (touched : List ℕ) → Rises s.cycle (proposed_or_done s solutions plan touched).cycle
rises_posted s solutions plan [] = (omega arith, omega arith)
rises_posted s solutions plan (member ∷ members) = (omega arith, omega arith)

rises_voted : (s : State) (member : ℕ) (left : List ℕ) → Rises s.cycle (after_vote s member left).cycle
rises_voted s member [] = (omega arith, omega arith)
rises_voted s member (voter ∷ voters) = (omega arith, omega arith)

rises_ended : (t : Bool) (cycle : Cycle) (trade : ℕ) → Rises cycle (if t then broken_at cycle trade else cycle)
rises_ended true cycle trade = (omega arith, omega arith)
rises_ended false cycle trade = (omega arith, omega arith)

rises_by : (s : State) (by : Option (List ℕ)) (what : What) → Rises s.cycle (state_by s by what).cycle
rises_by s by (Hello name key) = stay s.cycle
rises_by s by (Trade seller buyer product amount day) = stay s.cycle
rises_by s by (Affirm trade) = stay s.cycle
rises_by s by (End trade) = rises_ended (may_break s.cycle.phase && is_frozen_and_marked (trade_numbered s.trades trade)) s.cycle trade
rises_by s by (Hold trade) = stay s.cycle
rises_by s by (Free trade) = stay s.cycle
rises_by s by (Tol other product side floor ceiling) = stay s.cycle
rises_by s by (Nets product) = stay s.cycle
rises_by s by Statement = stay s.cycle
rises_by s by (Freeze day) = (omega arith, omega arith)
rises_by s by (Begin cycle mode) = (omega arith, omega arith)
rises_by s by (Limits product) = stay s.cycle
rises_by s by (Row product seller buyer amount size sum) = stay s.cycle
rises_by s by (Pot product member value size) = stay s.cycle
rises_by s by (Post cycle version solutions) =
    rises_posted s solutions (posted_plan s.cycle s.trades solutions) (touched_in s (posted_plan s.cycle s.trades solutions))
rises_by s by (Fetch cycle version) = stay s.cycle
rises_by s by (Next position) = stay s.cycle
rises_by s by (Plan cycle) = stay s.cycle
rises_by s by (Proof cycle) = stay s.cycle
rises_by s by (Accept cycle version) = rises_voted s (member_of s (unwrap_or by [])) (left_after s (member_of s (unwrap_or by [])))
rises_by s by (Decline cycle version) = (omega arith, omega arith)
rises_by s by (Cancel cycle) = (omega arith, omega arith)
rises_by s by Bye = stay s.cycle
rises_by s by (Unreadable at) = stay s.cycle

risen : (s : State) (entries : List Entry) → ((replayed_from s entries).cycle.number ≤ s.cycle.number + length entries) × ((replayed_from s entries).cycle.version ≤ s.cycle.version + length entries)
risen s [] = (omega arith, omega arith)
risen s (entry ∷ entries) =
    let first = rises_by s entry.ask.by entry.ask.what in
    let rest = risen (state_after s entry.ask) entries in
    (omega (arith, first.0, rest.0), omega (arith, first.1, rest.1))

-- a machine that made few changes behind a base with small numbers is young
pub young_of : (state : State) (h : History) → IsReplayed state h → h.base.state.cycle.number + length h.entries < 2 ^ 63 → h.base.state.cycle.version + length h.entries < 2 ^ 63 → IsYoung state.cycle
young_of state h is numbers versions =
    let all = risen h.base.state h.entries in
    let number = ap (λ s. s.cycle.number) is.same in
    let version = ap (λ s. s.cycle.version) is.same in
    record { number = omega (arith, all.0, number, numbers); version = omega (arith, all.1, version, versions) }

pub young_small : (state : State) (h : History) → IsReplayed state h → IsSmall h.base → length h.entries < 2 ^ 62 → IsYoung state.cycle
young_small state h is small few = young_of state h is (omega (arith, small.cycle, few)) (omega (arith, small.version, few))

-- as one is before whose history no cycle was opened
pub young_plain : (state : State) (begun : ℕ) (h : History) → IsPlain state begun h → length h.entries < 2 ^ 63 → IsYoung state.cycle
young_plain state begun h is few =
    young_of state h is.replayed
    (let number = ap (λ c. c.number) is.first in omega (arith, number, few))
    (let version = ap (λ c. c.version) is.first in omega (arith, version, few))
