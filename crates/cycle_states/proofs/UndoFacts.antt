-- Changes of one trade lead back.
use Rattle.std.proofs.Common.{◌≡◌, ℕ, zero, suc, ◌+◌, ◌-◌, ◌&&◌, not, Bool, true, false, cond, All, List, [], ◌∷◌, ◌++◌, length, map, take, set, slice_get, is_some, unwrap_or, IsTrue, IfSome, Option, Some, None, if◌then◌else◌, ◌<◌, ◌==◌, ◌||◌, arith, refl, ap, sym, subst, ◌∙◌}
use Rattle.std.specs.Prelude.{filter}
use Rattle.std.proofs.lemmas.Bool.{lt-ltb, false≢true}
use Rattle.std.proofs.lemmas.List.{take_at, length_push}
use Rattle.std.proofs.lemmas.List.Elements.{All-nil, All-cons, All-head, All-tail}
use Rattle.network_laws.specs.Solutions.{SolutionData}
use Rattle.command_types.specs.declared.trade.TradeRow.{TradeRow}
use Rattle.command_types.specs.declared.trade.TradeState.TheVariants.{Ended}
use Rattle.command_types.specs.declared.trade.Side.{Side}
use Rattle.command_types.specs.declared.ask.What.{What}
use Rattle.command_types.specs.declared.ask.What.TheVariants.{Hello, Trade, Affirm, End, Hold, Free, Tol, Nets, Statement, Freeze, Begin, Limits, Row, Pot, Post, Fetch, Next, Plan, Proof, Accept, Decline, Cancel, Bye, Unreadable}
use Rattle.command_types.specs.declared.figures.Cycle.{Cycle}
use Rattle.command_types.specs.declared.figures.State.{State}
use Rattle.command_types.specs.declared.plan.PlanRow.{PlanRow}
use Rattle.command_types.specs.Cycles.{may_break, broken_at, posted_plan}
use Rattle.command_types.specs.CycleSteps.{cycle_after_end, is_frozen_and_marked, left_after, touched_in}
use Rattle.command_types.specs.Machine.{first_of, refusals, member_of, product_of, side_at, side_of, state_by}
use Rattle.command_types.specs.Plans.{is_party_row}
use Rattle.command_types.specs.Roster.{Rows}
use Rattle.command_types.specs.Trades.{counts, is_alleged, is_live, trade_numbered, with_row, with_changed, changed_row, live_row, row_ended_by, row_with_hold, ended_by}
use Rattle.acceptance.specs.Laws.{unmarked, frozen_of}
use Rattle.posting.proofs.FrozenStays.{alleged_stays}
use Rattle.product_book.specs.Book.{IsEarlier, MayPutBack, may_affirm, may_hold, may_free, may_take_back}
use Rattle.product_book.proofs.BookFacts.{placed, alleged_counts, hold_keeps, hold_state}
use Rattle.cycle_states.specs.declared.machine.effect.Effect.TheVariants as effect
use Rattle.cycle_states.specs.declared.machine.undo.Undo.{Undo}
use Rattle.cycle_states.specs.declared.machine.undo.Undo.TheVariants as undo
use Rattle.cycle_states.specs.Machine.{FrozenAreLive, IsUnbroken, IsMachine}
use Rattle.cycle_states.specs.Effects.{applied, effect_by, posting_effect, vote_effect}
use Rattle.cycle_states.specs.Undo.{goes_back, is_of_one_row, only_marks, rows_undone, LeadsBack, MayTakeBack, PutsBack, Undoes}
use Rattle.cycle_states.proofs.BallotFacts.{KeepParties, front_parties, back_parties}
use Rattle.cycle_states.proofs.CycleFacts.{IsSound, limits_break}
use Rattle.cycle_states.proofs.KeptFacts.{affirm_leaves, end_leaves, free_leaves, hold_leaves, same_frozen}

-- ---- the trades

set_back : (rows : List TradeRow) (i : ℕ) (was now : TradeRow) → slice_get rows i ≡ Some was → set (set rows i now) i was ≡ rows
set_back [] i was now is = refl
set_back (r ∷ rows) zero was now is = let same : was ≡ r = cc in ap (λ (x : TradeRow). x ∷ rows) same
set_back (r ∷ rows) (suc i) was now is = ap (λ (l : List TradeRow). r ∷ l) (set_back rows i was now is)

get_set : (rows : List TradeRow) (i : ℕ) (was now : TradeRow) → slice_get rows i ≡ Some was → slice_get (set rows i now) i ≡ Some now
get_set [] i was now is = absurd cc
get_set (r ∷ rows) zero was now is = refl
get_set (r ∷ rows) (suc i) was now is = get_set rows i was now is

by_place : (rows : List TradeRow) (n : ℕ) → 0 < n → trade_numbered rows n ≡ slice_get rows (n - 1)
by_place rows n some = ap (λ (t : Bool). if t then slice_get rows (n - 1) else None) (lt-ltb 0 n some)

there_after : (rows : List TradeRow) (n : ℕ) (was now : TradeRow) → trade_numbered rows n ≡ Some was → trade_numbered (set rows (n - 1) now) n ≡ Some now
there_after rows n was now is = let at = placed rows n was is in by_place (set rows (n - 1) now) n at.0 ∙ get_set rows (n - 1) was now at.2

get_last : (rows : List TradeRow) (row : TradeRow) (i : ℕ) → i ≡ length rows → slice_get (rows ++ row ∷ []) i ≡ Some row
get_last [] row zero is = refl
get_last [] row (suc i) is = absurd (omega (arith, is))
get_last (r ∷ rows) row zero is = absurd (omega (arith, is))
get_last (r ∷ rows) row (suc i) is = get_last rows row i (omega (arith, is))

there_last : (rows : List TradeRow) (row : TradeRow) → trade_numbered (rows ++ row ∷ []) (length rows + 1) ≡ Some row
there_last rows row = by_place (rows ++ row ∷ []) (length rows + 1) (omega arith) ∙ get_last rows row (length rows + 1 - 1) (omega arith)

module _ (f : TradeRow → TradeRow) (s : State) (trade : ℕ) (was : TradeRow) (is : trade_numbered s.trades trade ≡ Some was) (number : was.number ≡ trade) (earlier : IsEarlier (f was) was) where
  abbrev changed : List TradeRow
  changed = with_changed f s.trades trade

  changed_is : changed ≡ set s.trades (trade - 1) (f was)
  changed_is = ap (λ (o : Option TradeRow). with_row s.trades trade (changed_row f o)) is

  restored : with_row changed trade (Some was) ≡ s.trades
  restored = ap (λ (rows : List TradeRow). set rows (trade - 1) was) changed_is ∙ set_back s.trades (trade - 1) was (f was) (placed s.trades trade was is).2

  found : trade_numbered changed trade ≡ Some (f was)
  found = ap (λ (rows : List TradeRow). trade_numbered rows trade) changed_is ∙ there_after s.trades trade was (f was) is

  row_back : LeadsBack s (record s { trades = changed }) (undo.PutBack was)
  row_back = (
    ap (λ (n : ℕ). record s { trades = with_row changed n (Some was) }) number ∙ ap (λ (rows : List TradeRow). record s { trades = rows }) restored,
    subst (λ (n : ℕ). MayPutBack (trade_numbered changed n) was) (sym number) (subst (λ (o : Option TradeRow). MayPutBack o was) (sym found) earlier),
  )

pub affirm_earlier : (was : TradeRow) → IsTrue (may_affirm (Some was)) → IsEarlier (live_row was) was
affirm_earlier was alleged = record { number = refl; product = refl; seller = refl; buyer = refl; amount = refl; submitter = refl; counts = alleged_counts was.state alleged }

pub hold_earlier : (held : Bool) (side : Side) (was : TradeRow) → IsEarlier (row_with_hold held side was) was
hold_earlier held side was =
    let k = hold_keeps held side was in
    record { number = sym k.number; product = sym k.product; seller = sym k.seller; buyer = sym k.buyer; amount = sym k.amount; submitter = sym k.submitter; counts = ap counts (sym (hold_state held side was)) }

not_true : (b : Bool) → not b ≡ true → b ≡ false
not_true true h = absurd (false≢true h)
not_true false h = refl

mark_earlier : (side : Side) (was : TradeRow) → only_marks (Some was) ≡ true → IsEarlier (row_ended_by side was) was
mark_earlier side was marks =
    subst (λ (t : Bool). IsEarlier (if t then record was { state = Ended } else record was { mark = Some side }) was) (sym (not_true (is_alleged was.state || is_some was.mark) marks))
    (record { number = refl; product = refl; seller = refl; buyer = refl; amount = refl; submitter = refl; counts = refl })

pub alleged_back : (s : State) (row : TradeRow) → IsTrue (is_some row.submitter) → LeadsBack s (record s { trades = s.trades ++ row ∷ [] }) undo.TakeBack
alleged_back s row by_party =
    let size : length (s.trades ++ row ∷ []) ≡ length s.trades + 1 = length_push s.trades row in
    let one : length (s.trades ++ row ∷ []) - 1 ≡ length s.trades = omega (arith, size) in
    let front : take (length (s.trades ++ row ∷ []) - 1) (s.trades ++ row ∷ []) ≡ s.trades = take_at s.trades (row ∷ []) (length (s.trades ++ row ∷ []) - 1) (sym one) in
    let last : trade_numbered (s.trades ++ row ∷ []) (length (s.trades ++ row ∷ [])) ≡ Some row = ap (λ (n : ℕ). trade_numbered (s.trades ++ row ∷ []) n) size ∙ there_last s.trades row in
    (ap (λ (rows : List TradeRow). record s { trades = rows }) front, subst (λ (o : Option TradeRow). IsTrue (may_take_back o)) (sym last) by_party)

-- a mark breaks no cycle

marks_unmarked : (o : Option TradeRow) → only_marks o ≡ true → is_frozen_and_marked o ≡ false
marks_unmarked None marks = refl
marks_unmarked (Some row) marks = by row.frozen (is_alleged row.state) (is_some row.mark) (not_true (is_alleged row.state || is_some row.mark) marks)
  where
    by : (frozen alleged marked : Bool) → (alleged || marked) ≡ false → (frozen && marked) ≡ false
    by true true marked is = absurd (false≢true (sym is))
    by true false marked is = is
    by false alleged marked is = refl

none_breaks : (b t : Bool) → t ≡ false → (b && t) ≡ false
none_breaks true t is = is
none_breaks false t is = refl

cycle_stays : (cycle : Cycle) (trade : ℕ) (o : Option TradeRow) → only_marks o ≡ true → cycle_after_end cycle trade o ≡ cycle
cycle_stays cycle trade o marks =
    ap (λ (t : Bool). if t then broken_at cycle trade else cycle) (none_breaks (may_break cycle.phase) (is_frozen_and_marked o) (marks_unmarked o marks))

-- what is done to a trade as it is, taken back
module _ (rows : List TradeRow) (s : State) (same : s.trades ≡ rows) (trade : ℕ) where
  pub puts_back : (f : TradeRow → TradeRow) (o : Option Undo) → IfSome o (PutsBack rows trade) → ((was : TradeRow) → trade_numbered s.trades trade ≡ Some was → IsEarlier (f was) was) →
      IfSome o (LeadsBack s (record s { trades = with_changed f s.trades trade }))
  puts_back f None is earlier = tt
  puts_back f (Some u) is earlier =
      let there : trade_numbered s.trades trade ≡ Some is.0 = ap (λ (rs : List TradeRow). trade_numbered rs trade) same ∙ is.2 in
      subst (LeadsBack s (record s { trades = with_changed f s.trades trade })) (sym is.1) (row_back f s trade is.0 there is.3 (earlier is.0 there))

  -- an END that only marks
  pub marks_back : (side : Side) (o : Option Undo) → IfSome o (PutsBack rows trade) → is_some o ≡ only_marks (trade_numbered s.trades trade) → IfSome o (LeadsBack s (applied s (effect.End trade side)))
  marks_back side None is some = tt
  marks_back side (Some u) is some =
      let marks : only_marks (trade_numbered s.trades trade) ≡ true = sym some in
      subst (λ (cycle : Cycle). LeadsBack s (record s { trades = ended_by side s.trades trade; cycle = cycle }) u) (sym (cycle_stays s.cycle trade (trade_numbered s.trades trade) marks))
      (puts_back (row_ended_by side) (Some u) is (λ was there. mark_earlier side was (ap only_marks (sym there) ∙ marks)))

-- ---- which changes are taken back

pub affirm_there : (o : Option TradeRow) → IsTrue (may_affirm o) → is_some o ≡ true
affirm_there None may = absurd (false≢true may)
affirm_there (Some row) may = refl

pub hold_there : (side : Side) (o : Option TradeRow) → IsTrue (may_hold side o) → is_some o ≡ true
hold_there side None may = absurd (false≢true may)
hold_there side (Some row) may = refl

pub free_there : (side : Side) (o : Option TradeRow) → IsTrue (may_free side o) → is_some o ≡ true
free_there side None may = absurd (false≢true may)
free_there side (Some row) may = refl

posting_stays : (rows : List TradeRow) (solutions : List SolutionData) (plan : List PlanRow) (touched : List ℕ) → is_of_one_row rows (posting_effect solutions plan touched) ≡ false
posting_stays rows solutions plan [] = refl
posting_stays rows solutions plan (member ∷ members) = refl

vote_stays : (s : State) (member : ℕ) (left : List ℕ) → is_of_one_row s.trades (vote_effect member left) ≡ false
vote_stays s member [] = refl
vote_stays s member (voter ∷ voters) = refl

pub one_row : (s : State) (by : List ℕ) (what : What) → is_of_one_row s.trades (effect_by s by what) ≡ goes_back s what
one_row s by (Hello name key) = refl
one_row s by (Trade seller buyer product amount day) = refl
one_row s by (Affirm trade) = refl
one_row s by (End trade) = refl
one_row s by (Hold trade) = refl
one_row s by (Free trade) = refl
one_row s by (Tol other product side floor ceiling) = refl
one_row s by (Nets product) = refl
one_row s by Statement = refl
one_row s by (Freeze day) = refl
one_row s by (Begin cycle mode) = refl
one_row s by (Limits product) = refl
one_row s by (Row product seller buyer amount size sum) = refl
one_row s by (Pot product member value size) = refl
one_row s by (Post cycle version solutions) =
    let plan = posted_plan s.cycle s.trades solutions in
    posting_stays s.trades solutions plan (touched_in s plan)
one_row s by (Fetch cycle version) = refl
one_row s by (Next position) = refl
one_row s by (Plan cycle) = refl
one_row s by (Proof cycle) = refl
one_row s by (Accept cycle version) = let member = member_of s by in vote_stays s member (left_after s member)
one_row s by (Decline cycle version) = refl
one_row s by (Cancel cycle) = refl
one_row s by Bye = refl
one_row s by (Unreadable at) = refl

-- and none of them changes a frozen trade but by a mark
pub one_row_leaves : (s : State) (by : Option (List ℕ)) (what : What) → goes_back s what ≡ true → first_of (refusals s by what) ≡ None → IsUnbroken s.cycle.phase s.trades → IsTrue (may_break s.cycle.phase) →
    frozen_of (state_by s by what).trades ≡ frozen_of s.trades
one_row_leaves s by (Trade seller buyer product amount day) goes none unbroken may =
    alleged_stays s.trades (member_of s seller) (member_of s buyer) (product_of s product) amount day (side_of (unwrap_or by []) seller)
one_row_leaves s by (Affirm trade) goes none unbroken may = affirm_leaves s by trade none unbroken may
one_row_leaves s by (End trade) goes none unbroken may =
    let row : Option TradeRow = trade_numbered s.trades trade in
    end_leaves s.cycle s.trades trade (side_at s (unwrap_or by []) row) (none_breaks (may_break s.cycle.phase) (is_frozen_and_marked row) (marks_unmarked row goes)) unbroken may
one_row_leaves s by (Hold trade) goes none unbroken may = hold_leaves s by trade (side_at s (unwrap_or by []) (trade_numbered s.trades trade)) none may
one_row_leaves s by (Free trade) goes none unbroken may = free_leaves s by trade (side_at s (unwrap_or by []) (trade_numbered s.trades trade)) none may
one_row_leaves s by what goes none unbroken may = absurd (false≢true goes)

-- so what leads back may be taken back
pub undoes : (s after : State) (goes : Bool) (o : Option Undo) → IfSome o (LeadsBack s after) → is_some o ≡ goes → (goes ≡ true → IsTrue (may_break s.cycle.phase) → frozen_of after.trades ≡ frozen_of s.trades) → IfSome o (Undoes s after)
undoes s after goes None back some leaves = tt
undoes s after goes (Some u) back some leaves =
    let phase : may_break after.cycle.phase ≡ may_break s.cycle.phase = ap (λ (n : State). may_break n.cycle.phase) back.0 in
    (back.0, record { trades = back.1; frozen = λ may. ap (λ (n : State). frozen_of n.trades) back.0 ∙ sym (leaves (sym some) (sym phase ∙ may)) })

-- ---- what the machine keeps

earlier_parties : (now was : TradeRow) → IsEarlier now was → (m : ℕ) → is_party_row (Some was) m ≡ is_party_row (Some now) m
earlier_parties now was e m = ap (λ (n : ℕ). (n == m) || (was.buyer == m)) e.seller ∙ ap (λ (n : ℕ). (now.seller == m) || (n == m)) e.buyer

back_there : (rows : List TradeRow) (was : TradeRow) (o : Option TradeRow) → trade_numbered rows was.number ≡ o → MayPutBack o was → KeepParties (with_row rows was.number (Some was)) rows
back_there rows was None is may = absurd may
back_there rows was (Some now) is may = back_parties rows was.number now was (placed rows was.number now is).2 (earlier_parties now was may)

-- each trade that is left had the same parties
pub undone_parties : (rows : List TradeRow) (u : Undo) → MayTakeBack rows u → KeepParties (rows_undone rows u) rows
undone_parties rows undo.TakeBack may = front_parties rows (length rows - 1)
undone_parties rows (undo.PutBack was) may = back_there rows was (trade_numbered rows was.number) refl may

abbrev IsLive : TradeRow → Type 0
IsLive row = IsTrue (is_live row.state)

-- that the frozen trades are live rests on these alone
frozen_live : (rows : List TradeRow) → FrozenAreLive rows → All IsLive (frozen_of rows)
frozen_live [] all = All-nil IsLive
frozen_live (row ∷ rows) all = by row.frozen (All-head IsSound row rows all) (frozen_live rows (All-tail IsSound row rows all))
  where
    by : (frozen : Bool) → (IsTrue frozen → IsLive row) → All IsLive (frozen_of rows) → All IsLive (map unmarked (cond frozen (row ∷ filter (λ r. r.frozen) rows) (filter (λ r. r.frozen) rows)))
    by true sound rest = All-cons IsLive (unmarked row) (frozen_of rows) (sound refl) rest
    by false sound rest = rest

live_frozen : (rows : List TradeRow) → All IsLive (frozen_of rows) → FrozenAreLive rows
live_frozen [] all = All-nil IsSound
live_frozen (row ∷ rows) all = by row.frozen refl (live_frozen rows) all
  where
    by : (frozen : Bool) → row.frozen ≡ frozen → (All IsLive (frozen_of rows) → FrozenAreLive rows) → All IsLive (map unmarked (cond frozen (row ∷ filter (λ r. r.frozen) rows) (filter (λ r. r.frozen) rows))) → FrozenAreLive (row ∷ rows)
    by true is rest live = All-cons IsSound row rows (λ on. All-head IsLive (unmarked row) (frozen_of rows) live) (rest (All-tail IsLive (unmarked row) (frozen_of rows) live))
    by false is rest live = All-cons IsSound row rows (λ on. absurd (false≢true (sym is ∙ on))) (rest live)

-- where the frozen trades stay but for their marks, the machine keeps what it should
pub machine_back : (roster : Rows) (members products : ℕ) (rows other : List TradeRow) (cycle : Cycle) → (IsTrue (may_break cycle.phase) → frozen_of other ≡ frozen_of rows) → IsMachine roster members products rows cycle →
    IsMachine roster members products other cycle
machine_back roster members products rows other cycle same kept = record {
  few_members = kept.few_members;
  few_products = kept.few_products;
  book = kept.book;
  unbroken = λ may. live_frozen other (subst (All IsLive) (sym (same may)) (frozen_live rows (kept.unbroken may)));
  cycle_kept = same_frozen roster rows other cycle (λ stands. same (limits_break cycle.phase stands)) kept.cycle_kept;
}
