-- Commands that change no cycle: what the state keeps of the history stays.
use Rattle.std.proofs.Common.{◌≡◌, ℕ, zero, suc, ◌+◌, ◌≤◌, Bool, true, false, cond, not, ◌&&◌, ◌||◌, ◌==◌, List, [], ◌∷◌, length, Option, Some, None, slice_get, refl, sym, ap, ◌∙◌, arith, add-one, le_trans}
use Rattle.std.specs.List.{list_any, list_all}
use Rattle.std.proofs.lemmas.Bool.{cond-false, or_from, and_left}
use Rattle.std.proofs.lemmas.List.{length-map}
use Rattle.command_types.specs.declared.ask.What.{What}
use Rattle.command_types.specs.declared.cycle.Phase.{Phase}
use Rattle.command_types.specs.declared.cycle.Phase.TheVariants.{None as NoPhase, Frozen, Solving, Proposed, Broken}
use Rattle.command_types.specs.declared.figures.Cycle.{Cycle}
use Rattle.command_types.specs.declared.roster.ProductRow.{ProductRow}
use Rattle.command_types.specs.declared.trade.TradeRow.{TradeRow}
use Rattle.command_types.specs.Roster.{Rows}
use Rattle.command_types.specs.Trades.{trade_numbered}
use Rattle.command_types.specs.Plans.{thawed}
use Rattle.command_types.specs.Cycles.{may_break}
use Rattle.trade_history.specs.Moments.{Moment, cycle_after, cycle_at, is_post, is_drop, is_accept, accepts, drops}
use Rattle.trade_history.specs.Executes.{Opening, takes, is_taken_row, marked, marked_row, networks_from, has_accepted, have_accepted, are_live}
use Rattle.trade_history.specs.Search.{Cut, opening_of, opening_by, later_by, cut_at_post}
use Rattle.trade_history.specs.Book.{Book}
use Rattle.trade_history.proofs.Touches.{within-more, HaveParties, touched-same}
use Rattle.trade_history.proofs.Changes.{numbered-at}
use Rattle.trade_history.proofs.Kept.{is_begin, is_fresh, HasOpening, IsProposed, InPhase, Keeps}
use Rattle.trade_history.proofs.RowSteps.{IsRowStep}

-- a command that looks back over it passes over
pub record IsPlain (what : What) : Type 0 where
  pub count : (n : ℕ) → cycle_after what n ≡ n
  pub opening : (b : Bool) (rows : List TradeRow) (before : Option Opening) → opening_by what b rows before ≡ before
  pub post : (k v : ℕ) → is_post k v what ≡ false
  pub drop : (k : ℕ) → is_drop k what ≡ false
  pub accept : (k v : ℕ) → is_accept k v what ≡ false
  pub begin : (k : ℕ) → is_begin k what ≡ false

get_past : (rows : List TradeRow) (k : ℕ) → length rows ≤ k → slice_get rows k ≡ None
get_past [] k le = refl
get_past (row ∷ rows) zero le = absurd (omega arith)
get_past (row ∷ rows) (suc k) le = get_past rows k (omega arith)

-- a trade that comes later was not taken
pub takes-later : (products : List ProductRow) (opening : Opening) (n : ℕ) → length opening.rows ≤ n → takes products opening (n + 1) ≡ false
takes-later products opening n le =
    ap (is_taken_row products opening.day) (ap (trade_numbered opening.rows) (add-one n) ∙ numbered-at opening.rows n ∙ get_past opening.rows n le)

-- the book after a plain moment
abbrev pub grown_book : (List TradeRow → List TradeRow) → Moment → Book → Book
grown_book op now book = record { moments = now ∷ book.moments; rows = op book.rows }

pub opening-later : (roster : Rows) (number : ℕ) (trades : List TradeRow) (cycle : Cycle) (book : Book) (op : List TradeRow → List TradeRow) (now : Moment) (opening : Opening) →
    IsRowStep op → IsPlain now.ask.what → HasOpening roster number trades cycle book opening → HasOpening roster number (op trades) cycle (grown_book op now book) opening
opening-later roster number trades cycle book op now opening step plain has = record {
  found = plain.opening (cycle_at number (now ∷ book.moments) == cycle.number) now.rows (opening_of number cycle.number book.moments) ∙ has.found;
  day = has.day;
  same = ap op has.same ∙ step.marks (takes roster.products opening) book.rows (takes-later roster.products opening (length book.rows) has.grown);
  grown = le_trans has.grown (step.grows book.rows);
}

pub networks-later : (members : ℕ) (trades : List TradeRow) (op : List TradeRow → List TradeRow) → IsRowStep op → (product : ℕ) (products : List ProductRow) →
    networks_from members trades product products ≡ networks_from members (op trades) product products
networks-later members trades op step product [] = refl
networks-later members trades op step product (row ∷ products) =
    let first = sym (step.networks members product trades) in
    let rest = networks-later members trades op step (1 + product) products in
    λ i. first i ∷ rest i

fresh_by : (b p f : Bool) → b ≡ false → p ≡ false → f ≡ true → cond b true (not p && f) ≡ true
fresh_by b p f no_begin no_post fresh = rw (no_begin, no_post, fresh) refl

pub fresh-later : (k v : ℕ) (now : Moment) (moments : List Moment) → IsPlain now.ask.what → is_fresh k v moments ≡ true → is_fresh k v (now ∷ moments) ≡ true
fresh-later k v now moments plain fresh =
    fresh_by (is_begin k now.ask.what) (is_post k v now.ask.what) (is_fresh k v moments) (plain.begin k) (plain.post k v) fresh

pub cut-later : (k v : ℕ) (now : Moment) (moments : List Moment) (cut : Cut) → is_post k v now.ask.what ≡ false → cut_at_post k v moments ≡ Some cut →
    cut_at_post k v (now ∷ moments) ≡ Some (record { later = now ∷ cut.later; posted = cut.posted; before = cut.before })
cut-later k v now moments cut no_post cuts =
    cond-false (is_post k v now.ask.what) (Some (record { later = []; posted = now; before = moments })) (later_by now (cut_at_post k v moments)) no_post
    ∙ ap (later_by now) cuts

or_none : (a b : Bool) → a ≡ false → (a || b) ≡ b
or_none a b x = rw x refl

accepted-later : (roster : Rows) (k v : ℕ) (now : Moment) (later : List Moment) (member : ℕ) → is_accept k v now.ask.what ≡ false →
    has_accepted roster k v (now ∷ later) member ≡ has_accepted roster k v later member
accepted-later roster k v now later member no_accept =
    or_none (accepts roster k v member now) (has_accepted roster k v later member) (and_left (is_accept k v now.ask.what) _ no_accept)

all_accepted-later : (roster : Rows) (k v : ℕ) (now : Moment) (later : List Moment) (members : List ℕ) → is_accept k v now.ask.what ≡ false →
    have_accepted roster k v (now ∷ later) members ≡ have_accepted roster k v later members
all_accepted-later roster k v now later members no_accept =
    λ i. list_all (λ member. accepted-later roster k v now later member no_accept i) members

parties-later : (roster : Rows) (number : ℕ) (trades : List TradeRow) (cycle : Cycle) (book : Book) (op : List TradeRow → List TradeRow) (opening : Opening) →
    IsRowStep op → HasOpening roster number trades cycle book opening → HaveParties (length book.rows) trades (op trades)
parties-later roster number trades cycle book op opening step has =
    let long : length trades ≡ length book.rows = ap length has.same ∙ length-map book.rows (marked_row (takes roster.products opening)) in
    record { same = λ trade member below. step.parties trades trade member (omega arith) }

pub proposed-later : (roster : Rows) (number : ℕ) (trades : List TradeRow) (cycle : Cycle) (book : Book) (op : List TradeRow → List TradeRow) (now : Moment) → IsRowStep op → IsPlain now.ask.what →
    (p : IsProposed roster number trades cycle book) → are_live (takes roster.products p.opening) (op book.rows) ≡ true → IsProposed roster number (op trades) cycle (grown_book op now book)
proposed-later roster number trades cycle book op now step plain p live = record {
  opening = p.opening;
  has = opening-later roster number trades cycle book op now p.opening step plain p.has;
  live = live;
  cut = record { later = now ∷ p.cut.later; posted = p.cut.posted; before = p.cut.before };
  cuts = cut-later cycle.number cycle.version now book.moments p.cut (plain.post cycle.number cycle.version) p.cuts;
  opens = p.opens;
  calm = or_from (drops cycle.number now) (list_any (drops cycle.number) p.cut.later) (plain.drop cycle.number) p.calm;
  plan = p.plan;
  touched = touched-same (length book.rows) (length roster.members) trades (op trades) (parties-later roster number trades cycle book op p.opening step p.has) cycle.plan p.within ∙ p.touched;
  within = within-more (length book.rows) (length (op book.rows)) (step.grows book.rows) cycle.plan p.within;
  votes = λ member. p.votes member ∙ sym (accepted-later roster cycle.number cycle.version now p.cut.later member (plain.accept cycle.number cycle.version));
  waits = all_accepted-later roster cycle.number cycle.version now p.cut.later _ (plain.accept cycle.number cycle.version) ∙ p.waits;
  fresh = p.fresh;
}

-- the trades that were taken stay live
abbrev pub StaysLive : (List TradeRow → List TradeRow) → List TradeRow → Book → Type 0
StaysLive op trades book = (t : ℕ → Bool) → trades ≡ marked t book.rows → t (length book.rows + 1) ≡ false → are_live t book.rows ≡ true → are_live t (op book.rows) ≡ true

live_still : (roster : Rows) (number : ℕ) (trades : List TradeRow) (cycle : Cycle) (book : Book) (op : List TradeRow → List TradeRow) (opening : Opening) →
    StaysLive op trades book → HasOpening roster number trades cycle book opening → are_live (takes roster.products opening) book.rows ≡ true → are_live (takes roster.products opening) (op book.rows) ≡ true
live_still roster number trades cycle book op opening stays has live =
    stays (takes roster.products opening) has.same (takes-later roster.products opening (length book.rows) has.grown) live

pub phase-later : (phase : Phase) (roster : Rows) (number : ℕ) (trades : List TradeRow) (cycle : Cycle) (book : Book) (op : List TradeRow → List TradeRow) (now : Moment) →
    IsRowStep op → IsPlain now.ask.what → (may_break phase ≡ true → StaysLive op trades book) → InPhase phase roster number trades cycle book → InPhase phase roster number (op trades) cycle (grown_book op now book)
phase-later NoPhase roster number trades cycle book op now step plain stays p = ap op p
phase-later Frozen roster number trades cycle book op now step plain stays p = record {
  opening = p.opening;
  has = opening-later roster number trades cycle book op now p.opening step plain p.has;
  live = live_still roster number trades cycle book op p.opening (stays refl) p.has p.live;
}
phase-later Solving roster number trades cycle book op now step plain stays p = record {
  opening = p.opening;
  has = opening-later roster number trades cycle book op now p.opening step plain p.has;
  live = live_still roster number trades cycle book op p.opening (stays refl) p.has p.live;
  networks = p.networks ∙ networks-later (length roster.members) trades op step 0 roster.products;
  fresh = fresh-later cycle.number cycle.version now book.moments plain p.fresh;
}
phase-later Proposed roster number trades cycle book op now step plain stays p =
    proposed-later roster number trades cycle book op now step plain p (live_still roster number trades cycle book op p.opening (stays refl) p.has p.live)
phase-later Broken roster number trades cycle book op now step plain stays p =
    record { opening = p.opening; has = opening-later roster number trades cycle book op now p.opening step plain p.has }

-- the book's rows stay free
pub free-later : (op : List TradeRow → List TradeRow) → IsRowStep op → (rows : List TradeRow) → thawed rows ≡ rows → thawed (op rows) ≡ op rows
free-later op step rows free = sym (step.marks (λ n. false) rows refl) ∙ ap op free

pub plain-keeps : (roster : Rows) (number : ℕ) (trades : List TradeRow) (cycle : Cycle) (book : Book) (op : List TradeRow → List TradeRow) (now : Moment) →
    IsRowStep op → IsPlain now.ask.what → (may_break cycle.phase ≡ true → StaysLive op trades book) → Keeps roster number trades cycle book → Keeps roster number (op trades) cycle (grown_book op now book)
plain-keeps roster number trades cycle book op now step plain stays keeps = record {
  numbered = step.numbers book.rows keeps.numbered;
  free = free-later op step book.rows keeps.free;
  count = keeps.count ∙ sym (plain.count (cycle_at number book.moments));
  phase = phase-later cycle.phase roster number trades cycle book op now step plain stays keeps.phase;
}
