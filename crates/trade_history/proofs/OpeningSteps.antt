-- FREEZE and BEGIN: how a cycle opens, and a version of it begins.
use Rattle.std.proofs.Common.{◌≡◌, ℕ, zero, suc, ◌+◌, Bool, true, false, not, ◌&&◌, ◌||◌, ◌==◌, List, [], ◌∷◌, length, map, Option, Some, slice_get, refl, sym, ap, ◌∙◌, arith, eq-eqb}
use Rattle.std.specs.List.{list_all}
use Rattle.std.proofs.lemmas.Bool.{or_right}
use Rattle.units_core.specs.Day.{DayParts}
use Rattle.command_types.specs.declared.ask.Ask.{Ask}
use Rattle.command_types.specs.declared.ask.What.TheVariants.{Freeze, Begin}
use Rattle.command_types.specs.declared.cycle.Mode.{Mode}
use Rattle.command_types.specs.declared.cycle.Phase.{Phase}
use Rattle.command_types.specs.declared.cycle.Phase.TheVariants.{None as NoPhase, Frozen, Solving, Proposed, Broken}
use Rattle.command_types.specs.declared.figures.Cycle.{Cycle}
use Rattle.command_types.specs.declared.roster.ProductRow.{ProductRow}
use Rattle.command_types.specs.declared.tolerance.ToleranceRow.{ToleranceRow}
use Rattle.command_types.specs.declared.trade.TradeRow.{TradeRow}
use Rattle.command_types.specs.Roster.{Rows}
use Rattle.command_types.specs.Trades.{trade_numbered, is_live}
use Rattle.command_types.specs.Books.{frozen_network}
use Rattle.command_types.specs.Cycles.{opened, is_open, may_begin, product_matures_after, is_taken, row_at_freeze, frozen_rows, problems_from, problems_of, begun_with, old_networks}
use Rattle.trade_history.specs.Moments.{Moment, cycle_at}
use Rattle.trade_history.specs.Executes.{Opening, takes, is_taken_row, marked, marked_row, networks_from, are_live}
use Rattle.trade_history.specs.Search.{opening_by, opening_of}
use Rattle.trade_history.specs.Book.{Book, AreNumbered}
use Rattle.trade_history.proofs.Changes.{numbered-at}
use Rattle.trade_history.proofs.Kept.{HasOpening, IsFrozen, IsSolving, InPhase, Keeps}

-- the book after a moment at which no row changes
abbrev pub noted_book : Ask → Book → Book
noted_book ask book = record { moments = record { ask = ask; rows = book.rows } ∷ book.moments; rows = book.rows }

map-places : (f g : TradeRow → TradeRow) (rows : List TradeRow) → ((k : ℕ) (row : TradeRow) → slice_get rows k ≡ Some row → f row ≡ g row) → map f rows ≡ map g rows
map-places f g [] same = refl
map-places f g (row ∷ rows) same =
    let first = same zero row refl in
    let rest = map-places f g rows (λ k r is. same (suc k) r is) in
    λ i. first i ∷ rest i

all-places : (test : TradeRow → Bool) (rows : List TradeRow) → ((k : ℕ) (row : TradeRow) → slice_get rows k ≡ Some row → test row ≡ true) → list_all test rows ≡ true
all-places test [] each = refl
all-places test (row ∷ rows) each = rw (each zero row refl) (all-places test rows (λ k r is. each (suc k) r is))

number-place : (n : ℕ) (rows : List TradeRow) (k : ℕ) (row : TradeRow) → AreNumbered n rows → slice_get rows k ≡ Some row → row.number ≡ suc (n + k)
number-place n [] k row are is = cc
number-place n (r ∷ rows) zero row (here, rest) is = (let e : r ≡ row = cc in let same : r.number ≡ row.number = ap (λ v. v.number) e in omega arith)
number-place n (r ∷ rows) (suc k) row (here, rest) is = (let e = number-place (suc n) rows k row rest is in omega arith)

-- the row with a row's number is that row
numbered-self : (rows : List TradeRow) (k : ℕ) (row : TradeRow) → AreNumbered 0 rows → slice_get rows k ≡ Some row → trade_numbered rows row.number ≡ Some row
numbered-self rows k row are is =
    let e = number-place 0 rows k row are is in
    let place : row.number ≡ suc k = omega arith in
    ap (trade_numbered rows) place ∙ numbered-at rows k ∙ is

takes-row : (products : List ProductRow) (day : DayParts) (rows : List TradeRow) (k : ℕ) (row : TradeRow) → AreNumbered 0 rows → slice_get rows k ≡ Some row →
    takes products (record { day = day; rows = rows }) row.number ≡ is_taken products day row
takes-row products day rows k row are is = ap (is_taken_row products day) (numbered-self rows k row are is)

frozen-marked : (products : List ProductRow) (day : DayParts) (rows : List TradeRow) → AreNumbered 0 rows →
    frozen_rows products day rows ≡ marked (takes products (record { day = day; rows = rows })) rows
frozen-marked products day rows are =
    map-places (row_at_freeze products day) (marked_row (takes products (record { day = day; rows = rows }))) rows
    (λ k row is. ap (λ b. record row { frozen = b }) (sym (takes-row products day rows k row are is)))

live_taken : (live matures : Bool) → (not (live && matures) || live) ≡ true
live_taken true matures = or_right (not matures) true refl
live_taken false matures = refl

opened-live : (products : List ProductRow) (day : DayParts) (rows : List TradeRow) → AreNumbered 0 rows → are_live (takes products (record { day = day; rows = rows })) rows ≡ true
opened-live products day rows are =
    all-places (λ row. not (takes products (record { day = day; rows = rows }) row.number) || is_live row.state) rows
    (λ k row is. ap (λ b. not b || is_live row.state) (takes-row products day rows k row are is)
    ∙ live_taken (is_live row.state) (product_matures_after (slice_get products row.product) day))

freeze-phase : (phase : Phase) (roster : Rows) (number : ℕ) (trades : List TradeRow) (cycle : Cycle) (book : Book) (by : Option (List ℕ)) (time : ℕ) (day : DayParts) →
    is_open phase ≡ false → AreNumbered 0 book.rows → cycle.number ≡ cycle_at number book.moments → InPhase phase roster number trades cycle book →
    IsFrozen roster number (frozen_rows roster.products day trades) (opened cycle day) (noted_book (record { by = by; what = Freeze day; moment = time }) book)
freeze-phase NoPhase roster number trades cycle book by time day shut are count p = record {
  opening = record { day = day; rows = book.rows };
  has = record {
    found = ap (λ b. opening_by (Freeze day) b book.rows (opening_of number (1 + cycle.number) book.moments))
        (ap (λ n. (1 + n) == (1 + cycle.number)) (sym count) ∙ eq-eqb (1 + cycle.number) (1 + cycle.number) refl);
    day = refl;
    same = ap (frozen_rows roster.products day) p ∙ frozen-marked roster.products day book.rows are;
    grown = omega arith;
  };
  live = opened-live roster.products day book.rows are;
}
freeze-phase Frozen roster number trades cycle book by time day shut are count p = cc
freeze-phase Solving roster number trades cycle book by time day shut are count p = cc
freeze-phase Proposed roster number trades cycle book by time day shut are count p = cc
freeze-phase Broken roster number trades cycle book by time day shut are count p = cc

pub freeze-keeps : (roster : Rows) (number : ℕ) (trades : List TradeRow) (cycle : Cycle) (book : Book) (by : Option (List ℕ)) (time : ℕ) (day : DayParts) →
    is_open cycle.phase ≡ false → Keeps roster number trades cycle book →
    Keeps roster number (frozen_rows roster.products day trades) (opened cycle day) (noted_book (record { by = by; what = Freeze day; moment = time }) book)
freeze-keeps roster number trades cycle book by time day shut keeps = record {
  numbered = keeps.numbered;
  free = keeps.free;
  count = ap (λ n. 1 + n) keeps.count;
  phase = freeze-phase cycle.phase roster number trades cycle book by time day shut keeps.numbered keeps.count keeps.phase;
}

begun-networks : (roster : Rows) (trades : List TradeRow) (settings : List ToleranceRow) (mode : Mode) (product : ℕ) (products : List ProductRow) →
    old_networks (problems_from roster trades settings mode product products) ≡ networks_from (length roster.members) trades product products
begun-networks roster trades settings mode product [] = refl
begun-networks roster trades settings mode product (row ∷ products) =
    let rest = begun-networks roster trades settings mode (1 + product) products in
    λ i. frozen_network (length roster.members) product trades ∷ rest i

-- an open cycle's opening, with what is wanted of the cycle
pub opening-noted : (roster : Rows) (number : ℕ) (trades : List TradeRow) (cycle other : Cycle) (book : Book) (opening : Opening) (now : Moment) →
    ((b : Bool) (before : Option Opening) → opening_by now.ask.what b now.rows before ≡ before) → other.number ≡ cycle.number → other.day ≡ cycle.day →
    HasOpening roster number trades cycle book opening → HasOpening roster number trades other (record { moments = now ∷ book.moments; rows = book.rows }) opening
opening-noted roster number trades cycle other book opening now passes number_same day_same has = record {
  found = passes (cycle_at number (now ∷ book.moments) == other.number) (opening_of number other.number book.moments)
      ∙ ap (λ n. opening_of number n book.moments) number_same ∙ has.found;
  day = day_same ∙ has.day;
  same = has.same;
  grown = has.grown;
}

begin-phase : (phase : Phase) (roster : Rows) (number : ℕ) (trades : List TradeRow) (settings : List ToleranceRow) (cycle : Cycle) (book : Book) (by : Option (List ℕ)) (time : ℕ) (c : ℕ) (mode : Mode) →
    may_begin phase ≡ true → (c == cycle.number) ≡ true → InPhase phase roster number trades cycle book →
    IsSolving roster number trades (begun_with cycle mode settings (problems_of roster trades settings mode)) (noted_book (record { by = by; what = Begin c mode; moment = time }) book)
begin-phase NoPhase roster number trades settings cycle book by time c mode may is p = cc
begin-phase Frozen roster number trades settings cycle book by time c mode may is p = record {
  opening = p.opening;
  has = opening-noted roster number trades cycle (begun_with cycle mode settings (problems_of roster trades settings mode)) book p.opening (record { ask = record { by = by; what = Begin c mode; moment = time }; rows = book.rows })
      (λ b before. refl) refl refl p.has;
  live = p.live;
  networks = begun-networks roster trades settings mode 0 roster.products;
  fresh = rw is refl;
}
begin-phase Solving roster number trades settings cycle book by time c mode may is p = record {
  opening = p.opening;
  has = opening-noted roster number trades cycle (begun_with cycle mode settings (problems_of roster trades settings mode)) book p.opening (record { ask = record { by = by; what = Begin c mode; moment = time }; rows = book.rows })
      (λ b before. refl) refl refl p.has;
  live = p.live;
  networks = begun-networks roster trades settings mode 0 roster.products;
  fresh = rw is refl;
}
begin-phase Proposed roster number trades settings cycle book by time c mode may is p = cc
begin-phase Broken roster number trades settings cycle book by time c mode may is p = cc

pub begin-keeps : (roster : Rows) (number : ℕ) (trades : List TradeRow) (settings : List ToleranceRow) (cycle : Cycle) (book : Book) (by : Option (List ℕ)) (time : ℕ) (c : ℕ) (mode : Mode) →
    may_begin cycle.phase ≡ true → (c == cycle.number) ≡ true → Keeps roster number trades cycle book →
    Keeps roster number trades (begun_with cycle mode settings (problems_of roster trades settings mode)) (noted_book (record { by = by; what = Begin c mode; moment = time }) book)
begin-keeps roster number trades settings cycle book by time c mode may is keeps = record {
  numbered = keeps.numbered;
  free = keeps.free;
  count = keeps.count;
  phase = begin-phase cycle.phase roster number trades settings cycle book by time c mode may is keeps.phase;
}
