-- What a plan rests on stays while no frozen trade changes but by a mark.
use Rattle.std.proofs.Common.{◌≡◌, ℕ, zero, suc, ◌+◌, ◌-◌, ◌++◌, ◌||◌, ◌&&◌, nat_lt, Bool, true, false, cond, is_some, List, [], ◌∷◌, length, map, slice_get, slice_set, Option, Some, None, refl, sym, ap, subst, ◌∙◌, if◌then◌else◌}
use Rattle.std.specs.Prelude.{filter}
use Rattle.std.proofs.lemmas.List.{append-nil, map-append}
use Rattle.std.proofs.lemmas.List.Elements.{filter-append}
use Rattle.units_core.specs.Day.{DayParts}
use Rattle.network_laws.specs.Networks.{NetworkData}
use Rattle.network_laws.specs.Solutions.{ProblemData}
use Rattle.command_types.specs.declared.cycle.Mode.{Mode}
use Rattle.command_types.specs.declared.roster.ProductRow.{ProductRow}
use Rattle.command_types.specs.declared.tolerance.ToleranceRow.{ToleranceRow}
use Rattle.command_types.specs.declared.trade.Side.{Side}
use Rattle.command_types.specs.declared.trade.Side.TheVariants.{Out, In}
use Rattle.command_types.specs.declared.trade.TradeRow.{TradeRow}
use Rattle.command_types.specs.declared.trade.TradeState.TheVariants.{Ended}
use Rattle.command_types.specs.Roster.{Rows}
use Rattle.command_types.specs.Books.{frozen_network, held_network}
use Rattle.command_types.specs.Tolerances.{limits_of}
use Rattle.command_types.specs.Trades.{is_alleged, trade_numbered, with_row, changed_row, with_changed, live_row, row_ended_by, row_with_hold, affirmed, ended_by, held_by, freed_by, with_alleged}
use Rattle.command_types.specs.Cycles.{problem_of, problems_from}
use Rattle.acceptance.specs.Laws.{unmarked, frozen_of}
use Rattle.acceptance.proofs.FrozenRows.{plan_is_of_the_frozen}
use Rattle.posting.specs.Laws.{PlanStays}

module _ (rows other : List TradeRow) (same : frozen_of rows ≡ frozen_of other) where
  problem_same : (roster : Rows) (settings : List ToleranceRow) (mode : Mode) (product : ℕ) → problem_of roster rows settings mode product ≡ problem_of roster other settings mode product
  problem_same roster settings mode product =
      let members : ℕ = length roster.members in
      let plans = plan_is_of_the_frozen rows other same in
      let make : NetworkData → NetworkData → ProblemData = λ frozen held. record { limits = limits_of mode roster.members settings product frozen held; network = frozen } in
      ap (λ y. make y (held_network members product rows)) (plans.frozen members product) ∙ ap (λ y. make (frozen_network members product other) y) (plans.held members product)

  problems_same : (roster : Rows) (settings : List ToleranceRow) (mode : Mode) (k : ℕ) (products : List ProductRow) → problems_from roster rows settings mode k products ≡ problems_from roster other settings mode k products
  problems_same roster settings mode k [] = refl
  problems_same roster settings mode k (row ∷ products) =
      ap (λ p. p ∷ problems_from roster rows settings mode (1 + k) products) (problem_same roster settings mode k)
      ∙ ap (λ ps. problem_of roster other settings mode k ∷ ps) (problems_same roster settings mode (1 + k) products)

pub plan_stays : PlanStays
plan_stays rows other same = record {
  problems = λ roster settings mode. problems_same rows other same roster settings mode 0 roster.products;
  plan = (plan_is_of_the_frozen rows other same).plan;
}

frozen_append : (rows more : List TradeRow) → frozen_of (rows ++ more) ≡ frozen_of rows ++ frozen_of more
frozen_append rows more =
    ap (map unmarked) (filter-append (λ row. row.frozen) rows more) ∙ map-append unmarked (filter (λ row. row.frozen) rows) (filter (λ row. row.frozen) more)

-- the row counts for a plan as the other does
abbrev pub CountsAs : TradeRow → TradeRow → Type 0
CountsAs row other = frozen_of (row ∷ []) ≡ frozen_of (other ∷ [])

-- no frozen row counts
pub unfrozen_counts : (row other : TradeRow) → row.frozen ≡ false → other.frozen ≡ false → CountsAs row other
unfrozen_counts row other e e' = none row e ∙ sym (none other e')
  where
    none : (row : TradeRow) → row.frozen ≡ false → frozen_of (row ∷ []) ≡ []
    none row e = ap (λ b. map unmarked (cond b (row ∷ []) [])) e

set_same : (rows : List TradeRow) (k : ℕ) (row next : TradeRow) → slice_get rows k ≡ Some row → CountsAs next row → frozen_of (slice_set rows k next) ≡ frozen_of rows
set_same [] k row next is counts = refl
set_same (first ∷ rows) zero row next is counts =
    let same : first ≡ row = cc in
    frozen_append (next ∷ []) rows ∙ ap (λ xs. xs ++ frozen_of rows) (subst (λ r. CountsAs next r) (sym same) counts) ∙ sym (frozen_append (first ∷ []) rows)
set_same (first ∷ rows) (suc k) row next is counts =
    frozen_append (first ∷ []) (slice_set rows k next) ∙ ap (λ xs. frozen_of (first ∷ []) ++ xs) (set_same rows k row next is counts) ∙ sym (frozen_append (first ∷ []) rows)

-- a changed trade that counts as before leaves the frozen ones as they are
pub change_stays : (change : TradeRow → TradeRow) (rows : List TradeRow) (trade : ℕ) → ((row : TradeRow) → trade_numbered rows trade ≡ Some row → CountsAs (change row) row) → frozen_of (with_changed change rows trade) ≡ frozen_of rows
change_stays change rows trade counts = by (nat_lt 0 trade) (slice_get rows (trade - 1)) refl counts
  where
    by : (above : Bool) (o : Option TradeRow) → slice_get rows (trade - 1) ≡ o → ((row : TradeRow) → (if above then o else None) ≡ Some row → CountsAs (change row) row) →
        frozen_of (with_row rows trade (changed_row change (if above then o else None))) ≡ frozen_of rows
    by false o is counts = refl
    by true None is counts = refl
    by true (Some row) is counts = set_same rows (trade - 1) row (change row) is (counts row refl)

-- the trade is not frozen, if it is there
abbrev pub IsUnfrozen : List TradeRow → ℕ → Type 0
IsUnfrozen rows trade = (row : TradeRow) → trade_numbered rows trade ≡ Some row → row.frozen ≡ false

pub alleged_stays : (rows : List TradeRow) (seller buyer product amount : ℕ) (day : DayParts) (submitter : Side) → frozen_of (with_alleged rows seller buyer product amount day submitter) ≡ frozen_of rows
alleged_stays rows seller buyer product amount day submitter = frozen_append rows _ ∙ append-nil (frozen_of rows)

pub affirmed_stays : (rows : List TradeRow) (trade : ℕ) → IsUnfrozen rows trade → frozen_of (affirmed rows trade) ≡ frozen_of rows
affirmed_stays rows trade unfrozen =
    change_stays live_row rows trade (λ row is. unfrozen_counts (live_row row) row (unfrozen row is) (unfrozen row is))

hold_unfrozen : (held : Bool) (side : Side) (row : TradeRow) → row.frozen ≡ false → (row_with_hold held side row).frozen ≡ false
hold_unfrozen held Out row e = e
hold_unfrozen held In row e = e

pub held_stays : (side : Side) (rows : List TradeRow) (trade : ℕ) → IsUnfrozen rows trade → frozen_of (held_by side rows trade) ≡ frozen_of rows
held_stays side rows trade unfrozen =
    change_stays (row_with_hold true side) rows trade (λ row is. unfrozen_counts (row_with_hold true side row) row (hold_unfrozen true side row (unfrozen row is)) (unfrozen row is))

pub freed_stays : (side : Side) (rows : List TradeRow) (trade : ℕ) → IsUnfrozen rows trade → frozen_of (freed_by side rows trade) ≡ frozen_of rows
freed_stays side rows trade unfrozen =
    change_stays (row_with_hold false side) rows trade (λ row is. unfrozen_counts (row_with_hold false side row) row (hold_unfrozen false side row (unfrozen row is)) (unfrozen row is))

-- a party's wish to end the trade ends it at once
abbrev pub ends : TradeRow → Bool
ends row = is_alleged row.state || is_some row.mark

-- the trade is not frozen, or is only marked
abbrev pub IsUnfrozenOrMarked : List TradeRow → ℕ → Type 0
IsUnfrozenOrMarked rows trade = (row : TradeRow) → trade_numbered rows trade ≡ Some row → (row.frozen && ends row) ≡ false

-- a mark counts for nothing
marked_counts : (mark : Option Side) (row : TradeRow) → CountsAs (record row { mark = mark }) row
marked_counts mark row = by row.frozen
  where
    by : (b : Bool) → map unmarked (cond b (record row { mark = mark } ∷ []) []) ≡ map unmarked (cond b (row ∷ []) [])
    by true = refl
    by false = refl

ended_counts : (side : Side) (row : TradeRow) → (row.frozen && ends row) ≡ false → CountsAs (row_ended_by side row) row
ended_counts side row e = by row.frozen (ends row) refl e refl
  where
    by : (f g : Bool) → row.frozen ≡ f → (f && g) ≡ false → ends row ≡ g → CountsAs (row_ended_by side row) row
    by f false is e is' = subst (λ b. CountsAs (if b then record row { state = Ended } else record row { mark = Some side }) row) (sym is') (marked_counts (Some side) row)
    by false true is e is' = subst (λ b. CountsAs (if b then record row { state = Ended } else record row { mark = Some side }) row) (sym is') (unfrozen_counts (record row { state = Ended }) row is is)
    by true true is e is' = cc

pub ended_stays : (side : Side) (rows : List TradeRow) (trade : ℕ) → IsUnfrozenOrMarked rows trade → frozen_of (ended_by side rows trade) ≡ frozen_of rows
ended_stays side rows trade marks = change_stays (row_ended_by side) rows trade (λ row is. ended_counts side row (marks row is))
