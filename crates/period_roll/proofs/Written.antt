-- What is written over the new roster can be written, and fits it.
use Rattle.std.proofs.Common.{◌≡◌, ℕ, suc, ◌≤◌, ◌<◌, ◌==◌, nat_lt, Bool, true, false, List, [], ◌∷◌, length, map, filter, Option, Some, None, All, Ok, if◌then◌else◌, refl, ap, ◌∙◌, subst, arith}
use Rattle.std.proofs.lemmas.Bool.Decides.{nat_tests}
use Rattle.std.proofs.lemmas.List.{length-map}
use Rattle.std.proofs.lemmas.List.Elements.{All-nil, All-cons, All-head, All-tail, All-filter}
use Rattle.units_core.specs.Day.{DayParts}
use Rattle.command_types.specs.declared.base.Base.{Base}
use Rattle.command_types.specs.declared.roster.MemberRow.{MemberRow}
use Rattle.command_types.specs.declared.roster.ProductRow.{ProductRow}
use Rattle.command_types.specs.declared.tolerance.ToleranceRow.{ToleranceRow}
use Rattle.command_types.specs.declared.trade.TradeRow.{TradeRow}
use Rattle.command_types.specs.Roster.{Rows, IsRoster}
use Rattle.command_types.specs.Tolerances.{setting_place, with_setting}
use Rattle.command_types.specs.Bases.{AreNumbered, AreRising, CanBeWritten}
use Rattle.period_roll.specs.Trades.{is_kept, moved_trade, moved_trades, numbered_from}
use Rattle.period_roll.specs.Settings.{moved_beside, moved_setting, with_some}
use Rattle.period_roll.specs.Rolls.{rolled_base}
use Rattle.period_roll.proofs.Moved.{is_moved, is_joined, is_made}

-- ---- numbers

numbered_free : (n : ℕ) (rows : List TradeRow) → AreNumbered n rows → All (λ row. row.frozen ≡ false) rows
numbered_free n [] is = All-nil (λ (row : TradeRow). row.frozen ≡ false)
numbered_free n (row ∷ rows) (number, free, rest) = All-cons (λ (r : TradeRow). r.frozen ≡ false) row rows free (numbered_free (suc n) rows rest)

free_moved : (old new : Rows) (rows made : List TradeRow) (n : ℕ) → moved_trades old new rows ≡ Ok made → All (λ row. row.frozen ≡ false) rows → AreNumbered n (numbered_from n made)
free_moved old new [] made n e free = let none : [] ≡ made = cc in subst (λ (l : List TradeRow). AreNumbered n (numbered_from n l)) none tt
free_moved old new (row ∷ rows) made n e free =
    let is = is_joined (moved_trade old new row) (moved_trades old new rows) made e in
    let moved = is_moved old new row is.moved is.first_is in
    subst (λ (l : List TradeRow). AreNumbered n (numbered_from n l)) is.same
    (refl, ap (λ (r : TradeRow). r.frozen) moved.same ∙ All-head (λ (r : TradeRow). r.frozen ≡ false) row rows free, free_moved old new rows is.more (suc n) is.rest_is (All-tail (λ (r : TradeRow). r.frozen ≡ false) row rows free))

-- ---- rising settings

same_number : (a b : ℕ) → (a == b) ≡ true → a ≡ b
same_number a b e = grind (arith, nat_tests)

less_number : (a b : ℕ) → nat_lt b a ≡ true → suc b ≤ a
less_number a b e = grind (arith, nat_tests)

more_number : (a b : ℕ) → (a == b) ≡ false → nat_lt b a ≡ false → suc a ≤ b
more_number a b e f = grind (arith, nat_tests)

module _ (new : ToleranceRow) where
  rising_by : (above : ℕ) (same less : Bool) (row : ToleranceRow) (rows more : List ToleranceRow) → (setting_place row == setting_place new) ≡ same → nat_lt (setting_place new) (setting_place row) ≡ less →
      above ≤ setting_place new → above ≤ setting_place row → AreRising (suc (setting_place row)) rows → (suc (setting_place row) ≤ setting_place new → AreRising (suc (setting_place row)) more) →
      AreRising above (if same then new ∷ rows else (if less then new ∷ row ∷ rows else row ∷ more))
  rising_by above true less row rows more is by low here rest later =
      (low, subst (λ n. AreRising (suc n) rows) (same_number (setting_place row) (setting_place new) is) rest)
  rising_by above false true row rows more is by low here rest later = (low, (less_number (setting_place row) (setting_place new) by, rest))
  rising_by above false false row rows more is by low here rest later = (here, later (more_number (setting_place row) (setting_place new) is by))

  set_rising : (above : ℕ) (rows : List ToleranceRow) → above ≤ setting_place new → AreRising above rows → AreRising above (with_setting new rows)
  set_rising above [] low rising = (low, tt)
  set_rising above (row ∷ rows) low (here, rest) =
      rising_by above (setting_place row == setting_place new) (nat_lt (setting_place new) (setting_place row)) row rows (with_setting new rows) refl refl low here rest
      (λ past. set_rising (suc (setting_place row)) rows past rest)

some_rising : (o : Option ToleranceRow) (rows : List ToleranceRow) → AreRising 0 rows → AreRising 0 (with_some o rows)
some_rising None rows rising = rising
some_rising (Some row) rows rising = set_rising row 0 rows (omega arith) rising

pub beside_rising : (old new : Rows) (made rows : List ToleranceRow) → AreRising 0 made → AreRising 0 (moved_beside old new made rows)
beside_rising old new made [] rising = rising
beside_rising old new made (row ∷ rows) rising = beside_rising old new (with_some (moved_setting old new row) made) rows (some_rising (moved_setting old new row) made rising)

pub can_be_written : (old new : Rows) (matured : Option DayParts) (base made : Base) → IsRoster new → CanBeWritten base → rolled_base old new matured base ≡ Ok made → CanBeWritten made
can_be_written old new matured base made roster can e =
    let is = is_made old new matured base made e in
    let free = All-filter (is_kept old matured) (λ (row : TradeRow). row.frozen ≡ false) base.trades (numbered_free 1 base.trades can.numbered) in
    subst CanBeWritten is.same
    (record {
      few_members = few (length new.members) (length (map (λ (row : MemberRow). row.name) new.members)) (length-map new.members (λ (row : MemberRow). row.name)) (omega (arith, roster.few_members));
      few_products = few (length new.products) (length (map (λ (row : ProductRow). row.name) new.products)) (length-map new.products (λ (row : ProductRow). row.name)) (omega (arith, roster.few_products));
      rising = beside_rising old new [] base.tolerances tt;
      numbered = free_moved old new (filter (is_kept old matured) base.trades) is.trades 1 is.moved free;
    })
  where
    few : (n m : ℕ) → m ≡ n → n ≤ 256 → m < 65536
    few n m e l = omega (arith, e, l)
