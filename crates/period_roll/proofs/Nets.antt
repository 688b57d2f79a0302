-- What members owe and are owed, by their names, is the same over the new roster.
use Rattle.std.proofs.Common.{◌≡◌, ℕ, ◌==◌, ◌&&◌, not, Bool, true, false, List, filter, sum_by, Option, Some, None, Ok, if◌then◌else◌, refl, sym, ap, ◌∙◌, subst}
use Rattle.std.specs.Prelude.{pos, ◌-ℤ◌}
use Rattle.std.proofs.lemmas.Bool.{eqb-true}
use Rattle.units_core.specs.Day.{DayParts}
use Rattle.command_types.specs.declared.base.Base.{Base}
use Rattle.command_types.specs.declared.trade.TradeRow.{TradeRow}
use Rattle.command_types.specs.declared.trade.TradeState.{TradeState}
use Rattle.command_types.specs.declared.trade.TradeState.TheVariants.{Alleged, Live, Ended}
use Rattle.command_types.specs.Roster.{Rows, IsRoster, member_place, product_place}
use Rattle.command_types.specs.Trades.{counts, is_live}
use Rattle.period_roll.specs.Trades.{is_kept, is_left_out, moved_trades, numbered_from}
use Rattle.period_roll.specs.Rolls.{rolled_base}
use Rattle.period_roll.specs.Laws.{sold_at, bought_at, is_out_at, is_out, KeepsPosition}
use Rattle.period_roll.proofs.Found.{is_found, member_same, product_same}
use Rattle.period_roll.proofs.Moved.{IsMoved, is_made}
use Rattle.period_roll.proofs.Sums.{sums_none, sums_filtered, sums_moved, sums_numbered}

-- what a trade adds to a sum over a product and, of its two parties, the one that is looked at
abbrev pub part_of : (TradeRow → ℕ) → Option ℕ → Option ℕ → TradeRow → ℕ
part_of party product member row = if is_found product row.product && is_live row.state && is_found member (party row) then row.amount else 0

abbrev pub seller_of : TradeRow → ℕ
seller_of row = row.seller

abbrev pub buyer_of : TradeRow → ℕ
buyer_of row = row.buyer

no_party : (party : TradeRow → ℕ) (product : ℕ) (row : TradeRow) → part_of party (Some product) None row ≡ 0
no_party party product row = by (row.product == product) (is_live row.state)
  where
    by : (a b : Bool) → (if a && b && false then row.amount else 0) ≡ 0
    by true true = refl
    by true false = refl
    by false b = refl

sold_sum : (trades : List TradeRow) (product member : Option ℕ) → sold_at trades product member ≡ sum_by (part_of seller_of product member) trades
sold_sum trades (Some product) (Some member) = refl
sold_sum trades (Some product) None = sym (sums_none (part_of seller_of (Some product) None) (no_party seller_of product) trades)
sold_sum trades None member = sym (sums_none (part_of seller_of None member) (λ row. refl) trades)

bought_sum : (trades : List TradeRow) (product member : Option ℕ) → bought_at trades product member ≡ sum_by (part_of buyer_of product member) trades
bought_sum trades (Some product) (Some member) = refl
bought_sum trades (Some product) None = sym (sums_none (part_of buyer_of (Some product) None) (no_party buyer_of product) trades)
bought_sum trades None member = sym (sums_none (part_of buyer_of None member) (λ row. refl) trades)

-- a trade that does not go along adds nothing
ended_adds_none : (state : TradeState) → counts state ≡ false → is_live state ≡ false
ended_adds_none Alleged e = absurd cc
ended_adds_none Live e = absurd cc
ended_adds_none Ended e = refl

module _ (old : Rows) (matured : Option DayParts) (product : Option ℕ) where
  -- a product that is left out is not one that is not
  other_product : (out : Bool) (place : ℕ) → is_out_at old matured product ≡ out → is_left_out old matured place ≡ not out → is_found product place ≡ false
  other_product out place is other = by product is
    where
      differ : (t : Bool) → t ≡ out → t ≡ not out → ⊥
      differ true e f = apart out (sym e) (sym f)
        where
          apart : (b : Bool) → b ≡ true → not b ≡ true → ⊥
          apart true e f = absurd cc
          apart false e f = absurd cc
      differ false e f = apart out (sym e) (sym f)
        where
          apart : (b : Bool) → b ≡ false → not b ≡ false → ⊥
          apart true e f = absurd cc
          apart false e f = absurd cc

      by : (o : Option ℕ) → is_out_at old matured o ≡ out → is_found o place ≡ false
      by None e = refl
      by (Some found) e = same (place == found) refl
        where
          same : (t : Bool) → (place == found) ≡ t → t ≡ false
          same false q = refl
          same true q = absurd (differ (is_left_out old matured place) (ap (is_left_out old matured) (eqb-true place found q) ∙ e) other)

  module _ (party : TradeRow → ℕ) (member : Option ℕ) where
    abbrev added : Bool → Bool → Bool → TradeRow → ℕ
    added found live is row = if found && live && is then row.amount else 0

    -- of a product that is not left out each trade that adds something goes along
    all_added : is_out_at old matured product ≡ false → (row : TradeRow) → (if is_kept old matured row then part_of party product member row else 0) ≡ part_of party product member row
    all_added stays row = by (counts row.state) (is_left_out old matured row.product) refl refl
      where
        by : (t out : Bool) → counts row.state ≡ t → is_left_out old matured row.product ≡ out → (if t && not out then part_of party product member row else 0) ≡ part_of party product member row
        by true false e f = refl
        by true true e f = ap (λ b. added b (is_live row.state) (is_found member (party row)) row) (sym (other_product false row.product stays f))
        by false out e f = sym (none (is_found product row.product) (is_live row.state) (ended_adds_none row.state e))
          where
            none : (found live : Bool) → live ≡ false → added found live (is_found member (party row)) row ≡ 0
            none true true e = absurd cc
            none true false e = refl
            none false live e = refl

    -- of one that is left out none goes along
    none_added : is_out_at old matured product ≡ true → (row : TradeRow) → (if is_kept old matured row then part_of party product member row else 0) ≡ 0
    none_added out row = by (counts row.state) (is_left_out old matured row.product) refl
      where
        by : (t out_too : Bool) → is_left_out old matured row.product ≡ out_too → (if t && not out_too then part_of party product member row else 0) ≡ 0
        by true false f = ap (λ b. added b (is_live row.state) (is_found member (party row)) row) (other_product true row.product out f)
        by true true f = refl
        by false out_too f = refl

module _ (old new : Rows) (matured : Option DayParts) (roster : IsRoster old) (before trades : List TradeRow) (moved : moved_trades old new (filter (is_kept old matured) before) ≡ Ok trades) (product member : List ℕ) where
  module _ (party : TradeRow → ℕ) (same : (row other : TradeRow) → IsMoved old new row other → is_found (member_place old member) (party row) ≡ is_found (member_place new member) (party other))
      (blind : (row : TradeRow) (n : ℕ) → party (record row { number = n }) ≡ party row) where
    abbrev part_before : TradeRow → ℕ
    part_before = part_of party (product_place old product) (member_place old member)

    abbrev part_after : TradeRow → ℕ
    part_after = part_of party (product_place new product) (member_place new member)

    one_same : (row other : TradeRow) → IsMoved old new row other → part_after other ≡ part_before row
    one_same row other is =
        (λ j. if is_found (product_place new product) other.product && is_live (is.same j).state && is_found (member_place new member) (party other) then (is.same j).amount else 0)
        ∙ (λ j. if sym (product_same old new row.product other.product roster is.product product) j && is_live row.state && sym (same row other is) j then row.amount else 0)

    sum_after : sum_by part_after (numbered_from 1 trades) ≡ sum_by part_before (filter (is_kept old matured) before)
    sum_after =
        sums_numbered part_after (λ row n. ap (λ k. if is_found (product_place new product) row.product && is_live row.state && is_found (member_place new member) k then row.amount else 0) (blind row n)) 1 trades
        ∙ sums_moved old new part_before part_after one_same (filter (is_kept old matured) before) trades moved

    pub sum_same : is_out old matured product ≡ false → sum_by part_after (numbered_from 1 trades) ≡ sum_by part_before before
    sum_same stays =
        sum_after ∙ sums_filtered (is_kept old matured) part_before part_before (all_added old matured (product_place old product) party (member_place old member) stays) before

    pub sum_none : is_out old matured product ≡ true → sum_by part_after (numbered_from 1 trades) ≡ 0
    sum_none out =
        sum_after ∙ sums_filtered (is_kept old matured) part_before (λ row. 0) (none_added old matured (product_place old product) party (member_place old member) out) before
        ∙ sums_none (λ row. 0) (λ row. refl) before

  seller_same : (row other : TradeRow) → IsMoved old new row other → is_found (member_place old member) (seller_of row) ≡ is_found (member_place new member) (seller_of other)
  seller_same row other is = member_same old new row.seller other.seller roster is.seller member

  buyer_same : (row other : TradeRow) → IsMoved old new row other → is_found (member_place old member) (buyer_of row) ≡ is_found (member_place new member) (buyer_of other)
  buyer_same row other is = member_same old new row.buyer other.buyer roster is.buyer member

  pub keeps_position : KeepsPosition old new matured before (numbered_from 1 trades) product member
  keeps_position =
      let after = numbered_from 1 trades in
      let sold : sold_at after (product_place new product) (member_place new member) ≡ sum_by (part_of seller_of (product_place new product) (member_place new member)) after =
      sold_sum after (product_place new product) (member_place new member) in
      let bought : bought_at after (product_place new product) (member_place new member) ≡ sum_by (part_of buyer_of (product_place new product) (member_place new member)) after =
      bought_sum after (product_place new product) (member_place new member) in
      let owed = λ (stays : is_out old matured product ≡ false). sold ∙ sum_same seller_of seller_same (λ row n. refl) stays ∙ sym (sold_sum before (product_place old product) (member_place old member)) in
      let due = λ (stays : is_out old matured product ≡ false). bought ∙ sum_same buyer_of buyer_same (λ row n. refl) stays ∙ sym (bought_sum before (product_place old product) (member_place old member)) in
      record {
        owed = owed;
        due = due;
        net = λ stays j. pos (owed stays j) -ℤ pos (due stays j);
        none = λ out. (λ j. pos ((sold ∙ sum_none seller_of seller_same (λ row n. refl) out) j) -ℤ pos ((bought ∙ sum_none buyer_of buyer_same (λ row n. refl) out) j));
      }

pub rolled_keeps : (old new : Rows) (matured : Option DayParts) (base made : Base) → IsRoster old → rolled_base old new matured base ≡ Ok made →
    (product member : List ℕ) → KeepsPosition old new matured base.trades made.trades product member
rolled_keeps old new matured base made roster e product member =
    let is = is_made old new matured base made e in
    let kept = keeps_position old new matured roster base.trades is.trades is.moved product member in
    subst (λ (b : Base). KeepsPosition old new matured base.trades b.trades product member) is.same kept
