-- The steps of a plan that are of one trade: those of its own pair.
use Rattle.std.proofs.Common.{◌≡◌, ℕ, ◌+◌, ◌-◌, ◌<◌, ◌&&◌, ◌==◌, not, nat_lt, Bool, true, false, List, [], ◌∷◌, length, get_or, slice_get, Some, refl, sym, ap, ◌∙◌, arith, if◌then◌else◌}
use Rattle.std.specs.Prelude.{filter}
use Rattle.std.proofs.lemmas.Bool.{eqb-true, not-true, false_from_ne_true}
use Rattle.units_core.specs.Day.{DayParts}
use Rattle.network_laws.specs.Networks.{NetworkData, at}
use Rattle.command_types.specs.declared.plan.PlanRow.TheVariants.{New}
use Rattle.command_types.specs.declared.trade.TradeRow.{TradeRow}
use Rattle.command_types.specs.Books.{is_between, is_held}
use Rattle.command_types.specs.Plans.{falling, free_rows, pair_plan, plan_from}
use Rattle.acceptance.specs.Planning.{is_free_between}
use Rattle.acceptance.specs.Renewals.{AreNumbered}
use Rattle.acceptance.proofs.RowSteps.{is_of, row_after, after_own}
use Rattle.acceptance.proofs.Falls.{HasNone, numbered_at, none_passing, falling_other, unnamed}
use Rattle.acceptance.proofs.PlanPieces.{AreOnlyOf, from_none, from_only}

pub all_three : (a b c : Bool) → (a && b && c) ≡ true → (a ≡ true) × (b ≡ true) × (c ≡ true)
all_three true true true e = (refl, refl, refl)
all_three true true false e = cc
all_three true false c e = cc
all_three false b c e = cc

pub between_parts : (product seller buyer : ℕ) (row : TradeRow) → is_between product seller buyer row ≡ true → (row.product ≡ product) × (row.seller ≡ seller) × (row.buyer ≡ buyer)
between_parts product seller buyer row e =
    let parts = all_three (row.product == product) (row.seller == seller) (row.buyer == buyer) e in
    (eqb-true row.product product parts.0, eqb-true row.seller seller parts.1, eqb-true row.buyer buyer parts.2)

pub free_parts : (product seller buyer : ℕ) (row : TradeRow) → is_free_between product seller buyer row ≡ true → (is_between product seller buyer row ≡ true) × (row.frozen ≡ true) × (is_held row ≡ false)
free_parts product seller buyer row e =
    let parts = all_three (is_between product seller buyer row) row.frozen (not (is_held row)) e in
    (parts.0, parts.1, not-true (is_held row) parts.2)

pair_by : (t product seller buyer fall more : ℕ) (day : DayParts) (free : List TradeRow) (falls grows : Bool) → HasNone t free →
    filter (is_of t) (if falls then falling fall free else (if grows then New product seller buyer more day ∷ [] else [])) ≡ []
pair_by t product seller buyer fall more day free true grows none = falling_other t fall free none
pair_by t product seller buyer fall more day free false true none = refl
pair_by t product seller buyer fall more day free false false none = refl

pub pair_other : (rows : List TradeRow) (day : DayParts) (t product seller buyer : ℕ) (old new : NetworkData) → HasNone t (free_rows rows product seller buyer) → filter (is_of t) (pair_plan rows day product old new seller buyer) ≡ []
pair_other rows day t product seller buyer old new none =
    pair_by t product seller buyer (at old seller buyer - at new seller buyer) (at new seller buyer - at old seller buyer) day (free_rows rows product seller buyer)
    (nat_lt (at new seller buyer) (at old seller buyer)) (nat_lt (at old seller buyer) (at new seller buyer)) none

-- a trade's own steps are those of its pair
pub own_pair : (rows : List TradeRow) (day : DayParts) (k : ℕ) (d : TradeRow) → AreNumbered 1 rows → k < length rows →
    AreOnlyOf rows day (is_of (1 + k)) (get_or rows k d).product (get_or rows k d).seller (get_or rows k d).buyer
own_pair rows day k d are l r a b old new other =
    let row = get_or rows k d in
    pair_other rows day (1 + k) r a b old new
    (none_passing (is_free_between r a b) 1 k d rows are l
    (false_from_ne_true (is_free_between r a b row) (λ e.
    let parts = between_parts r a b row (free_parts r a b row e).0 in
    other (sym parts.0) (sym parts.1) (sym parts.2))))

module _ (rows : List TradeRow) (day : DayParts) (are : AreNumbered 1 rows) (k : ℕ) (d : TradeRow) (within : k < length rows) where
  -- the plan does to a trade what the plan of its pair does
  pub after_pair : (olds news : List NetworkData) (old new : NetworkData) (product seller buyer : ℕ) → slice_get olds product ≡ Some old → slice_get news product ≡ Some new → seller < old.members → buyer < old.members → is_between product seller buyer (get_or rows k d) ≡ true →
      row_after (plan_from rows day 0 olds news) (get_or rows k d) ≡ row_after (pair_plan rows day product old new seller buyer) (get_or rows k d)
  after_pair olds news old new product seller buyer is_old is_new in_seller in_buyer between =
      let row = get_or rows k d in
      let parts = between_parts product seller buyer row between in
      let number : row.number ≡ 1 + k = numbered_at 1 rows are k d within in
      let only : AreOnlyOf rows day (is_of (1 + k)) product seller buyer =
      λ r a b o w other. own_pair rows day k d are within r a b o w (λ e e' e''. other (e ∙ parts.0) (e' ∙ parts.1) (e'' ∙ parts.2)) in
      after_own (plan_from rows day 0 olds news) (1 + k) row number
      ∙ ap (λ xs. row_after xs row) (from_only rows day (is_of (1 + k)) 0 product product seller buyer olds news old new (omega arith) is_old is_new in_seller in_buyer only)
      ∙ sym (after_own (pair_plan rows day product old new seller buyer) (1 + k) row number)

  -- a trade that is free in no pair that there is stays as it is
  pub after_none : (olds news : List NetworkData) → ((m a b : ℕ) (old : NetworkData) → slice_get olds m ≡ Some old → a < old.members → b < old.members → is_free_between m a b (get_or rows k d) ≡ false) →
      row_after (plan_from rows day 0 olds news) (get_or rows k d) ≡ get_or rows k d
  after_none olds news none =
      let row = get_or rows k d in
      unnamed (plan_from rows day 0 olds news) row (1 + k) (numbered_at 1 rows are k d within)
      (from_none rows day (is_of (1 + k)) 0 olds news (λ m a b old new is_old in_a in_b.
      let e : 0 + m ≡ m = omega arith in
      pair_other rows day (1 + k) (0 + m) a b old new
      (none_passing (is_free_between (0 + m) a b) 1 k d rows are within (ap (λ n. is_free_between n a b row) e ∙ none m a b old is_old in_a in_b))))
