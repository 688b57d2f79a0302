-- What a pair's plan makes of its amount.
use Rattle.std.proofs.Common.{◌≡◌, ℕ, ◌+◌, ◌-◌, ◌<◌, ◌≤◌, ◌&&◌, ◌==◌, not, nat_lt, Bool, true, false, cond, eqb, List, [], ◌∷◌, get_or, slice_get, Some, refl, sym, ap, ◌∙◌, arith, ⊎_elim, if◌then◌else◌}
use Rattle.std.specs.Prelude.{filter, nat_le, sum_by, All}
use Rattle.std.proofs.lemmas.Bool.{eq-eqb, ltb-true, ltb-false, eqb-true, false_from_ne_true, cases_Bool, false≢true}
use Rattle.std.proofs.lemmas.List.Sums.{sum_by-cons}
use Rattle.units_core.specs.Day.{DayParts}
use Rattle.network_laws.specs.Networks.{NetworkData, at}
use Rattle.command_types.specs.declared.plan.PlanRow.{PlanRow}
use Rattle.command_types.specs.declared.plan.PlanRow.TheVariants.{End, Cut, New}
use Rattle.command_types.specs.declared.trade.TradeRow.{TradeRow}
use Rattle.command_types.specs.Trades.{is_live, total_where}
use Rattle.command_types.specs.Books.{is_between, is_held}
use Rattle.command_types.specs.Plans.{ended_row, cut_row, falling, free_rows, pair_plan, plan_from}
use Rattle.acceptance.specs.Planning.{is_free_between}
use Rattle.acceptance.specs.Laws.{frozen_sum}
use Rattle.acceptance.specs.Renewals.{AreNumbered, IsLiveIfFrozen}
use Rattle.acceptance.proofs.RowSteps.{row_after, IsSameTrade, after_same}
use Rattle.acceptance.proofs.Falls.{sum_same, falls_by}
use Rattle.acceptance.proofs.PlanPieces.{AreOnlyOf, from_only}
use Rattle.acceptance.proofs.OwnSteps.{all_three, free_parts, after_pair}

-- what a frozen trade has for a pair while it lives
abbrev pub frozen_part : ℕ → ℕ → ℕ → TradeRow → ℕ
frozen_part product seller buyer row = if is_between product seller buyer row && row.frozen && is_live row.state then row.amount else 0

pub sum_add : {X : Type 0} (f g h : X → ℕ) (xs : List X) → ((x : X) → f x ≡ g x + h x) → sum_by f xs ≡ sum_by g xs + sum_by h xs
sum_add f g h [] each = refl
sum_add f g h (x ∷ xs) each = omega (arith, sum_by-cons f x xs, sum_by-cons g x xs, sum_by-cons h x xs, each x, sum_add f g h xs each)

sum_filter_by : {X : Type 0} (w : X → ℕ) (x : X) (xs ys : List X) (b : Bool) → (b ≡ false → w x ≡ 0) → sum_by w xs ≡ sum_by w ys → sum_by w (x ∷ xs) ≡ sum_by w (cond b (x ∷ ys) ys)
sum_filter_by w x xs ys true none same = omega (arith, sum_by-cons w x xs, sum_by-cons w x ys, same)
sum_filter_by w x xs ys false none same = omega (arith, sum_by-cons w x xs, none refl, same)

-- those that count nothing may be left out
sum_filter : {X : Type 0} (q : X → Bool) (w : X → ℕ) (xs : List X) → ((x : X) → q x ≡ false → w x ≡ 0) → sum_by w xs ≡ sum_by w (filter q xs)
sum_filter q w [] none = refl
sum_filter q w (x ∷ xs) none = sum_filter_by w x xs (filter q xs) (q x) (none x) (sum_filter q w xs none)

-- what a step makes for a pair
abbrev pub is_new_between : ℕ → ℕ → ℕ → PlanRow → Bool
is_new_between product seller buyer (End trade) = false
is_new_between product seller buyer (Cut trade from to) = false
is_new_between product seller buyer (New p s b amount day) = (p == product) && (s == seller) && (b == buyer)

abbrev pub new_part : ℕ → ℕ → ℕ → PlanRow → ℕ
new_part product seller buyer (End trade) = 0
new_part product seller buyer (Cut trade from to) = 0
new_part product seller buyer (New p s b amount day) = if (p == product) && (s == seller) && (b == buyer) then amount else 0

module _ (product seller buyer : ℕ) where
  abbrev Makes : PlanRow → Bool
  Makes step = is_new_between product seller buyer step

  not_new : (step : PlanRow) → Makes step ≡ false → new_part product seller buyer step ≡ 0
  not_new (End trade) e = refl
  not_new (Cut trade from to) e = refl
  not_new (New p s b amount day) e = ap (λ t. if t then amount else 0) e

  pub made_where : (plan : List PlanRow) → sum_by (new_part product seller buyer) plan ≡ sum_by (new_part product seller buyer) (filter (is_new_between product seller buyer) plan)
  made_where plan = sum_filter (is_new_between product seller buyer) (new_part product seller buyer) plan not_new

  falling_by : (fall : ℕ) (row : TradeRow) (rest : List PlanRow) (none fits : Bool) → filter (is_new_between product seller buyer) rest ≡ [] →
      filter (is_new_between product seller buyer) (cond none [] (cond fits (End row.number ∷ rest) (Cut row.number row.amount (row.amount - fall) ∷ []))) ≡ []
  falling_by fall row rest true fits e = refl
  falling_by fall row rest false true e = e
  falling_by fall row rest false false e = refl

  falling_makes_none : (fall : ℕ) (rows : List TradeRow) → filter (is_new_between product seller buyer) (falling fall rows) ≡ []
  falling_makes_none fall [] = refl
  falling_makes_none fall (row ∷ rows) =
      falling_by fall row (falling (fall - row.amount) rows) (eqb fall 0) (nat_le row.amount fall) (falling_makes_none (fall - row.amount) rows)

  other_by : (r a b fall more : ℕ) (day : DayParts) (free : List TradeRow) (falls grows : Bool) → ((r == product) && (a == seller) && (b == buyer)) ≡ false →
      filter (is_new_between product seller buyer) (if falls then falling fall free else (if grows then New r a b more day ∷ [] else [])) ≡ []
  other_by r a b fall more day free true grows e = falling_makes_none fall free
  other_by r a b fall more day free false true e = ap (λ t. cond t (New r a b more day ∷ []) []) e
  other_by r a b fall more day free false false e = refl

  only_own : (rows : List TradeRow) (day : DayParts) → AreOnlyOf rows day (is_new_between product seller buyer) product seller buyer
  only_own rows day r a b old new other =
      other_by r a b (at old a b - at new a b) (at new a b - at old a b) day (free_rows rows r a b) (nat_lt (at new a b) (at old a b)) (nat_lt (at old a b) (at new a b))
      (false_from_ne_true ((r == product) && (a == seller) && (b == buyer)) (λ e.
      let parts = all_three (r == product) (a == seller) (b == buyer) e in
      other (eqb-true r product parts.0) (eqb-true a seller parts.1) (eqb-true b buyer parts.2)))

  same_between : (old new : TradeRow) → IsSameTrade old new → is_between product seller buyer new ≡ is_between product seller buyer old
  same_between old new h = rw (h.product, h.seller, h.buyer) refl

  off_by : (b f l : Bool) (amount : ℕ) → b ≡ false → (if b && f && l then amount else 0) ≡ 0
  off_by false f l amount e = refl
  off_by true f l amount e = cc

  part_off : (old new : TradeRow) → IsSameTrade old new → is_between product seller buyer old ≡ false → frozen_part product seller buyer new ≡ 0
  part_off old new h e = off_by (is_between product seller buyer new) new.frozen (is_live new.state) new.amount (same_between old new h ∙ e)

module _ (rows : List TradeRow) (day : DayParts) (are : AreNumbered 1 rows) (olds news : List NetworkData) (old new : NetworkData) (product seller buyer : ℕ) (is_old : slice_get olds product ≡ Some old) (is_new : slice_get news product ≡ Some new) (in_seller : seller < old.members) (in_buyer : buyer < old.members) where
  -- the frozen trades of a pair after the whole plan have what they have after the plan of the pair
  pub frozen_after : sum_by (λ row. frozen_part product seller buyer (row_after (plan_from rows day 0 olds news) row)) rows ≡ sum_by (λ row. frozen_part product seller buyer (row_after (pair_plan rows day product old new seller buyer) row)) rows
  frozen_after =
      let plan = plan_from rows day 0 olds news in
      let pair = pair_plan rows day product old new seller buyer in
      let part = frozen_part product seller buyer in
      sum_same (λ row. part (row_after plan row)) (λ row. part (row_after pair row)) rows (λ k d l.
      let row = get_or rows k d in
      ⊎_elim (λ (own : is_between product seller buyer row ≡ true).
      ap part (after_pair rows day are k d l olds news old new product seller buyer is_old is_new in_seller in_buyer own))
      (λ (off : is_between product seller buyer row ≡ false).
      part_off product seller buyer row (row_after plan row) (after_same plan row) off ∙ sym (part_off product seller buyer row (row_after pair row) (after_same pair row) off))
      (cases_Bool (is_between product seller buyer row)))

  -- and so with the trades that are made for it
  pub made_after : sum_by (new_part product seller buyer) (plan_from rows day 0 olds news) ≡ sum_by (new_part product seller buyer) (pair_plan rows day product old new seller buyer)
  made_after =
      made_where product seller buyer (plan_from rows day 0 olds news)
      ∙ ap (sum_by (new_part product seller buyer)) (from_only rows day (is_new_between product seller buyer) 0 product product seller buyer olds news old new (omega arith) is_old is_new in_seller in_buyer (only_own product seller buyer rows day))
      ∙ sym (made_where product seller buyer (pair_plan rows day product old new seller buyer))

all_true : (a b c : Bool) → a ≡ true → b ≡ true → c ≡ true → (a && b && c) ≡ true
all_true a b c e e' e'' = rw (e, e', e'') refl

ended_by : (a b : Bool) (amount : ℕ) → (if a && b && false then amount else 0) ≡ 0
ended_by true true amount = refl
ended_by true false amount = refl
ended_by false b amount = refl

live_by : (a f l : Bool) (amount : ℕ) → (f ≡ true → l ≡ true) → (if a && f then amount else 0) ≡ (if a && f && l then amount else 0)
live_by false f l amount h = refl
live_by true false l amount h = refl
live_by true true true amount h = refl
live_by true true false amount h = absurd (false≢true (h refl))

held_by : (a f h : Bool) (amount : ℕ) → (if a && f then amount else 0) ≡ (if a && (f && h) then amount else 0) + (if a && f && not h then amount else 0)
held_by false f h amount = refl
held_by true false h amount = refl
held_by true true true amount = omega arith
held_by true true false amount = omega arith

module _ (rows : List TradeRow) (live : All IsLiveIfFrozen rows) (product seller buyer : ℕ) where
  part_live : (row : TradeRow) → IsLiveIfFrozen row → is_free_between product seller buyer row ≡ true → frozen_part product seller buyer row ≡ row.amount
  part_live row is free =
      let parts = free_parts product seller buyer row free in
      ap (λ b. if b then row.amount else 0) (all_true (is_between product seller buyer row) row.frozen (is_live row.state) parts.0 parts.1 (is parts.1))

  part_ended : (row : TradeRow) → frozen_part product seller buyer (ended_row row) ≡ 0
  part_ended row = ended_by (is_between product seller buyer row) row.frozen row.amount

  part_cut : (row : TradeRow) (amount : ℕ) → IsLiveIfFrozen row → is_free_between product seller buyer row ≡ true → frozen_part product seller buyer (cut_row amount row) ≡ amount
  part_cut row amount is free =
      let parts = free_parts product seller buyer row free in
      ap (λ b. if b then amount else 0) (all_true (is_between product seller buyer row) row.frozen (is_live row.state) parts.0 parts.1 (is parts.1))

  -- the frozen trades of a pair are all live
  pub frozen_total : total_where (λ row. is_between product seller buyer row && row.frozen) rows ≡ frozen_sum product seller buyer rows
  frozen_total =
      sum_same (λ row. if is_between product seller buyer row && row.frozen then row.amount else 0) (frozen_part product seller buyer) rows (λ k d l.
      let row = get_or rows k d in
      live_by (is_between product seller buyer row) row.frozen (is_live row.state) row.amount (live k d l))

  -- each is held or free
  pub held_and_free : total_where (λ row. is_between product seller buyer row && row.frozen) rows ≡ total_where (λ row. is_between product seller buyer row && (row.frozen && is_held row)) rows + total_where (is_free_between product seller buyer) rows
  held_and_free =
      sum_add (λ row. if is_between product seller buyer row && row.frozen then row.amount else 0) (λ row. if is_between product seller buyer row && (row.frozen && is_held row) then row.amount else 0)
      (λ row. if is_free_between product seller buyer row then row.amount else 0) rows (λ row. held_by (is_between product seller buyer row) row.frozen (is_held row) row.amount)

  module _ (day : DayParts) (are : AreNumbered 1 rows) (now next : ℕ) (is_now : now ≡ frozen_sum product seller buyer rows) (fits : now ≤ next + total_where (is_free_between product seller buyer) rows) where
    abbrev steps : Bool → Bool → List PlanRow
    steps falls grows =
        if falls then falling (now - next) (free_rows rows product seller buyer) else (if grows then New product seller buyer (next - now) day ∷ [] else [])

    abbrev made_of : Bool → Bool → ℕ
    made_of falls grows = sum_by (new_part product seller buyer) (steps falls grows)

    -- the plan of a pair gives it its new amount
    pub realised_by : (falls grows : Bool) → nat_lt next now ≡ falls → nat_lt now next ≡ grows → sum_by (λ row. frozen_part product seller buyer (row_after (steps falls grows) row)) rows + made_of falls grows ≡ next
    realised_by true grows e e' =
        let less = ltb-true next now e in
        let fallen = falls_by (frozen_part product seller buyer) (is_free_between product seller buyer) IsLiveIfFrozen part_live (λ row _. part_ended row) part_cut 1 (now - next) rows are live (omega arith) in
        let none : made_of true grows ≡ 0 = made_where product seller buyer (steps true grows) ∙ ap (sum_by (new_part product seller buyer)) (falling_makes_none product seller buyer (now - next) (free_rows rows product seller buyer)) in
        omega (arith, fallen, none, is_now, less)
    realised_by false true e e' =
        let more = ltb-true now next e' in
        let test : ((product == product) && (seller == seller) && (buyer == buyer)) ≡ true = all_true (product == product) (seller == seller) (buyer == buyer) (eq-eqb product product refl) (eq-eqb seller seller refl) (eq-eqb buyer buyer refl) in
        let one : made_of false true ≡ next - now = ap (λ b. 0 + (if b then next - now else 0)) test ∙ (let z : 0 + (next - now) ≡ next - now = omega arith in z) in
        let same : sum_by (λ row. frozen_part product seller buyer (row_after (steps false true) row)) rows ≡ frozen_sum product seller buyer rows = refl in
        omega (arith, same, one, is_now, more)
    realised_by false false e e' =
        let least = ltb-false next now e in
        let most = ltb-false now next e' in
        let same : sum_by (λ row. frozen_part product seller buyer (row_after (steps false false) row)) rows ≡ frozen_sum product seller buyer rows = refl in
        omega (arith, same, is_now, least, most)
