-- The trades after a plan: each pair has the amount of its new network.
use Rattle.std.proofs.Common.{◌≡◌, ℕ, ◌+◌, ◌-◌, ◌<◌, ◌≤◌, ◌++◌, ◌&&◌, ◌||◌, not, nat_lt, Bool, true, false, List, [], ◌∷◌, length, map, take, drop, get_or, slice_get, Some, option_map, refl, sym, ap, ◌∙◌, subst, arith, if◌then◌else◌}
use Rattle.std.specs.Prelude.{sum_by, All}
use Rattle.std.proofs.lemmas.List.{append-nil, length-append, length-map, take_at, drop_at}
use Rattle.std.proofs.lemmas.List.Elements.{All-nil, All-cons, All-head, All-tail}
use Rattle.std.proofs.lemmas.List.Sums.{sum_by-cons}
use Rattle.std.proofs.lemmas.Option.{slice_get_within, slice_get-map, get_or_from_slice_get}
use Rattle.units_core.specs.Day.{DayParts}
use Rattle.network_laws.specs.Networks.{NetworkData, at}
use Rattle.command_types.specs.declared.plan.PlanRow.{PlanRow}
use Rattle.command_types.specs.declared.plan.PlanRow.TheVariants.{End, Cut, New}
use Rattle.command_types.specs.declared.trade.TradeRow.{TradeRow}
use Rattle.command_types.specs.Trades.{total_where}
use Rattle.command_types.specs.Books.{is_between, is_held, frozen_network, held_network}
use Rattle.command_types.specs.Plans.{falling, free_rows, pair_plan, plan_from, executed, is_new, count_of, made_row}
use Rattle.pair_table.proofs.PairNetworks.{at-network_by_within}
use Rattle.acceptance.specs.Planning.{is_free_between}
use Rattle.acceptance.specs.FreePlans.{IsFreeStep}
use Rattle.acceptance.specs.Laws.{frozen_sum, pair_sum, IsMade, PlanRealises}
use Rattle.acceptance.specs.Renewals.{AreNumbered, IsRenewal, frozen_networks, renewal_plan, renewed}
use Rattle.acceptance.proofs.RowSteps.{row_after, made_by, executed_behind, numbered_map, after_same}
use Rattle.acceptance.proofs.PlanPieces.{from_all}
use Rattle.acceptance.proofs.PairNetworks.{get_front, frozen_at}
use Rattle.acceptance.proofs.OwnSteps.{after_none}
use Rattle.acceptance.proofs.FreeSteps.{falling_all, steps_free, steps_placed}
use Rattle.acceptance.proofs.PairAmounts.{frozen_part, new_part, frozen_after, made_after, frozen_total, held_and_free, realised_by}

pub sum_map : (f : TradeRow → ℕ) (g : TradeRow → TradeRow) (rows : List TradeRow) → sum_by f (map g rows) ≡ sum_by (λ row. f (g row)) rows
sum_map f g [] = refl
sum_map f g (row ∷ rows) = omega (arith, sum_by-cons f (g row) (map g rows), sum_by-cons (λ r. f (g r)) row rows, sum_map f g rows)

-- the made trades of a pair have what the steps make for it
pub made_sum : (product seller buyer n : ℕ) (plan : List PlanRow) → pair_sum product seller buyer (made_by n plan) ≡ sum_by (new_part product seller buyer) plan
made_sum product seller buyer n [] = refl
made_sum product seller buyer n (End trade ∷ plan) = omega (arith, sum_by-cons (new_part product seller buyer) (End trade) plan, made_sum product seller buyer n plan)
made_sum product seller buyer n (Cut trade from to ∷ plan) = omega (arith, sum_by-cons (new_part product seller buyer) (Cut trade from to) plan, made_sum product seller buyer n plan)
made_sum product seller buyer n (New p s b amount day ∷ plan) =
    omega (
      arith,
      sum_by-cons (new_part product seller buyer) (New p s b amount day) plan,
      sum_by-cons (λ (row : TradeRow). if is_between product seller buyer row then row.amount else 0) (made_row n p s b amount day) (made_by (n + 1) plan),
      made_sum product seller buyer (n + 1) plan,
    )

made_numbered : (n : ℕ) (plan : List PlanRow) → AreNumbered n (made_by n plan)
made_numbered n [] = tt
made_numbered n (End trade ∷ plan) = made_numbered n plan
made_numbered n (Cut trade from to ∷ plan) = made_numbered n plan
made_numbered n (New product seller buyer amount day ∷ plan) = (refl, made_numbered (n + 1) plan)

pub made_size : (n : ℕ) (plan : List PlanRow) → length (made_by n plan) ≡ count_of is_new plan
made_size n [] = refl
made_size n (End trade ∷ plan) = made_size n plan
made_size n (Cut trade from to ∷ plan) = made_size n plan
made_size n (New product seller buyer amount day ∷ plan) = omega (arith, made_size (n + 1) plan)

numbered_append : (n m : ℕ) (xs ys : List TradeRow) → m ≡ n + length xs → AreNumbered n xs → AreNumbered m ys → AreNumbered n (xs ++ ys)
numbered_append n m [] ys e are are' = subst (λ k. AreNumbered k ys) (let e' : m ≡ n = omega arith in e') are'
numbered_append n m (x ∷ xs) ys e (here, later) are' = (here, numbered_append (n + 1) m xs ys (omega arith) later are')

-- the step makes no trade of another day
abbrev IsOfDay : DayParts → PlanRow → Type 0
IsOfDay day (End trade) = Unit {0}
IsOfDay day (Cut trade from to) = Unit {0}
IsOfDay day (New product seller buyer amount on) = on ≡ day

day_by : (day : DayParts) (product seller buyer fall more : ℕ) (free : List TradeRow) (falls grows : Bool) → All (IsOfDay day) (if falls then falling fall free else (if grows then New product seller buyer more day ∷ [] else []))
day_by day product seller buyer fall more free true grows = falling_all (IsOfDay day) fall free (λ k d l. (tt, λ to _ _. tt))
day_by day product seller buyer fall more free false true = All-cons (IsOfDay day) (New product seller buyer more day) [] refl (All-nil (IsOfDay day))
day_by day product seller buyer fall more free false false = All-nil (IsOfDay day)

plan_day : (rows : List TradeRow) (day : DayParts) (olds news : List NetworkData) → All (IsOfDay day) (plan_from rows day 0 olds news)
plan_day rows day olds news =
    from_all rows day (IsOfDay day) 0 olds news (λ m a b old new _ _ _ _.
    day_by day (0 + m) a b (at old a b - at new a b) (at new a b - at old a b) (free_rows rows (0 + m) a b) (nat_lt (at new a b) (at old a b)) (nat_lt (at old a b) (at new a b)))

module _ (members products : ℕ) (rows : List TradeRow) (day : DayParts) where
  abbrev Step : PlanRow → Type 0
  Step = IsFreeStep members products rows

  pub made_good : (n : ℕ) (plan : List PlanRow) → All Step plan → All (IsOfDay day) plan → All (IsMade members products day) (made_by n plan)
  made_good n [] steps days = All-nil (IsMade members products day)
  made_good n (End trade ∷ plan) steps days = made_good n plan (All-tail Step (End trade) plan steps) (All-tail (IsOfDay day) (End trade) plan days)
  made_good n (Cut trade from to ∷ plan) steps days = made_good n plan (All-tail Step (Cut trade from to) plan steps) (All-tail (IsOfDay day) (Cut trade from to) plan days)
  made_good n (New product seller buyer amount on ∷ plan) steps days =
      let new = New product seller buyer amount on in
      let is = All-head Step new plan steps in
      All-cons (IsMade members products day) (made_row n product seller buyer amount on) (made_by (n + 1) plan)
      (record { product = is.in_products; seller = is.in_sellers; buyer = is.in_buyers; different = is.different; amount = is.least; on_day = All-head (IsOfDay day) new plan days; state = refl; submitter = refl; mark = refl; held = refl; frozen = refl })
      (made_good (n + 1) plan (All-tail Step new plan steps) (All-tail (IsOfDay day) new plan days))

module _ (members products : ℕ) (rows : List TradeRow) (new : List NetworkData) (day : DayParts) (is : IsRenewal members products rows new) where
  abbrev the_plan : List PlanRow
  the_plan = renewal_plan members products rows new day

  -- the trades that there were, each changed by itself, and those that the plan makes
  pub renewed_is : renewed members products rows new day ≡ map (row_after the_plan) rows ++ made_by (length rows + 1) the_plan
  renewed_is =
      let placed = steps_placed members products rows the_plan (steps_free members products rows new day is) in
      ap (executed the_plan) (sym (append-nil rows)) ∙ executed_behind the_plan rows [] is.numbered placed
      ∙ ap (λ xs. map (row_after the_plan) rows ++ made_by (length xs + 1) the_plan) (append-nil rows)

  pub first_is : take (length rows) (renewed members products rows new day) ≡ map (row_after the_plan) rows
  first_is = ap (take (length rows)) renewed_is ∙ take_at (map (row_after the_plan) rows) (made_by (length rows + 1) the_plan) (length rows) (length-map rows (row_after the_plan))

  pub last_is : drop (length rows) (renewed members products rows new day) ≡ made_by (length rows + 1) the_plan
  last_is = ap (drop (length rows)) renewed_is ∙ drop_at (map (row_after the_plan) rows) (made_by (length rows + 1) the_plan) (length rows) (length-map rows (row_after the_plan))

  pub plan_made : All (IsMade members products day) (made_by (length rows + 1) the_plan)
  plan_made = made_good members products rows day (length rows + 1) the_plan (steps_free members products rows new day is) (plan_day rows day (frozen_networks members products rows) new)

  -- the frozen trades and the made ones of a pair
  pub pair_realised : (product : ℕ) (network : NetworkData) → slice_get new product ≡ Some network → (seller buyer : ℕ) → seller < members → buyer < members →
      sum_by (λ row. frozen_part product seller buyer (row_after the_plan row)) rows + sum_by (new_part product seller buyer) the_plan ≡ at network seller buyer
  pair_realised product network found seller buyer in_seller in_buyer =
      let within : product < products = omega (arith, slice_get_within new product network found, is.as_many) in
      let old = frozen_network members product rows in
      let olds = frozen_networks members products rows in
      let is_old = frozen_at members products product rows within in
      let now = at old seller buyer in
      let next = at network seller buyer in
      let known : now ≡ total_where (λ row. is_between product seller buyer row && row.frozen) rows = at-network_by_within members seller buyer (λ i j. total_where (λ row. is_between product i j row && row.frozen) rows) in_seller in_buyer in
      let held : at (held_network members product rows) seller buyer ≡ total_where (λ row. is_between product seller buyer row && (row.frozen && is_held row)) rows =
      at-network_by_within members seller buyer (λ i j. total_where (λ row. is_between product i j row && (row.frozen && is_held row)) rows) in_seller in_buyer in
      let fits : now ≤ next + total_where (is_free_between product seller buyer) rows = omega (arith, known, held, held_and_free rows is.live product seller buyer, (is.each product network found).held seller buyer in_seller in_buyer) in
      let pair = realised_by rows is.live product seller buyer day is.numbered now next (known ∙ frozen_total rows is.live product seller buyer) fits (nat_lt next now) (nat_lt now next) refl refl in
      let frozen = frozen_after rows day is.numbered olds new old network product seller buyer is_old found in_seller in_buyer in
      let made = made_after rows day is.numbered olds new old network product seller buyer is_old found in_seller in_buyer in
      ap (λ n. n + sum_by (new_part product seller buyer) the_plan) frozen ∙ ap (λ n. sum_by (λ row. frozen_part product seller buyer (row_after (pair_plan rows day product old network seller buyer) row)) rows + n) made ∙ pair

stand_by : (b f h : Bool) → (not f || h) ≡ true → (b && f && not h) ≡ false
stand_by false f h e = refl
stand_by true false h e = refl
stand_by true true true e = refl
stand_by true true false e = cc

pub plan_realises : PlanRealises
plan_realises members products rows new day is = record {
  pairs = λ product network found seller buyer in_seller in_buyer.
      let plan = renewal_plan members products rows new day in
      ap (λ xs. frozen_sum product seller buyer xs + pair_sum product seller buyer (drop (length rows) (renewed members products rows new day))) (first_is members products rows new day is)
      ∙ ap (λ xs. frozen_sum product seller buyer (map (row_after plan) rows) + pair_sum product seller buyer xs) (last_is members products rows new day is)
      ∙ ap (λ n. n + pair_sum product seller buyer (made_by (length rows + 1) plan)) (sum_map (frozen_part product seller buyer) (row_after plan) rows)
      ∙ ap (λ n. sum_by (λ row. frozen_part product seller buyer (row_after plan row)) rows + n) (made_sum product seller buyer (length rows + 1) plan)
      ∙ pair_realised members products rows new day is product network found seller buyer in_seller in_buyer;
  kept = λ place row found stay.
      let plan = renewal_plan members products rows new day in
      let within = slice_get_within rows place row found in
      let same : get_or rows place row ≡ row = get_or_from_slice_get rows place row row found in
      let stays : row_after plan row ≡ row =
      subst (λ r. row_after plan r ≡ r) same
      (after_none rows day is.numbered place row within (frozen_networks members products rows) new (λ m a b old _ _ _.
      ap (is_free_between m a b) same ∙ stand_by (is_between m a b row) row.frozen (is_held row) stay)) in
      ap (λ xs. slice_get xs place) (renewed_is members products rows new day is)
      ∙ get_front (map (row_after plan) rows) (made_by (length rows + 1) plan) place (omega (arith, length-map rows (row_after plan)))
      ∙ slice_get-map (row_after plan) rows place ∙ ap (λ o. option_map (row_after plan) o) found ∙ ap Some stays;
  numbered = subst (AreNumbered 1) (sym (renewed_is members products rows new day is))
      (numbered_append 1 (length rows + 1) (map (row_after (renewal_plan members products rows new day)) rows) (made_by (length rows + 1) (renewal_plan members products rows new day)) (omega (arith, length-map rows (row_after (renewal_plan members products rows new day))))
      (numbered_map (row_after (renewal_plan members products rows new day)) (λ row. (after_same (renewal_plan members products rows new day) row).number) 1 rows is.numbered) (made_numbered (length rows + 1) (renewal_plan members products rows new day)));
  made = subst (All (IsMade members products day)) (sym (last_is members products rows new day is)) (plan_made members products rows new day is);
  size = ap length (renewed_is members products rows new day is)
      ∙ length-append (map (row_after (renewal_plan members products rows new day)) rows) (made_by (length rows + 1) (renewal_plan members products rows new day))
      ∙ omega (arith, length-map rows (row_after (renewal_plan members products rows new day)), made_size (length rows + 1) (renewal_plan members products rows new day));
}
