-- Positions and the gross after a plan.
use Rattle.std.proofs.Common.{◌≡◌, ◌≢◌, ℕ, zero, suc, ◌+◌, ◌<◌, ◌≤◌, ◌&&◌, ◌==◌, Bool, true, false, List, [], ◌∷◌, length, get_or, slice_get, Option, Some, None, MatchOption, refl, sym, ap, ◌∙◌, subst, arith, inl, inr, ⊎_elim, if◌then◌else◌}
use Rattle.std.specs.Prelude.{sum_by}
use Rattle.std.proofs.lemmas.Bool.{cases_eq, cases_lt, ne_eqb}
use Rattle.std.proofs.lemmas.List.Elements.{All-weaker}
use Rattle.std.proofs.lemmas.Int.{ints}
use Rattle.units_core.specs.Day.{DayParts}
use Rattle.network_laws.specs.Networks.{NetworkData, AreInRange, gross, sold, bought}
use Rattle.network_laws.proofs.RowOrder.{sum_by-none}
use Rattle.command_types.specs.declared.plan.PlanRow.{PlanRow}
use Rattle.command_types.specs.declared.plan.PlanRow.TheVariants.{End, Cut, New}
use Rattle.command_types.specs.declared.trade.TradeRow.{TradeRow}
use Rattle.command_types.specs.Trades.{counts, is_live, trade_numbered, total_where, sold_by, bought_by, gross_of}
use Rattle.command_types.specs.Books.{is_between, frozen_network}
use Rattle.command_types.specs.Execution.{IsLiveTrade, MayFall, IsStep}
use Rattle.acceptance.specs.FreePlans.{IsFree, IsCutting, IsFreeStep}
use Rattle.acceptance.specs.Laws.{NetsStay, GrossFollows, PlanIsExecutable}
use Rattle.acceptance.specs.Renewals.{IsRenewal, renewal_plan, renewed}
use Rattle.acceptance.proofs.RowSteps.{row_after, made_by, after_same}
use Rattle.acceptance.proofs.Falls.{sum_same}
use Rattle.acceptance.proofs.OnceEach.{plan_is_free}
use Rattle.acceptance.proofs.Realised.{plan_made}
use Rattle.acceptance.proofs.PairTotals.{gross_passing, sold_passing, bought_passing, network_in_range, good_in_range}
use Rattle.acceptance.proofs.Positions.{part_where, stays, renewed_sum, sum_moves}

module _ (members products : ℕ) (rows : List TradeRow) (new : List NetworkData) (day : DayParts) (is : IsRenewal members products rows new) (product : ℕ) where
  abbrev after : List TradeRow
  after = renewed members products rows new day

  abbrev old : NetworkData
  old = frozen_network members product rows

  old_in_range : AreInRange members old.rows
  old_in_range = network_in_range members (λ i j. total_where (λ row. is_between product i j row && row.frozen) rows)

  new_in_range : (network : NetworkData) → slice_get new product ≡ Some network → AreInRange members network.rows
  new_in_range network found =
      let each = is.each product network found in
      subst (λ n. AreInRange n network.rows) each.size (good_in_range network.members network.rows each.network.rows.good)

  pub sold_moves : (network : NetworkData) → slice_get new product ≡ Some network → (member : ℕ) → member < members → sold_by product member after + sold old member ≡ sold_by product member rows + sold network member
  sold_moves network found member within =
      omega (
        arith,
        sum_moves members products rows new day is is_live refl refl (λ i j. i == member) product network found,
        sold_passing old members old_in_range member within,
        sold_passing network members (new_in_range network found) member within,
      )

  pub bought_moves : (network : NetworkData) → slice_get new product ≡ Some network → (member : ℕ) → member < members → bought_by product member after + bought old member ≡ bought_by product member rows + bought network member
  bought_moves network found member within =
      omega (
        arith,
        sum_moves members products rows new day is is_live refl refl (λ i j. j == member) product network found,
        bought_passing old members old_in_range member within,
        bought_passing network members (new_in_range network found) member within,
      )

  abbrev gross_part : TradeRow → ℕ
  gross_part row = part_where counts (λ i j. true) product row

  gross_is : (rows : List TradeRow) → gross_of product rows ≡ sum_by gross_part rows
  gross_is rows = sum_same (λ row. if (row.product == product) && counts row.state then row.amount else 0) gross_part rows (λ k d l.
      let row = get_or rows k d in
      by (row.product == product) (counts row.state) row.amount)
    where
      by : (p c : Bool) (amount : ℕ) → (if p && c then amount else 0) ≡ (if p && c && true then amount else 0)
      by true true amount = refl
      by true false amount = refl
      by false c amount = refl

  pub gross_moves : (network : NetworkData) → slice_get new product ≡ Some network → gross_of product after + gross old ≡ gross_of product rows + gross network
  gross_moves network found =
      omega (
        arith,
        sum_moves members products rows new day is counts refl refl (λ i j. true) product network found,
        gross_passing old members old_in_range,
        gross_passing network members (new_in_range network found),
        gross_is rows,
        gross_is after,
      )

  off : (row : TradeRow) → row.product ≢ product → gross_part row ≡ 0
  off row ne = ap (λ b. if b && counts row.state && true then row.amount else 0) (ne_eqb row.product product ne)

  -- no other product's gross changes
  pub gross_past : products ≤ product → gross_of product after ≡ gross_of product rows
  gross_past past =
      let plan = renewal_plan members products rows new day in
      let made = made_by (length rows + 1) plan in
      omega (
        arith,
        gross_is rows,
        gross_is after,
        renewed_sum members products rows new day is counts refl refl (λ i j. true) product,
        sum_same (λ row. gross_part (row_after plan row)) gross_part rows (λ k d l.
            let row = get_or rows k d in
            ⊎_elim (λ (e : row.product ≡ product). ap gross_part (stays members products rows new day is k d l (inr (inl (omega (arith, e, past))))))
            (λ (ne : row.product ≢ product). off (row_after plan row) (λ e. ne (sym (after_same plan row).product ∙ e)) ∙ sym (off row ne))
            (cases_eq row.product product)),
        sum_by-none gross_part made (λ k d l. off (get_or made k d) (λ e. let x = (plan_made members products rows new day is k d l).product in omega (arith, e, x, past))),
      )

pub nets_stay : NetsStay
nets_stay members products rows new day is product network found same member within =
    omega (arith, ints, sold_moves members products rows new day is product network found member within, bought_moves members products rows new day is product network found member within, same member within)

pub gross_follows : GrossFollows
gross_follows members products rows new day is product network found = gross_moves members products rows new day is product network found

free_step : (members products : ℕ) (rows : List TradeRow) (step : PlanRow) → IsFreeStep members products rows step → IsStep members products rows step
free_step members products rows (End t) h = by (trade_numbered rows t) h
  where
    by : (o : Option TradeRow) → MatchOption o ⊥ IsFree → IsLiveTrade o
    by None h = h
    by (Some row) h = h.live
free_step members products rows (Cut t from to) h = by (trade_numbered rows t) h
  where
    by : (o : Option TradeRow) → MatchOption o ⊥ (IsCutting from to) → MayFall from to o
    by None h = h
    by (Some row) h = (h.trade.live, sym h.amount, h.least, h.less)
free_step members products rows (New product seller buyer amount day) h = (h.in_products, h.in_sellers, h.in_buyers, h.different)

pub plan_is_executable : PlanIsExecutable
plan_is_executable members products rows new day is room =
    let plan = renewal_plan members products rows new day in
    let free = plan_is_free members products rows new day is in
    record {
      steps = All-weaker (IsFreeStep members products rows) (IsStep members products rows) (free_step members products rows) plan free.steps;
      once = free.once;
      bounded = λ product.
          ⊎_elim (λ (within : product < products).
          let network = listed_there new product (omega (arith, is.as_many)) in
          omega (arith, room.bounded product, room.falls product network.0 network.1, gross_moves members products rows new day is product network.0 network.1))
          (λ (past : products ≤ product). omega (arith, room.bounded product, gross_past members products rows new day is product past))
          (cases_lt product products);
    }
  where
    listed_there : (xs : List NetworkData) (k : ℕ) → k < length xs → (x : NetworkData) × (slice_get xs k ≡ Some x)
    listed_there [] k l = absurd (omega arith)
    listed_there (x ∷ xs) zero l = (x, refl)
    listed_there (x ∷ xs) (suc k) l = listed_there xs k (omega arith)
