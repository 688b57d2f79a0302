-- Trades whose pairs fall alike have the same plans.
use Rattle.std.proofs.Common.{◌≡◌, ℕ, ◌+◌, ◌-◌, ◌<◌, ◌++◌, nat_lt, List, [], ◌∷◌, refl, ap, ◌∙◌, if◌then◌else◌}
use Rattle.units_core.specs.Day.{DayParts}
use Rattle.network_laws.specs.Networks.{NetworkData, at}
use Rattle.command_types.specs.declared.plan.PlanRow.TheVariants.{New}
use Rattle.command_types.specs.declared.trade.TradeRow.{TradeRow}
use Rattle.command_types.specs.Books.{listed_below}
use Rattle.command_types.specs.Plans.{falling, free_rows, pair_plan, product_plan, plan_from, plan_of}
use Rattle.acceptance.specs.Planning.{pair_steps}
use Rattle.acceptance.proofs.Pieces.{listed_alike, listed_same}

-- a pair's steps rest on its free trades alone
pub steps_same : (rows other : List TradeRow) (product : ℕ) (day : DayParts) (seller buyer before after : ℕ) → free_rows rows product seller buyer ≡ free_rows other product seller buyer → pair_steps product day rows seller buyer before after ≡ pair_steps product day other seller buyer before after
steps_same rows other product day seller buyer before after alike =
    ap (λ xs. if nat_lt after before then falling (before - after) xs else (if nat_lt before after then New product seller buyer (after - before) day ∷ [] else [])) alike

-- the plan of a seller's pairs rests on the seller's free trades alone
pub seller_same : (rows other : List TradeRow) (day : DayParts) (product : ℕ) (old new : NetworkData) (seller : ℕ) → ((buyer : ℕ) → buyer < old.members → free_rows rows product seller buyer ≡ free_rows other product seller buyer) →
    listed_below old.members (pair_plan rows day product old new seller) ≡ listed_below old.members (pair_plan other day product old new seller)
seller_same rows other day product old new seller alike =
    listed_alike old.members (pair_plan rows day product old new seller) (pair_plan other day product old new seller) (λ buyer l.
    let now = at old seller buyer in
    let next = at new seller buyer in
    ap (λ xs. if nat_lt next now then falling (now - next) xs else (if nat_lt now next then New product seller buyer (next - now) day ∷ [] else [])) (alike buyer l))

module _ (rows other : List TradeRow) (falls : (fall product seller buyer : ℕ) → falling fall (free_rows rows product seller buyer) ≡ falling fall (free_rows other product seller buyer)) where
  pair_same : (day : DayParts) (product : ℕ) (old new : NetworkData) (seller buyer : ℕ) → pair_plan rows day product old new seller buyer ≡ pair_plan other day product old new seller buyer
  pair_same day product old new seller buyer =
      let now = at old seller buyer in
      let next = at new seller buyer in
      ap (λ xs. if nat_lt next now then xs else (if nat_lt now next then New product seller buyer (next - now) day ∷ [] else [])) (falls (now - next) product seller buyer)

  product_same : (day : DayParts) (product : ℕ) (old new : NetworkData) → product_plan rows day product old new ≡ product_plan other day product old new
  product_same day product old new =
      listed_same old.members (λ i. listed_below old.members (pair_plan rows day product old new i)) (λ i. listed_below old.members (pair_plan other day product old new i)) (λ i.
      listed_same old.members (pair_plan rows day product old new i) (pair_plan other day product old new i) (pair_same day product old new i))

  from_same : (day : DayParts) (k : ℕ) (olds news : List NetworkData) → plan_from rows day k olds news ≡ plan_from other day k olds news
  from_same day k [] news = refl
  from_same day k (old ∷ olds) [] = refl
  from_same day k (old ∷ olds) (new ∷ news) =
      ap (λ xs. xs ++ plan_from rows day (1 + k) olds news) (product_same day k old new) ∙ ap (λ xs. product_plan other day k old new ++ xs) (from_same day (1 + k) olds news)

  pub plans_same : (old new : List NetworkData) (day : DayParts) → plan_of rows old new day ≡ plan_of other old new day
  plans_same old new day = from_same day 0 old new
