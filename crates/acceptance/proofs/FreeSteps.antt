-- The steps of a plan are of free trades.
use Rattle.std.proofs.Common.{◌≡◌, ◌≢◌, ℕ, ◌+◌, ◌-◌, ◌<◌, ◌≤◌, nat_lt, Bool, true, false, cond, eqb, List, [], ◌∷◌, length, get_or, slice_get, Option, Some, None, MatchOption, refl, sym, ap, ◌∙◌, subst, arith, if◌then◌else◌}
use Rattle.std.specs.Prelude.{nat_le, All}
use Rattle.std.proofs.lemmas.Bool.{eqb-false, ltb-true, lt-ltb, leb-false}
use Rattle.std.proofs.lemmas.List.Elements.{All-nil, All-cons, All-head, All-tail, All-filter, All-weaker, filter_passes}
use Rattle.std.proofs.lemmas.Option.{slice_get-get_or, slice_get_within}
use Rattle.units_core.specs.Day.{DayParts}
use Rattle.network_laws.specs.Networks.{NetworkData, at}
use Rattle.command_types.specs.declared.plan.PlanRow.{PlanRow}
use Rattle.command_types.specs.declared.plan.PlanRow.TheVariants.{End, Cut, New}
use Rattle.command_types.specs.declared.trade.TradeRow.{TradeRow}
use Rattle.command_types.specs.Trades.{trade_numbered}
use Rattle.command_types.specs.Plans.{falling, free_rows, pair_plan}
use Rattle.acceptance.specs.Planning.{is_free_between}
use Rattle.acceptance.specs.FreePlans.{IsFree, IsCutting, IsNewInRange, IsFreeStep}
use Rattle.acceptance.specs.Renewals.{AreNumbered, IsLiveIfFrozen, IsNewNetwork, IsRenewal, frozen_networks, renewal_plan}
use Rattle.acceptance.proofs.PlanFacts.{amount_le}
use Rattle.acceptance.proofs.RowSteps.{IsPlaced}
use Rattle.acceptance.proofs.Falls.{numbered_at}
use Rattle.acceptance.proofs.OwnSteps.{free_parts}
use Rattle.acceptance.proofs.PlanPieces.{from_all}
use Rattle.acceptance.proofs.PairNetworks.{none_to_itself, frozen_is}

falling_by : (P : PlanRow → Type 0) (fall : ℕ) (row : TradeRow) (rest : List PlanRow) (none fits : Bool) → eqb fall 0 ≡ none → nat_le row.amount fall ≡ fits → P (End row.number) → ((to : ℕ) → 1 ≤ to → to < row.amount → P (Cut row.number row.amount to)) → All P rest →
    All P (cond none [] (cond fits (End row.number ∷ rest) (Cut row.number row.amount (row.amount - fall) ∷ [])))
falling_by P fall row rest true fits e e' end cut all = All-nil P
falling_by P fall row rest false true e e' end cut all = All-cons P (End row.number) rest end all
falling_by P fall row rest false false e e' end cut all =
    let more : fall < row.amount = leb-false row.amount fall e' in
    let some : fall ≢ 0 = eqb-false fall 0 e in
    All-cons P (Cut row.number row.amount (row.amount - fall)) [] (cut (row.amount - fall) (omega arith) (omega arith)) (All-nil P)

-- what holds of each step that a trade may take
abbrev pub MayFall : (PlanRow → Type 0) → TradeRow → Type 0
MayFall P row = P (End row.number) × ((to : ℕ) → 1 ≤ to → to < row.amount → P (Cut row.number row.amount to))

pub falling_all : (P : PlanRow → Type 0) (fall : ℕ) (rows : List TradeRow) → All (MayFall P) rows → All P (falling fall rows)
falling_all P fall [] all = All-nil P
falling_all P fall (row ∷ rows) all =
    let here = All-head (MayFall P) row rows all in
    falling_by P fall row (falling (fall - row.amount) rows) (eqb fall 0) (nat_le row.amount fall) refl refl here.0 here.1 (falling_all P (fall - row.amount) rows (All-tail (MayFall P) row rows all))

numbered_find : (rows : List TradeRow) (k : ℕ) (d : TradeRow) → AreNumbered 1 rows → k < length rows → trade_numbered rows (get_or rows k d).number ≡ Some (get_or rows k d)
numbered_find rows k d are l =
    let e : (get_or rows k d).number ≡ 1 + k = numbered_at 1 rows are k d l in
    let above : nat_lt 0 (1 + k) ≡ true = lt-ltb 0 (1 + k) (omega arith) in
    let back : 1 + k - 1 ≡ k = omega arith in
    ap (trade_numbered rows) e ∙ ap (λ (b : Bool). if b then slice_get rows (1 + k - 1) else None) above ∙ ap (slice_get rows) back ∙ slice_get-get_or rows k d l

module _ (members products : ℕ) (rows : List TradeRow) (are : AreNumbered 1 rows) (live : All IsLiveIfFrozen rows) where
  abbrev Step : PlanRow → Type 0
  Step = IsFreeStep members products rows

  free_falls : (row : TradeRow) → trade_numbered rows row.number ≡ Some row → IsFree row → MayFall Step row
  free_falls row found free = (
    subst (λ o. MatchOption o ⊥ IsFree) (sym found) free,
    λ to least less. subst (λ o. MatchOption o ⊥ (IsCutting row.amount to)) (sym found) (record { trade = free; amount = refl; least = least; less = less }),
  )

  free_fall : (product seller buyer : ℕ) → All (MayFall Step) (free_rows rows product seller buyer)
  free_fall product seller buyer k d l =
      let P = is_free_between product seller buyer in
      let row = get_or (free_rows rows product seller buyer) k d in
      let found : trade_numbered rows row.number ≡ Some row = All-filter P (λ r. trade_numbered rows r.number ≡ Some r) rows (λ m e lm. numbered_find rows m e are lm) k d l in
      let parts = free_parts product seller buyer row (filter_passes P rows k d l) in
      let alive = All-filter P IsLiveIfFrozen rows live k d l in
      free_falls row found (record { live = alive parts.1; frozen = parts.1; free = parts.2 })

  pair_by : (day : DayParts) (product seller buyer now next : ℕ) (falls grows : Bool) → nat_lt now next ≡ grows → (now < next → IsNewInRange members products product seller buyer (next - now)) →
      All Step (if falls then falling (now - next) (free_rows rows product seller buyer) else (if grows then New product seller buyer (next - now) day ∷ [] else []))
  pair_by day product seller buyer now next true grows e new = falling_all Step (now - next) (free_rows rows product seller buyer) (free_fall product seller buyer)
  pair_by day product seller buyer now next false true e new = All-cons Step (New product seller buyer (next - now) day) [] (new (ltb-true now next e)) (All-nil Step)
  pair_by day product seller buyer now next false false e new = All-nil Step

  pair_steps : (day : DayParts) (product seller buyer : ℕ) (old new : NetworkData) → product < products → seller < members → buyer < members → IsNewNetwork members product rows new → All Step (pair_plan rows day product old new seller buyer)
  pair_steps day product seller buyer old new in_product in_seller in_buyer is =
      let now = at old seller buyer in
      let next = at new seller buyer in
      pair_by day product seller buyer now next (nat_lt next now) (nat_lt now next) refl (λ more. record {
        in_products = in_product;
        in_sellers = in_seller;
        in_buyers = in_buyer;
        different = λ e. omega (arith, more, none_to_itself new.rows new.members seller buyer is.network.rows.good e);
        least = omega (arith, more);
        most = omega (arith, amount_le new.rows seller buyer, is.network.rows.within);
      })

pub steps_free : (members products : ℕ) (rows : List TradeRow) (new : List NetworkData) (day : DayParts) → IsRenewal members products rows new → All (IsFreeStep members products rows) (renewal_plan members products rows new day)
steps_free members products rows new day is =
    from_all rows day (IsFreeStep members products rows) 0 (frozen_networks members products rows) new (λ m a b o w is_old is_new in_a in_b.
    let frozen = frozen_is members products m rows o is_old in
    let same : members ≡ o.members = ap (λ (y : NetworkData). y.members) frozen.1 in
    let e : m ≡ 0 + m = omega arith in
    subst (λ p. All (IsFreeStep members products rows) (pair_plan rows day p o w a b)) e
    (pair_steps members products rows is.numbered is.live day m a b o w frozen.0 (omega (arith, in_a, same)) (omega (arith, in_b, same)) (is.each m w is_new)))

placed_by : (F : TradeRow → Type 0) (rows : List TradeRow) (t : ℕ) (above : Bool) (o : Option TradeRow) → nat_lt 0 t ≡ above → slice_get rows (t - 1) ≡ o → MatchOption (if above then o else None) ⊥ F → (1 ≤ t) × (t ≤ length rows)
placed_by F rows t true (Some row) e is found =
    let positive = ltb-true 0 t e in
    let within = slice_get_within rows (t - 1) row is in
    (omega arith, omega arith)
placed_by F rows t true None e is found = absurd found
placed_by F rows t false o e is found = absurd found

step_placed : (members products : ℕ) (rows : List TradeRow) (step : PlanRow) → IsFreeStep members products rows step → IsPlaced (length rows) step
step_placed members products rows (End t) h = placed_by IsFree rows t (nat_lt 0 t) (slice_get rows (t - 1)) refl refl h
step_placed members products rows (Cut t from to) h = placed_by (IsCutting from to) rows t (nat_lt 0 t) (slice_get rows (t - 1)) refl refl h
step_placed members products rows (New product seller buyer amount day) h = tt

-- each step is of a trade that there is
pub steps_placed : (members products : ℕ) (rows : List TradeRow) (plan : List PlanRow) → All (IsFreeStep members products rows) plan → All (IsPlaced (length rows)) plan
steps_placed members products rows plan all = All-weaker (IsFreeStep members products rows) (IsPlaced (length rows)) (step_placed members products rows) plan all
