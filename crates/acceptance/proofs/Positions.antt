-- What a plan makes of a product's sums over all live trades, or over all that count.
use Rattle.std.proofs.Common.{◌≡◌, ℕ, ◌+◌, ◌<◌, ◌≤◌, ◌&&◌, ◌==◌, Bool, true, false, List, length, map, get_or, slice_get, Some, refl, sym, ap, ◌∙◌, arith, inl, inr, ⊎_elim, if◌then◌else◌}
use Rattle.std.specs.Prelude.{◌⊎◌, sum_by}
use Rattle.std.proofs.lemmas.Bool.{cases_lt, cases_Bool, false_from_ne_true, both_ways}
use Rattle.std.proofs.lemmas.List.Sums.{sum_by-append}
use Rattle.units_core.specs.Day.{DayParts}
use Rattle.network_laws.specs.Networks.{NetworkData, at}
use Rattle.command_types.specs.declared.plan.PlanRow.{PlanRow}
use Rattle.command_types.specs.declared.trade.TradeRow.{TradeRow}
use Rattle.command_types.specs.declared.trade.TradeState.{TradeState}
use Rattle.command_types.specs.declared.trade.TradeState.TheVariants.{Alleged, Live, Ended}
use Rattle.command_types.specs.Trades.{is_live, total_where}
use Rattle.command_types.specs.Books.{is_between, frozen_network}
use Rattle.pair_table.proofs.PairNetworks.{at-network_by_within}
use Rattle.acceptance.specs.Planning.{is_free_between}
use Rattle.acceptance.specs.Laws.{frozen_sum, pair_sum, IsMade}
use Rattle.acceptance.specs.Renewals.{IsRenewal, frozen_networks, renewal_plan, renewed}
use Rattle.acceptance.proofs.RowSteps.{row_after, made_by, after_same}
use Rattle.acceptance.proofs.Falls.{sum_same}
use Rattle.acceptance.proofs.PairNetworks.{frozen_is}
use Rattle.acceptance.proofs.OwnSteps.{between_parts, free_parts, after_none}
use Rattle.acceptance.proofs.PairAmounts.{frozen_part, new_part, sum_add, frozen_total}
use Rattle.acceptance.proofs.Realised.{sum_map, made_sum, plan_made, renewed_is, pair_realised}
use Rattle.acceptance.proofs.PairTotals.{passing, passing_same, passing_add, passing_rows, passing_one}

-- what a trade of a product counts by its state and its parties
abbrev pub part_where : (TradeState → Bool) → (ℕ → ℕ → Bool) → ℕ → TradeRow → ℕ
part_where counted test product row = if (row.product == product) && counted row.state && test row.seller row.buyer then row.amount else 0

state_by : (counted : TradeState → Bool) → counted Live ≡ true → counted Ended ≡ false → (before after : TradeState) → is_live before ≡ true → (after ≡ before) ⊎ (after ≡ Ended) → (counted before ≡ is_live before) × (counted after ≡ is_live after)
state_by counted live ended Alleged after alive same = cc
state_by counted live ended Ended after alive same = cc
state_by counted live ended Live after alive same =
    (live, ⊎_elim (λ (e : after ≡ Live). ap counted e ∙ live ∙ sym (ap is_live e)) (λ (e : after ≡ Ended). ap counted e ∙ ended ∙ sym (ap is_live e)) same)

part_by : (p f c l t : Bool) (amount : ℕ) → f ≡ true → c ≡ l → (if p && c && t then amount else 0) ≡ (if t then (if p && f && l then amount else 0) else 0)
part_by p f c l true amount e e' = rw (e, e') (both p l amount)
  where
    both : (p l : Bool) (amount : ℕ) → (if p && l && true then amount else 0) ≡ (if p && true && l then amount else 0)
    both true true amount = refl
    both true false amount = refl
    both false l amount = refl
part_by true f true l false amount e e' = refl
part_by true f false l false amount e e' = refl
part_by false f c l false amount e e' = refl

made_by_state : (p c t : Bool) (amount : ℕ) → c ≡ true → (if p && c && t then amount else 0) ≡ (if t then (if p then amount else 0) else 0)
made_by_state true c true amount e = rw e refl
made_by_state true c false amount e = rw e refl
made_by_state false c true amount e = refl
made_by_state false c false amount e = refl

module _ (members products : ℕ) (rows : List TradeRow) (new : List NetworkData) (day : DayParts) (is : IsRenewal members products rows new) where
  abbrev the_plan : List PlanRow
  the_plan = renewal_plan members products rows new day

  abbrev made : List TradeRow
  made = made_by (length rows + 1) the_plan

  -- a trade that is frozen for no product or no pair that there is stays as it is
  pub stays : (k : ℕ) (d : TradeRow) → k < length rows → (get_or rows k d).frozen ≡ false ⊎ ((products ≤ (get_or rows k d).product) ⊎ ((members ≤ (get_or rows k d).seller) ⊎ (members ≤ (get_or rows k d).buyer))) →
      row_after the_plan (get_or rows k d) ≡ get_or rows k d
  stays k d l out =
      let row = get_or rows k d in
      after_none rows day is.numbered k d l (frozen_networks members products rows) new (λ m a b old is_old in_a in_b.
      false_from_ne_true (is_free_between m a b row) (λ e.
      let parts = free_parts m a b row e in
      let own = between_parts m a b row parts.0 in
      let frozen = frozen_is members products m rows old is_old in
      let size : members ≡ old.members = ap (λ (y : NetworkData). y.members) frozen.1 in
      ⊎_elim (λ (thawed : row.frozen ≡ false). both_ways row.frozen thawed parts.1)
      (λ (far : (products ≤ row.product) ⊎ ((members ≤ row.seller) ⊎ (members ≤ row.buyer))).
      ⊎_elim (λ (p : products ≤ row.product). let x : m < products = frozen.0 in omega (arith, p, x, own.0))
      (λ (party : (members ≤ row.seller) ⊎ (members ≤ row.buyer)).
      ⊎_elim (λ (s : members ≤ row.seller). omega (arith, s, size, in_a, own.1)) (λ (s : members ≤ row.buyer). omega (arith, s, size, in_b, own.2)) party) far) out))

  module _ (counted : TradeState → Bool) (live : counted Live ≡ true) (ended : counted Ended ≡ false) (test : ℕ → ℕ → Bool) (product : ℕ) where
    abbrev part : TradeRow → ℕ
    part row = part_where counted test product row

    abbrev own : TradeRow → ℕ
    own row = passing test members (λ i j. frozen_part product i j row)

    own_is : (row : TradeRow) → row.frozen ≡ true → counted row.state ≡ is_live row.state → row.seller < members → row.buyer < members → part row ≡ own row
    own_is row frozen state in_seller in_buyer =
        part_by (row.product == product) row.frozen (counted row.state) (is_live row.state) (test row.seller row.buyer) row.amount frozen state
        ∙ sym (passing_one test members product row (λ b. if b && row.frozen && is_live row.state then row.amount else 0) refl in_seller in_buyer)

    -- a trade counts as much less as it has less for its pair
    row_moves : (k : ℕ) (d : TradeRow) → k < length rows → part (row_after the_plan (get_or rows k d)) + own (get_or rows k d) ≡ part (get_or rows k d) + own (row_after the_plan (get_or rows k d))
    row_moves k d l =
        let row = get_or rows k d in
        let next = row_after the_plan row in
        let same = after_same the_plan row in
        let still = λ (e : next ≡ row). ap (λ r. part r + own row) e ∙ ap (λ r. part row + own r) (sym e) in
        ⊎_elim (λ (frozen : row.frozen ≡ true).
        ⊎_elim (λ (in_seller : row.seller < members).
        ⊎_elim (λ (in_buyer : row.buyer < members).
        let states = state_by counted live ended row.state next.state (is.live k d l frozen) same.state in
        let before = own_is row frozen states.0 in_seller in_buyer in
        let after = own_is next (same.frozen ∙ frozen) states.1 (omega (arith, same.seller, in_seller)) (omega (arith, same.buyer, in_buyer)) in
        omega (arith, before, after))
        (λ (far : members ≤ row.buyer). still (stays k d l (inr (inr (inr far)))))
        (cases_lt row.buyer members))
        (λ (far : members ≤ row.seller). still (stays k d l (inr (inr (inl far)))))
        (cases_lt row.seller members))
        (λ (thawed : row.frozen ≡ false). still (stays k d l (inl thawed)))
        (cases_Bool row.frozen)

    rows_move : sum_by (λ row. part (row_after the_plan row)) rows + passing test members (λ i j. frozen_sum product i j rows) ≡ sum_by part rows + passing test members (λ i j. sum_by (λ row. frozen_part product i j (row_after the_plan row)) rows)
    rows_move =
        let moved : TradeRow → ℕ = λ row. part (row_after the_plan row) in
        let moved_own : TradeRow → ℕ = λ row. own (row_after the_plan row) in
        omega (
          arith,
          sum_add (λ row. moved row + own row) moved own rows (λ row. refl),
          sum_add (λ row. part row + moved_own row) part moved_own rows (λ row. refl),
          sum_same (λ row. moved row + own row) (λ row. part row + moved_own row) rows row_moves,
          passing_rows test members (λ i j row. frozen_part product i j row) rows,
          passing_rows test members (λ i j row. frozen_part product i j (row_after the_plan row)) rows,
        )

    made_part : (row : TradeRow) → IsMade members products day row → part row ≡ passing test members (λ i j. if is_between product i j row then row.amount else 0)
    made_part row is_made =
        made_by_state (row.product == product) (counted row.state) (test row.seller row.buyer) row.amount (ap counted is_made.state ∙ live)
        ∙ sym (passing_one test members product row (λ b. if b then row.amount else 0) refl is_made.seller is_made.buyer)

    made_parts : sum_by part made ≡ passing test members (λ i j. sum_by (new_part product i j) the_plan)
    made_parts =
        sum_same part (λ row. passing test members (λ i j. if is_between product i j row then row.amount else 0)) made (λ k d l. made_part (get_or made k d) (plan_made members products rows new day is k d l))
        ∙ passing_rows test members (λ i j row. if is_between product i j row then row.amount else 0) made
        ∙ passing_same test members (λ i j. pair_sum product i j made) (λ i j. sum_by (new_part product i j) the_plan) (λ i j _ _. made_sum product i j (length rows + 1) the_plan)

    pub renewed_sum : sum_by part (renewed members products rows new day) ≡ sum_by (λ row. part (row_after the_plan row)) rows + sum_by part made
    renewed_sum =
        ap (sum_by part) (renewed_is members products rows new day is) ∙ sum_by-append part (map (row_after the_plan) rows) made ∙ ap (λ n. n + sum_by part made) (sum_map part (row_after the_plan) rows)

    -- a sum changes by what it is in the networks
    pub sum_moves : (network : NetworkData) → slice_get new product ≡ Some network →
        sum_by part (renewed members products rows new day) + passing test members (at (frozen_network members product rows)) ≡ sum_by part rows + passing test members (at network)
    sum_moves network found =
        let frozen_next : ℕ → ℕ → ℕ = λ i j. sum_by (λ row. frozen_part product i j (row_after the_plan row)) rows in
        let made_next : ℕ → ℕ → ℕ = λ i j. sum_by (new_part product i j) the_plan in
        omega (
          arith,
          renewed_sum,
          rows_move,
          made_parts,
          passing_add test members frozen_next made_next,
          passing_same test members (λ i j. frozen_next i j + made_next i j) (at network) (λ i j in_i in_j. pair_realised members products rows new day is product network found i j in_i in_j),
          passing_same test members (at (frozen_network members product rows)) (λ i j. frozen_sum product i j rows) (λ i j in_i in_j.
              at-network_by_within members i j (λ a b. total_where (λ row. is_between product a b row && row.frozen) rows) in_i in_j ∙ frozen_total rows is.live product i j),
        )
