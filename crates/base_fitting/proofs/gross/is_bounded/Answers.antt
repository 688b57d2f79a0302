use Rattle.std.proofs.Common.{◌≡◌, ◌<◌, ◌≤◌, ◌+◌, ℕ, length, replicate, set, take, get_or, ap, sym, refl, subst, arith}
use Rattle.std.proofs.lemmas.Bool.{false≢true}
use Rattle.std.proofs.lemmas.List.{get_or-replicate, take_all}
use Rattle.std.proofs.lemmas.List.Elements.{All-get_or}
use Rattle.units_core.specs.declared.limits.TheConstants.{MOST_GROSS, MOST_PRODUCTS}
use Rattle.command_types.specs.declared.trade.TradeRow.{TradeRow}
use Rattle.command_types.specs.Trades.{gross_of}
use Rattle.base_fitting.proofs.GrossFacts.{AreSums, sum_over, sums_more, sums_none}
use Rattle.base_fitting.proofs.gross.is_bounded.Goals as goal

pub loop-row-init : goal.loop-row-init
loop-row-init c = sums_none MOST_PRODUCTS MOST_GROSS (replicate 64 0) c.args.rows.now refl (λ p lt. get_or-replicate 64 p 0 0 lt)

-- the trade's product has its sum
there : (products p q n : ℕ) → p < products → products ≤ MOST_PRODUCTS → q ≡ p → n ≡ MOST_PRODUCTS → q < n
there products p q n lt few same long = omega (arith, lt, few, same, long)

pub overflow_add-sum : goal.overflow_add-sum
overflow_add-sum c =
    let row = c.row-item.result in
    let product = row.product in
    let placed = subst (λ (r : TradeRow). r.product < c.args.products) (sym c.row-item.is) (All-get_or (λ (r : TradeRow). r.product < c.args.products) c.args.rows.now c.loop-row.row-index row c.loop-row-test.true c.requires.within) in
    let lt = there c.args.products product c.index-product.result (length c.loop-row.sums) placed c.requires.few c.index-product.ensures c.loop-row.invariant.long in
    let so_far = c.loop-row.invariant.each c.index-product.result lt in
    let low = c.loop-row.invariant.within c.index-product.result in
    let more = c.counted.ensures.most in
    omega (arith, so_far, low, more)

pub returns-then-sum-gt-MOST_GROSS : goal.returns-then-sum-gt-MOST_GROSS
returns-then-sum-gt-MOST_GROSS c =
    let row = c.row-item.result in
    let rows = c.args.rows.now in
    let i = c.loop-row.row-index in
    let placed = subst (λ (r : TradeRow). r.product < c.args.products) (sym c.row-item.is) (All-get_or (λ (r : TradeRow). r.product < c.args.products) rows i row c.loop-row-test.true c.requires.within) in
    let lt = there c.args.products row.product row.product (length c.loop-row.sums) placed c.requires.few refl c.loop-row.invariant.long in (
      λ yes. absurd (false≢true yes),
      λ bounded. absurd
          (sum_over MOST_PRODUCTS MOST_GROSS c.loop-row.sums rows i row c.loop-row-test.true c.row-item.is c.loop-row.invariant lt c.counted.result c.counted.ensures.amount
          (get_or c.loop-row.sums c.index-product.result 0 + c.counted.result) (ap (λ p. get_or c.loop-row.sums p 0 + c.counted.result) c.index-product.ensures) c.if-sum-gt-MOST_GROSS.true bounded),
    )

pub loop-row-preserved : goal.loop-row-preserved
loop-row-preserved c =
    let row = c.row-item.result in
    let rows = c.args.rows.now in
    let i = c.loop-row.row-index in
    let sums = c.loop-row.sums in
    let sum = get_or sums c.index-product.result 0 + c.counted.result in
    let placed = subst (λ (r : TradeRow). r.product < c.args.products) (sym c.row-item.is) (All-get_or (λ (r : TradeRow). r.product < c.args.products) rows i row c.loop-row-test.true c.requires.within) in
    let lt = there c.args.products row.product row.product (length sums) placed c.requires.few refl c.loop-row.invariant.long in
    subst (λ p. AreSums MOST_PRODUCTS MOST_GROSS (set sums p sum) (take (i + 1) rows)) (sym c.index-product.ensures)
    (sums_more MOST_PRODUCTS MOST_GROSS sums rows i row c.loop-row-test.true c.row-item.is c.loop-row.invariant lt c.counted.result c.counted.ensures.amount
    sum (ap (λ p. get_or sums p 0 + c.counted.result) c.index-product.ensures) c.if-sum-gt-MOST_GROSS.false)

pub returns : goal.returns
returns c =
    let rows = c.args.rows.now in
    let all : take c.loop-row.row-index rows ≡ rows = take_all c.loop-row.row-index rows c.loop-row-test.false in (
      λ yes product. subst (λ l. gross_of product l ≤ MOST_GROSS) all (c.loop-row.invariant.within product),
      λ bounded. refl,
    )
