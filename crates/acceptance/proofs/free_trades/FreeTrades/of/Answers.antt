use Rattle.std.proofs.Common.{◌≡◌, rules, length, arith, take, ap, ◌∙◌, subst}
use Rattle.std.proofs.Math.Seq.{take-length}
use Rattle.std.specs.Prelude.{filter}
use Rattle.std.specs.List.Sorted.{IsStableByKey}
use Rattle.std.specs.Ordering.{nat_cmp}
use Rattle.std.proofs.lemmas.List.Sorted.{IsNonDecreasingBy-from_sort_by_key, answers_always}
use Rattle.acceptance.specs.Planning.{is_free, trade_place}
use Rattle.acceptance.proofs.SortedTrades.{sorted_plans}
use Rattle.acceptance.proofs.free_trades.FreeTrades.of.Goals as goal

pub invariant_of-result : goal.invariant_of-result
invariant_of-result c = IsNonDecreasingBy-from_sort_by_key trade_place c.sort_by_cached_key.new.self.items c.in_ok-sort_by_cached_key.ensures.sorted (λ a r q k. search rules)

pub returns : goal.returns
returns c =
    let trades = c.args.trades.now in
    let sorted = c.sort_by_cached_key.new.self.items in
    let stable = c.sort_by_cached_key.ensures.stable trade_place (answers_always _ _ _ (λ f a r g h. search rules)) in
    let over : c.loop-row.row-index ≡ length trades = omega (arith, c.loop-row-test.false, c.loop-row.auto.row-index-end) in
    let kept : c.loop-row.rows.items ≡ filter is_free trades = c.loop-row.invariant ∙ ap (λ n. filter is_free (take n trades)) over ∙ ap (filter is_free) (take-length trades) in
    sorted_plans trades sorted (subst (λ xs. IsStableByKey trade_place nat_cmp xs sorted) kept stable)
