use Rattle.std.proofs.Common.{◌≡◌, ℕ, ℤ, pos, Option, arith, rules, below_more, w64, SFits, ap, subst, ◌∙◌, ◌≤ℤ◌}
use Rattle.std.proofs.lemmas.Int.{ints, to_z-of_z}
use Rattle.network_laws.specs.Limits.{least_cost}
use Rattle.network_laws.proofs.Sums.{int_sum_below-next}
use Rattle.dual_certificate.specs.Bounds.{IsOpenPriced, rows_cost}
use Rattle.dual_certificate.proofs.dual.seller_cost.Goals as goal

same : {a b : ℤ} {m n : ℕ} {o q : Option ℕ} → a ≡ b → m ≡ n → o ≡ q → least_cost a m o ≡ least_cost b n q
same {a} {b} {m} {n} {o} {q} e e' e'' = ap (λ x. least_cost x m o) e ∙ ap (λ x. least_cost b x o) e' ∙ ap (least_cost b n) e''

pub loop-buyer-preserved : goal.loop-buyer-preserved
loop-buyer-preserved c =
    let limits = c.args.limits.now in
    let p = c.args.potentials.now in
    let s = c.args.seller in
    let b = c.loop-buyer.buyer in
    let fits : SFits w64 c.reduced_cost.result = search rules in
    let e = simp to_z-of_z at c.in-Some.ensures in
    let priced : IsOpenPriced limits p s b = λ none. subst (λ x. pos 0 ≤ℤ x) c.reduced_cost.ensures.value (e.0 (c.bounds_at-bounds.ensures.upper ∙ none)) in
    let is_cost : c.in-Some.cost ≡ rows_cost limits p s b = e.1 ∙ same c.reduced_cost.ensures.value c.bounds_at-bounds.ensures.lower c.bounds_at-bounds.ensures.upper in
    let inv = c.loop-buyer.invariant in
    (below_more _ _ inv.0 priced, omega (arith, ints, int_sum_below-next b (rows_cost limits p s), is_cost, inv.1, inv.2.low, inv.2.high, e.2.low, e.2.high), record { low = omega (arith, ints, inv.2.low, inv.2.high, e.2.low, e.2.high); high = omega (arith, ints, inv.2.low, inv.2.high, e.2.low, e.2.high) }, c.next_limit-limit_at.ensures.end, c.next_limit-limit_at.ensures.cursor)
