-- The dual bound of limits is that of their rows.
use Rattle.std.proofs.Common.{◌≡◌, ℕ, List, ℤ, ap, ◌∙◌}
use Rattle.network_laws.specs.declared.rows.LimitRow.{LimitRow}
use Rattle.network_laws.specs.Limits.{LimitsData, int_sum_below}
use Rattle.dual_certificate.specs.Bounds.{seller_sum}

pub costs_of_rows : (limits : LimitsData) (p : List ℤ) (m n : ℕ) (xs : List LimitRow) → m ≡ n → xs ≡ limits.rows → int_sum_below m (seller_sum xs p m) ≡ int_sum_below n (seller_sum limits.rows p n)
costs_of_rows limits p m n xs e e' = ap (λ k. int_sum_below k (seller_sum xs p k)) e ∙ ap (λ zs. int_sum_below n (seller_sum zs p n)) e'
