-- Networks with the same amounts have the same figures.
use Rattle.std.proofs.Common.{◌≡◌, ℕ, ◌<◌, Bool, true, false, cond, eqb, List, [], ◌∷◌, ℤ, pos, ◌*ℤ◌, refl, sym, ap, ◌∙◌, arith}
use Rattle.std.proofs.lemmas.Int.{ints}
use Rattle.std.proofs.lemmas.List.Sums.{sum_by-cons}
use Rattle.network_laws.specs.declared.rows.Row.{Row}
use Rattle.network_laws.specs.Networks.{NetworkData, at, net, gross, amount_in, total, sold_in, bought_in, sold_part, bought_part, AreInRange}
use Rattle.network_laws.proofs.Ring.{one_mul}
use Rattle.network_laws.proofs.Sums.{int_sum_pairs-same}
use Rattle.network_laws.proofs.RowSums.{priced, priced_by_pairs}

pub priced_same : (n : ℕ) (f : ℕ → ℕ → ℤ) (xs ys : List Row) → AreInRange n xs → AreInRange n ys → ((i j : ℕ) → i < n → j < n → amount_in xs i j ≡ amount_in ys i j) → priced f xs ≡ priced f ys
priced_same n f xs ys hx hy same =
    sym (priced_by_pairs n f xs hx) ∙ int_sum_pairs-same n (λ i j. f i j *ℤ pos (amount_in xs i j)) (λ i j. f i j *ℤ pos (amount_in ys i j)) (λ i j in_i in_j. ap (λ x. f i j *ℤ pos x) (same i j in_i in_j)) ∙ priced_by_pairs n f ys hy

priced_total : (rows : List Row) → priced (λ i j. pos 1) rows ≡ pos (total rows)
priced_total [] = refl
priced_total (row ∷ rows) = omega (arith, ints, one_mul (pos row.amount), priced_total rows, sum_by-cons (λ (r : Row). r.amount) row rows)

picked : (b : Bool) (m : ℕ) → cond b (pos 1) (pos 0) *ℤ pos m ≡ pos (cond b m 0)
picked true m = one_mul (pos m)
picked false m = omega (arith, ints)

priced_sold : (i : ℕ) (rows : List Row) → priced (λ s b. cond (eqb s i) (pos 1) (pos 0)) rows ≡ pos (sold_in rows i)
priced_sold i [] = refl
priced_sold i (row ∷ rows) = omega (arith, ints, picked (eqb row.seller i) row.amount, priced_sold i rows, sum_by-cons (sold_part i) row rows)

priced_bought : (i : ℕ) (rows : List Row) → priced (λ s b. cond (eqb b i) (pos 1) (pos 0)) rows ≡ pos (bought_in rows i)
priced_bought i [] = refl
priced_bought i (row ∷ rows) = omega (arith, ints, picked (eqb row.buyer i) row.amount, priced_bought i rows, sum_by-cons (bought_part i) row rows)

pub same_gross : (n : ℕ) (y z : NetworkData) → AreInRange n y.rows → AreInRange n z.rows → ((i j : ℕ) → i < n → j < n → at y i j ≡ at z i j) → gross y ≡ gross z
same_gross n y z hy hz same = omega (arith, ints, priced_same n (λ i j. pos 1) y.rows z.rows hy hz same, priced_total y.rows, priced_total z.rows)

pub same_net : (n : ℕ) (y z : NetworkData) → AreInRange n y.rows → AreInRange n z.rows → ((i j : ℕ) → i < n → j < n → at y i j ≡ at z i j) → (i : ℕ) → net y i ≡ net z i
same_net n y z hy hz same i =
    omega (arith, ints, priced_same n (λ s b. cond (eqb s i) (pos 1) (pos 0)) y.rows z.rows hy hz same, priced_sold i y.rows, priced_sold i z.rows, priced_same n (λ s b. cond (eqb b i) (pos 1) (pos 0)) y.rows z.rows hy hz same, priced_bought i y.rows, priced_bought i z.rows)
