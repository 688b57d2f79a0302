-- Sums over members are within the gross.
use Rattle.std.proofs.Common.{◌≡◌, ◌≢◌, ℕ, zero, suc, ◌+◌, ◌<◌, ◌≤◌, List, [], ◌∷◌, eqb, refl, ap, arith, ⊎_elim}
use Rattle.std.proofs.lemmas.Bool.{cases_eq, cond_both}
use Rattle.std.proofs.lemmas.List.Sums.{sum_by-cons}
use Rattle.network_laws.specs.declared.rows.Row.{Row}
use Rattle.network_laws.specs.Networks.{sum_below, sold_part, bought_part, total, sold_in}
use Rattle.network_laws.proofs.RowSums.{sold_part-other}

pub sold_part-le : (i : ℕ) (row : Row) → sold_part i row ≤ row.amount
sold_part-le i row = cond_both (eqb row.seller i) row.amount 0 (λ x. x ≤ row.amount) (λ _. omega arith) (λ _. omega arith)

pub bought_part-le : (i : ℕ) (row : Row) → bought_part i row ≤ row.amount
bought_part-le i row = cond_both (eqb row.buyer i) row.amount 0 (λ x. x ≤ row.amount) (λ _. omega arith) (λ _. omega arith)

pub sum_below-same : (n : ℕ) (f g : ℕ → ℕ) → ((i : ℕ) → i < n → f i ≡ g i) → sum_below n f ≡ sum_below n g
sum_below-same zero f g h = refl
sum_below-same (suc n) f g h = omega (arith, sum_below-same n f g (λ i l. h i (omega arith)), h n (omega arith))

pub sum_below-le : (n : ℕ) (f g : ℕ → ℕ) → ((i : ℕ) → i < n → f i ≤ g i) → sum_below n f ≤ sum_below n g
sum_below-le zero f g h = omega arith
sum_below-le (suc n) f g h = omega (arith, sum_below-le n f g (λ i l. h i (omega arith)), h n (omega arith))

pub sum_below-add : (n : ℕ) (f g : ℕ → ℕ) → sum_below n (λ i. f i + g i) ≡ sum_below n f + sum_below n g
sum_below-add zero f g = refl
sum_below-add (suc n) f g = omega (arith, sum_below-add n f g)

pub sum_below-none : (n : ℕ) (f : ℕ → ℕ) → ((i : ℕ) → i < n → f i ≡ 0) → sum_below n f ≡ 0
sum_below-none zero f h = refl
sum_below-none (suc n) f h = omega (arith, sum_below-none n f (λ i l. h i (omega arith)), h n (omega arith))

pub sum_below-zeros : (n : ℕ) → sum_below n (λ j. 0) ≡ 0
sum_below-zeros n = sum_below-none n (λ j. 0) (λ j _. refl)

-- only one term counts
pub sum_below-only : (n k : ℕ) (f : ℕ → ℕ) → k < n → ((i : ℕ) → i < n → i ≢ k → f i ≡ 0) → sum_below n f ≡ f k
sum_below-only zero k f l h = absurd (omega arith)
sum_below-only (suc n) k f l h =
    ⊎_elim (λ (e : k ≡ n). rw e (omega (arith, sum_below-none n f (λ i below. h i (omega arith) (omega arith)))))
    (λ (ne : k ≢ n). omega (arith, sum_below-only n k f (omega arith) (λ i below other. h i (omega arith) other), h n (omega arith) (omega arith)))
    (cases_eq k n)

-- at most one term counts
pub sum_below-one : (n k m : ℕ) (f : ℕ → ℕ) → f k ≤ m → ((i : ℕ) → i ≢ k → f i ≡ 0) → sum_below n f ≤ m
sum_below-one zero k m f here other = omega arith
sum_below-one (suc n) k m f here other =
    ⊎_elim (λ (e : n ≡ k). omega (arith, ap f e, sum_below-none n f (λ i l. other i (omega arith))))
    (λ (ne : n ≢ k). omega (arith, other n ne, sum_below-one n k m f here other))
    (cases_eq n k)

-- a sum up to here is within a longer one
pub sum_below-more : (n i : ℕ) (f : ℕ → ℕ) → i < n → sum_below i f + f i ≤ sum_below n f
sum_below-more zero i f l = absurd (omega arith)
sum_below-more (suc n) i f l =
    ⊎_elim (λ (e : i ≡ n). rw e (omega arith)) (λ (ne : i ≢ n). omega (arith, sum_below-more n i f (omega arith))) (cases_eq i n)

pub sum_below-sold : (n : ℕ) (rows : List Row) → sum_below n (λ i. sold_in rows i) ≤ total rows
sum_below-sold n [] = omega (arith, nothing n)
  where
    nothing : (n : ℕ) → sum_below n (λ i. 0) ≡ 0
    nothing zero = refl
    nothing (suc n) = omega (arith, nothing n)
sum_below-sold n (row ∷ rows) =
    omega (arith, sum_below-same n (λ i. sold_in (row ∷ rows) i) (λ i. sold_part i row + sold_in rows i) (λ i _. sum_by-cons (sold_part i) row rows), sum_below-add n (λ i. sold_part i row) (sold_in rows), sum_below-one n row.seller row.amount (λ i. sold_part i row) (omega (arith, sold_part-le row.seller row)) (λ i ne. sold_part-other i row ne), sum_below-sold n rows, sum_by-cons (λ (r : Row). r.amount) row rows)
