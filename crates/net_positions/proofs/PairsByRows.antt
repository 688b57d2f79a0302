-- The sum over pairs of what does not cancel is the sum over rows of what the amount the other way does not cancel.
use Rattle.std.proofs.Common.{◌≡◌, ◌≢◌, ℕ, zero, suc, ◌+◌, ◌-◌, ◌<◌, List, [], ◌∷◌, sum_by, refl, ap, ◌∙◌, arith, ⊎_elim}
use Rattle.std.proofs.lemmas.Bool.{cases_eq}
use Rattle.std.proofs.lemmas.List.Elements.{All-head, All-tail}
use Rattle.std.proofs.lemmas.List.Sums.{sum_by-cons}
use Rattle.network_laws.specs.declared.rows.Row.{Row}
use Rattle.network_laws.specs.Networks.{NetworkData, IsNetwork, AreInRange, IsRising, at, amount_in, pair_part, bilateral, sum_below}
use Rattle.network_laws.proofs.Figures.{sum_below-same, sum_below-add, sum_below-none}
use Rattle.network_laws.proofs.RowOrder.{amount_none}
use Rattle.network_laws.proofs.RowSums.{pair_part-same, pair_part-seller, pair_part-buyer}
use Rattle.net_positions.specs.Tables.{unmatched_part}

-- two sums that differ in one term
differ_once : (n k c : ℕ) (f g : ℕ → ℕ) → k < n → f k ≡ g k + c → ((i : ℕ) → i ≢ k → f i ≡ g i) → sum_below n f ≡ sum_below n g + c
differ_once zero k c f g l here other = absurd (omega arith)
differ_once (suc n) k c f g l here other =
    ⊎_elim (λ (e : n ≡ k). omega (arith, here, ap f e, ap g e, sum_below-same n f g (λ i below. other i (omega arith))))
    (λ (ne : n ≢ k). omega (arith, differ_once n k c f g (omega arith) here other, other n ne))
    (cases_eq n k)

-- a sum over pairs of what their amounts give is the sum over rows, where each pair has at most one row
pub pairs_by_rows : (n : ℕ) (F : ℕ → ℕ → ℕ → ℕ) (rows : List Row) → ((i j : ℕ) → F i j 0 ≡ 0) → AreInRange n rows → IsRising rows → sum_below n (λ i. sum_below n (λ j. F i j (amount_in rows i j))) ≡ sum_by (λ row. F row.seller row.buyer row.amount) rows
pairs_by_rows n F [] none in_range rising = sum_below-none n (λ i. sum_below n (λ j. F i j 0)) (λ i _. sum_below-none n (λ j. F i j 0) (λ j _. none i j))
pairs_by_rows n F (row ∷ rows) none in_range rising =
    let s = row.seller in
    let b = row.buyer in
    let head = All-head (λ (r : Row). (r.seller < n) × (r.buyer < n)) row rows in_range in
    let alone : amount_in rows s b ≡ 0 = amount_none rows s b (λ k d l e. omega (arith, rising 0 (suc k) d (omega arith) (omega arith), e)) in
    let amount = λ (i : ℕ) (j : ℕ). sum_by-cons (pair_part i j) row rows in
    let here : F s b (amount_in (row ∷ rows) s b) ≡ F s b (amount_in rows s b) + F s b row.amount =
    let only : amount_in (row ∷ rows) s b ≡ row.amount = omega (arith, amount s b, pair_part-same row, alone) in
    omega (arith, ap (F s b) only, ap (F s b) alone, none s b) in
    let column = differ_once n b (F s b row.amount) (λ j. F s j (amount_in (row ∷ rows) s j)) (λ j. F s j (amount_in rows s j)) head.1 here
    (λ j ne. let same : amount_in (row ∷ rows) s j ≡ amount_in rows s j = omega (arith, amount s j, pair_part-buyer s j row refl ne) in ap (F s j) same) in
    let others = differ_once n s (F s b row.amount) (λ i. sum_below n (λ j. F i j (amount_in (row ∷ rows) i j))) (λ i. sum_below n (λ j. F i j (amount_in rows i j))) head.0 column
    (λ i ne. sum_below-same n (λ j. F i j (amount_in (row ∷ rows) i j)) (λ j. F i j (amount_in rows i j)) (λ j _. let same : amount_in (row ∷ rows) i j ≡ amount_in rows i j = omega (arith, amount i j, pair_part-seller i j row ne) in ap (F i j) same)) in
    let rest = pairs_by_rows n F rows none (All-tail (λ (r : Row). (r.seller < n) × (r.buyer < n)) row rows in_range) (λ i j d l l'. rising (suc i) (suc j) d (omega arith) (omega arith)) in
    omega (arith, others, rest, sum_by-cons (λ (r : Row). F r.seller r.buyer r.amount) row rows)

-- pairs of which each stands once are all pairs, where the diagonal is empty
triangle_is : (n : ℕ) (f : ℕ → ℕ → ℕ) → ((i : ℕ) → f i i ≡ 0) → sum_below n (λ j. sum_below j (λ i. f i j + f j i)) ≡ sum_below n (λ i. sum_below n (f i))
triangle_is zero f none = refl
triangle_is (suc n) f none =
    omega (arith, triangle_is n f none, none n, sum_below-add n (λ i. f i n) (f n), sum_below-add n (λ i. sum_below n (f i)) (λ i. f i n))

pub bilateral_by_rows : (y : NetworkData) → IsNetwork y → bilateral y ≡ sum_by (unmatched_part y) y.rows
bilateral_by_rows y h =
    triangle_is y.members (λ i j. at y i j - at y j i) (λ i. omega arith) ∙ pairs_by_rows y.members (λ i j a. a - at y j i) y.rows (λ i j. omega arith) (λ k d l. ((h.rows.good k d l).seller, (h.rows.good k d l).buyer)) h.rows.rising
