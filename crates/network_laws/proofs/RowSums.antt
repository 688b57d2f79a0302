-- A sum over rows is the sum over pairs, and over members.
use Rattle.std.proofs.Common.{◌≡◌, ◌≢◌, ℕ, ◌<◌, List, [], ◌∷◌, ℤ, pos, ◌+ℤ◌, ◌-ℤ◌, ◌*ℤ◌, neg_ℤ, sum_by, refl, sym, ap, ◌∙◌, arith}
use Rattle.std.proofs.lemmas.Bool.{ne_eqb, eq-eqb}
use Rattle.std.proofs.lemmas.Int.{ints}
use Rattle.std.proofs.lemmas.List.Elements.{All-head, All-tail}
use Rattle.std.proofs.lemmas.List.Sums.{sum_by-cons}
use Rattle.network_laws.specs.declared.rows.Row.{Row}
use Rattle.network_laws.specs.Networks.{NetworkData, pair_part, sold_part, bought_part, at, sold, bought, net, gross, AreInRange}
use Rattle.network_laws.specs.Limits.{int_sum_below, int_sum_pairs, reduced, potential}
use Rattle.network_laws.proofs.Ring.{mul_add, add_mul, neg_mul, one_mul, mul_zero}
use Rattle.network_laws.proofs.Sums.{int_sum_below-add, int_sum_below-same, int_sum_below-zero, int_sum_below-one, int_sum_pairs-add, int_sum_pairs-same, int_sum_pairs-one}

-- each row's amount at a price of its pair
abbrev pub priced : (ℕ → ℕ → ℤ) → List Row → ℤ
priced f [] = pos 0
priced f (row ∷ rows) = (f row.seller row.buyer *ℤ pos row.amount) +ℤ priced f rows

pub pair_part-seller : (i j : ℕ) (row : Row) → i ≢ row.seller → pair_part i j row ≡ 0
pair_part-seller i j row ne = rw (ne_eqb row.seller i (λ e. ne (sym e)))

pub pair_part-buyer : (i j : ℕ) (row : Row) → i ≡ row.seller → j ≢ row.buyer → pair_part i j row ≡ 0
pair_part-buyer i j row e ne = rw (eq-eqb row.seller i (sym e), ne_eqb row.buyer j (λ e'. ne (sym e')))

pub pair_part-is : (i j : ℕ) (row : Row) → row.seller ≡ i → row.buyer ≡ j → pair_part i j row ≡ row.amount
pair_part-is i j row e e' = rw (eq-eqb row.seller i e, eq-eqb row.buyer j e')

pub pair_part-same : (row : Row) → pair_part row.seller row.buyer row ≡ row.amount
pair_part-same row = rw (eq-eqb row.seller row.seller refl, eq-eqb row.buyer row.buyer refl)

pub sold_part-other : (i : ℕ) (row : Row) → i ≢ row.seller → sold_part i row ≡ 0
sold_part-other i row ne = rw (ne_eqb row.seller i (λ e. ne (sym e)))

pub sold_part-same : (row : Row) → sold_part row.seller row ≡ row.amount
sold_part-same row = rw (eq-eqb row.seller row.seller refl)

pub bought_part-other : (i : ℕ) (row : Row) → i ≢ row.buyer → bought_part i row ≡ 0
bought_part-other i row ne = rw (ne_eqb row.buyer i (λ e. ne (sym e)))

pub bought_part-same : (row : Row) → bought_part row.buyer row ≡ row.amount
bought_part-same row = rw (eq-eqb row.buyer row.buyer refl)

-- at a pair's price, over all pairs
pub priced_by_pairs : (n : ℕ) (f : ℕ → ℕ → ℤ) (rows : List Row) → AreInRange n rows → int_sum_pairs n (λ i j. f i j *ℤ pos (sum_by (pair_part i j) rows)) ≡ priced f rows
priced_by_pairs n f [] h =
    int_sum_below-zero n (λ i. int_sum_below n (λ j. f i j *ℤ pos 0)) (λ i _. int_sum_below-zero n (λ j. f i j *ℤ pos 0) (λ j _. mul_zero (f i j)))
priced_by_pairs n f (row ∷ rows) h =
    let in_range = All-head (λ (r : Row). (r.seller < n) × (r.buyer < n)) row rows h in
    let split = int_sum_pairs-same n (λ i j. f i j *ℤ pos (sum_by (pair_part i j) (row ∷ rows))) (λ i j. (f i j *ℤ pos (pair_part i j row)) +ℤ (f i j *ℤ pos (sum_by (pair_part i j) rows)))
    (λ i j _ _. ap (λ x. f i j *ℤ pos x) (sum_by-cons (pair_part i j) row rows) ∙ mul_add (f i j) (pos (pair_part i j row)) (pos (sum_by (pair_part i j) rows))) in
    let one = int_sum_pairs-one n row.seller row.buyer (λ i j. f i j *ℤ pos (pair_part i j row)) in_range.0 in_range.1
    (λ i j ne. ap (λ x. f i j *ℤ pos x) (pair_part-seller i j row ne) ∙ mul_zero (f i j))
    (λ j ne. ap (λ x. f row.seller j *ℤ pos x) (pair_part-buyer row.seller j row refl ne) ∙ mul_zero (f row.seller j)) in
    let here = ap (λ x. f row.seller row.buyer *ℤ pos x) (pair_part-same row) in
    let rest = priced_by_pairs n f rows (All-tail (λ (r : Row). (r.seller < n) × (r.buyer < n)) row rows h) in
    let sum = int_sum_pairs-add n (λ i j. f i j *ℤ pos (pair_part i j row)) (λ i j. f i j *ℤ pos (sum_by (pair_part i j) rows)) in
    split ∙ sum ∙ omega (arith, ints, one, here, rest)

-- at a member's price, over all members
pub priced_by_sellers : (n : ℕ) (f : ℕ → ℤ) (rows : List Row) → AreInRange n rows → int_sum_below n (λ i. f i *ℤ pos (sum_by (sold_part i) rows)) ≡ priced (λ i j. f i) rows
priced_by_sellers n f [] h = int_sum_below-zero n (λ i. f i *ℤ pos 0) (λ i _. mul_zero (f i))
priced_by_sellers n f (row ∷ rows) h =
    let in_range = All-head (λ (r : Row). (r.seller < n) × (r.buyer < n)) row rows h in
    let split = int_sum_below-same n (λ i. f i *ℤ pos (sum_by (sold_part i) (row ∷ rows))) (λ i. (f i *ℤ pos (sold_part i row)) +ℤ (f i *ℤ pos (sum_by (sold_part i) rows)))
    (λ i _. ap (λ x. f i *ℤ pos x) (sum_by-cons (sold_part i) row rows) ∙ mul_add (f i) (pos (sold_part i row)) (pos (sum_by (sold_part i) rows))) in
    let one = int_sum_below-one n row.seller (λ i. f i *ℤ pos (sold_part i row)) in_range.0
    (λ i _ ne. ap (λ x. f i *ℤ pos x) (sold_part-other i row ne) ∙ mul_zero (f i)) in
    let here = ap (λ x. f row.seller *ℤ pos x) (sold_part-same row) in
    let rest = priced_by_sellers n f rows (All-tail (λ (r : Row). (r.seller < n) × (r.buyer < n)) row rows h) in
    let sum = int_sum_below-add n (λ i. f i *ℤ pos (sold_part i row)) (λ i. f i *ℤ pos (sum_by (sold_part i) rows)) in
    split ∙ sum ∙ omega (arith, ints, one, here, rest)

pub priced_by_buyers : (n : ℕ) (f : ℕ → ℤ) (rows : List Row) → AreInRange n rows → int_sum_below n (λ i. f i *ℤ pos (sum_by (bought_part i) rows)) ≡ priced (λ i j. f j) rows
priced_by_buyers n f [] h = int_sum_below-zero n (λ i. f i *ℤ pos 0) (λ i _. mul_zero (f i))
priced_by_buyers n f (row ∷ rows) h =
    let in_range = All-head (λ (r : Row). (r.seller < n) × (r.buyer < n)) row rows h in
    let split = int_sum_below-same n (λ i. f i *ℤ pos (sum_by (bought_part i) (row ∷ rows))) (λ i. (f i *ℤ pos (bought_part i row)) +ℤ (f i *ℤ pos (sum_by (bought_part i) rows)))
    (λ i _. ap (λ x. f i *ℤ pos x) (sum_by-cons (bought_part i) row rows) ∙ mul_add (f i) (pos (bought_part i row)) (pos (sum_by (bought_part i) rows))) in
    let one = int_sum_below-one n row.buyer (λ i. f i *ℤ pos (bought_part i row)) in_range.1
    (λ i _ ne. ap (λ x. f i *ℤ pos x) (bought_part-other i row ne) ∙ mul_zero (f i)) in
    let here = ap (λ x. f row.buyer *ℤ pos x) (bought_part-same row) in
    let rest = priced_by_buyers n f rows (All-tail (λ (r : Row). (r.seller < n) × (r.buyer < n)) row rows h) in
    let sum = int_sum_below-add n (λ i. f i *ℤ pos (bought_part i row)) (λ i. f i *ℤ pos (sum_by (bought_part i) rows)) in
    split ∙ sum ∙ omega (arith, ints, one, here, rest)

-- the sum of price times net over the members
pub priced_by_nets : (y : NetworkData) (n : ℕ) (f : ℕ → ℤ) → AreInRange n y.rows → int_sum_below n (λ i. f i *ℤ net y i) +ℤ priced (λ i j. f j) y.rows ≡ priced (λ i j. f i) y.rows
priced_by_nets y n f h =
    let split = int_sum_below-same n (λ i. f i *ℤ pos (sold y i)) (λ i. (f i *ℤ net y i) +ℤ (f i *ℤ pos (bought y i)))
    (λ i _. ap (λ x. f i *ℤ x) (back (pos (sold y i)) (pos (bought y i))) ∙ mul_add (f i) (net y i) (pos (bought y i))) in
    let sum = int_sum_below-add n (λ i. f i *ℤ net y i) (λ i. f i *ℤ pos (bought y i)) in
    omega (arith, ints, split, sum, priced_by_sellers n f y.rows h, priced_by_buyers n f y.rows h)
  where
    back : (a b : ℤ) → a ≡ (a -ℤ b) +ℤ b
    back a b = omega (arith, ints)

-- the gross is what the potentials take off, and what the reduced costs add
priced_gross : (p : List ℤ) (rows : List Row) → pos (sum_by (λ (row : Row). row.amount) rows) +ℤ priced (λ i j. potential p j) rows ≡ priced (reduced p) rows +ℤ priced (λ i j. potential p i) rows
priced_gross p [] = omega (arith, ints)
priced_gross p (row ∷ rows) =
    let a = potential p row.seller in
    let b = potential p row.buyer in
    let x = row.amount in
    let parts : reduced p row.seller row.buyer *ℤ pos x ≡ ((pos 1 *ℤ pos x) -ℤ (a *ℤ pos x)) +ℤ (b *ℤ pos x) =
    add_mul (pos 1 -ℤ a) b (pos x) ∙ ap (λ z. z +ℤ (b *ℤ pos x)) (add_mul (pos 1) (neg_ℤ a) (pos x) ∙ ap (λ z. (pos 1 *ℤ pos x) +ℤ z) (neg_mul a (pos x))) in
    omega (arith, ints, parts, one_mul (pos x), priced_gross p rows, sum_by-cons (λ (r : Row). r.amount) row rows)

pub gross_is : (y : NetworkData) (n : ℕ) (p : List ℤ) → AreInRange n y.rows → pos (gross y) ≡ int_sum_below n (λ i. potential p i *ℤ net y i) +ℤ int_sum_pairs n (λ i j. reduced p i j *ℤ pos (at y i j))
gross_is y n p h =
    omega (arith, ints, priced_gross p y.rows, priced_by_nets y n (potential p) h, priced_by_pairs n (reduced p) y.rows h)
