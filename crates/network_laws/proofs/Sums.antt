-- Sums of integers over the numbers below n.
use Rattle.std.proofs.Common.{◌≡◌, ◌≢◌, ℕ, zero, suc, ◌+◌, ◌<◌, ℤ, pos, ◌+ℤ◌, ◌≤ℤ◌, refl, sym, ap, ◌∙◌, add-one, arith, ⊎_elim}
use Rattle.std.proofs.lemmas.Bool.{cases_eq}
use Rattle.std.proofs.lemmas.Int.{ints}
use Rattle.network_laws.specs.Limits.{int_sum_below, int_sum_pairs}

pub int_sum_below-next : (n : ℕ) (f : ℕ → ℤ) → int_sum_below (n + 1) f ≡ int_sum_below n f +ℤ f n
int_sum_below-next n f = rw add-one refl

pub int_sum_below-add : (n : ℕ) (f g : ℕ → ℤ) → int_sum_below n (λ i. f i +ℤ g i) ≡ int_sum_below n f +ℤ int_sum_below n g
int_sum_below-add zero f g = omega (arith, ints)
int_sum_below-add (suc n) f g = omega (arith, ints, int_sum_below-add n f g)

pub int_sum_below-same : (n : ℕ) (f g : ℕ → ℤ) → ((i : ℕ) → i < n → f i ≡ g i) → int_sum_below n f ≡ int_sum_below n g
int_sum_below-same zero f g h = refl
int_sum_below-same (suc n) f g h =
    omega (arith, ints, int_sum_below-same n f g (λ i below. h i (omega arith)), h n (omega arith))

pub int_sum_below-le : (n : ℕ) (f g : ℕ → ℤ) → ((i : ℕ) → i < n → f i ≤ℤ g i) → int_sum_below n f ≤ℤ int_sum_below n g
int_sum_below-le zero f g h = omega (arith, ints)
int_sum_below-le (suc n) f g h =
    omega (arith, ints, int_sum_below-le n f g (λ i below. h i (omega arith)), h n (omega arith))

pub int_sum_below-zero : (n : ℕ) (f : ℕ → ℤ) → ((i : ℕ) → i < n → f i ≡ pos 0) → int_sum_below n f ≡ pos 0
int_sum_below-zero zero f h = refl
int_sum_below-zero (suc n) f h =
    omega (arith, ints, int_sum_below-zero n f (λ i below. h i (omega arith)), h n (omega arith))

-- only one term counts.
pub int_sum_below-one : (n k : ℕ) (f : ℕ → ℤ) → k < n → ((i : ℕ) → i < n → i ≢ k → f i ≡ pos 0) → int_sum_below n f ≡ f k
int_sum_below-one zero k f l h = absurd (omega arith)
int_sum_below-one (suc n) k f l h =
    ⊎_elim (λ (e : k ≡ n). rw e (omega (arith, ints, int_sum_below-zero n f (λ i below. h i (omega arith) (omega arith)))))
    (λ (ne : k ≢ n). omega (arith, ints, int_sum_below-one n k f (omega arith) (λ i below other. h i (omega arith) other), h n (omega arith) (omega arith)))
    (cases_eq k n)

pub int_sum_pairs-add : (n : ℕ) (f g : ℕ → ℕ → ℤ) → int_sum_pairs n (λ i j. f i j +ℤ g i j) ≡ int_sum_pairs n f +ℤ int_sum_pairs n g
int_sum_pairs-add n f g =
    int_sum_below-same n (λ i. int_sum_below n (λ j. f i j +ℤ g i j)) (λ i. int_sum_below n (f i) +ℤ int_sum_below n (g i)) (λ i below. int_sum_below-add n (f i) (g i)) ∙ int_sum_below-add n (λ i. int_sum_below n (f i)) (λ i. int_sum_below n (g i))

pub int_sum_pairs-same : (n : ℕ) (f g : ℕ → ℕ → ℤ) → ((i j : ℕ) → i < n → j < n → f i j ≡ g i j) → int_sum_pairs n f ≡ int_sum_pairs n g
int_sum_pairs-same n f g h =
    int_sum_below-same n (λ i. int_sum_below n (f i)) (λ i. int_sum_below n (g i)) (λ i in_i. int_sum_below-same n (f i) (g i) (λ j in_j. h i j in_i in_j))

pub int_sum_pairs-le : (n : ℕ) (f g : ℕ → ℕ → ℤ) → ((i j : ℕ) → i < n → j < n → f i j ≤ℤ g i j) → int_sum_pairs n f ≤ℤ int_sum_pairs n g
int_sum_pairs-le n f g h =
    int_sum_below-le n (λ i. int_sum_below n (f i)) (λ i. int_sum_below n (g i)) (λ i in_i. int_sum_below-le n (f i) (g i) (λ j in_j. h i j in_i in_j))

pub int_sum_pairs-one : (n s b : ℕ) (f : ℕ → ℕ → ℤ) → s < n → b < n → ((i j : ℕ) → i ≢ s → f i j ≡ pos 0) → ((j : ℕ) → j ≢ b → f s j ≡ pos 0) → int_sum_pairs n f ≡ f s b
int_sum_pairs-one n s b f in_s in_b row column =
    int_sum_below-one n s (λ i. int_sum_below n (f i)) in_s (λ i below other. int_sum_below-zero n (f i) (λ j _. row i j other)) ∙ int_sum_below-one n b (f s) in_b (λ j below other. column j other)

-- two sums are equal only if all their terms are, where no term of one is above the other's
pub int_sum_below-tight : (n : ℕ) (f g : ℕ → ℤ) → ((i : ℕ) → i < n → f i ≤ℤ g i) → int_sum_below n f ≡ int_sum_below n g → (i : ℕ) → i < n → f i ≡ g i
int_sum_below-tight zero f g h e i l = absurd (omega arith)
int_sum_below-tight (suc n) f g h e i l =
    let le = int_sum_below-le n f g (λ i below. h i (omega arith)) in
    let last = h n (omega arith) in
    let front : int_sum_below n f ≡ int_sum_below n g = omega (arith, ints) in
    let same_last : f n ≡ g n = omega (arith, ints) in
    ⊎_elim (λ (q : i ≡ n). ap f q ∙ same_last ∙ sym (ap g q)) (λ (ne : i ≢ n). int_sum_below-tight n f g (λ i below. h i (omega arith)) front i (omega arith)) (cases_eq i n)

pub int_sum_pairs-tight : (n : ℕ) (f g : ℕ → ℕ → ℤ) → ((i j : ℕ) → i < n → j < n → f i j ≤ℤ g i j) → int_sum_pairs n f ≡ int_sum_pairs n g → (i j : ℕ) → i < n → j < n → f i j ≡ g i j
int_sum_pairs-tight n f g h e i j in_i in_j =
    int_sum_below-tight n (f i) (g i) (λ j in_j. h i j in_i in_j)
    (int_sum_below-tight n (λ i. int_sum_below n (f i)) (λ i. int_sum_below n (g i)) (λ i in_i. int_sum_below-le n (f i) (g i) (λ j in_j. h i j in_i in_j)) e i in_i) j in_j
