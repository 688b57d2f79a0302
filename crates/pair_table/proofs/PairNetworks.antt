-- Lists and sums over the ordered pairs of members, and the amounts of the network that they make.
use Rattle.std.proofs.Common.{◌≡◌, ◌≢◌, ℕ, zero, suc, ◌+◌, ◌<◌, ◌++◌, nat_lt, List, [], ◌∷◌, ◌==◌, ◌&&◌, Bool, true, false, if◌then◌else◌, refl, sym, ap, ◌∙◌, arith}
use Rattle.std.specs.Prelude.{sum_by}
use Rattle.std.proofs.lemmas.Bool.Decides.{nat_tests}
use Rattle.std.proofs.lemmas.List.Sums.{sum_by-append}
use Rattle.network_laws.specs.declared.rows.Row.{Row}
use Rattle.network_laws.specs.Networks.{pair_part, at, sum_below}
use Rattle.network_laws.proofs.Figures.{sum_below-same, sum_below-add, sum_below-none, sum_below-only}
use Rattle.network_laws.proofs.RowSums.{pair_part-seller, pair_part-buyer, pair_part-is}
use Rattle.command_types.specs.Books.{listed_below, amount_row, network_by}

listed_below-same : {T : Type 0} (n : ℕ) (f g : ℕ → List T) → ((k : ℕ) → k < n → f k ≡ g k) → listed_below n f ≡ listed_below n g
listed_below-same zero f g each = refl
listed_below-same (suc n) f g each =
    ap (λ xs. xs ++ f n) (listed_below-same n f g (λ k l. each k (omega arith))) ∙ ap (λ xs. listed_below n g ++ xs) (each n (omega arith))

-- networks of the same amounts are the same
pub network_by-same : (n : ℕ) (f g : ℕ → ℕ → ℕ) → ((i j : ℕ) → i < n → j < n → f i j ≡ g i j) → network_by n f ≡ network_by n g
network_by-same n f g each =
    ap (λ rows. record { members = n; rows = rows })
    (listed_below-same n (λ i. listed_below n (λ j. amount_row i j (f i j))) (λ i. listed_below n (λ j. amount_row i j (g i j))) (λ i in_i.
    listed_below-same n (λ j. amount_row i j (f i j)) (λ j. amount_row i j (g i j)) (λ j in_j. ap (amount_row i j) (each i j in_i in_j))))

sum_listed : {T : Type 0} (g : T → ℕ) (n : ℕ) (f : ℕ → List T) → sum_by g (listed_below n f) ≡ sum_below n (λ k. sum_by g (f k))
sum_listed g zero f = refl
sum_listed g (suc n) f = omega (arith, sum_by-append g (listed_below n f) (f n), sum_listed g n f)

abbrev pub row_of : ℕ → ℕ → ℕ → Row
row_of i j amount = record { seller = i; buyer = j; amount = amount }

abbrev pub sum_pairs : ℕ → (ℕ → ℕ → ℕ) → ℕ
sum_pairs n f = sum_below n (λ i. sum_below n (f i))

pub amount_row-suc : (i j m : ℕ) → amount_row i j (suc m) ≡ row_of i j (suc m) ∷ []
amount_row-suc i j m = let some : nat_lt 0 (suc m) ≡ true = grind (arith, nat_tests) in rw some refl

-- a sum over the row that an amount gives
sum_row : (g : Row → ℕ) (i j amount : ℕ) → g (row_of i j 0) ≡ 0 → sum_by g (amount_row i j amount) ≡ g (row_of i j amount)
sum_row g i j zero none = sym none
sum_row g i j (suc m) none = rw (amount_row-suc i j m) (omega arith)

-- a sum over the rows of a network is one over the pairs
pub sum_rows : (g : Row → ℕ) (n : ℕ) (f : ℕ → ℕ → ℕ) → ((i j : ℕ) → g (row_of i j 0) ≡ 0) → sum_by g (network_by n f).rows ≡ sum_pairs n (λ i j. g (row_of i j (f i j)))
sum_rows g n f none =
    sum_listed g n (λ i. listed_below n (λ j. amount_row i j (f i j)))
    ∙ sum_below-same n (λ i. sum_by g (listed_below n (λ j. amount_row i j (f i j)))) (λ i. sum_below n (λ j. g (row_of i j (f i j)))) (λ i _.
    sum_listed g n (λ j. amount_row i j (f i j))
    ∙ sum_below-same n (λ j. sum_by g (amount_row i j (f i j))) (λ j. g (row_of i j (f i j))) (λ j _. sum_row g i j (f i j) (none i j)))

-- only one pair counts
sum_pairs-only : (n s b : ℕ) (f : ℕ → ℕ → ℕ) → s < n → b < n → ((i j : ℕ) → i ≢ s → f i j ≡ 0) → ((j : ℕ) → j ≢ b → f s j ≡ 0) → sum_pairs n f ≡ f s b
sum_pairs-only n s b f in_s in_b row column =
    sum_below-only n s (λ i. sum_below n (f i)) in_s (λ i _ ne. sum_below-none n (f i) (λ j _. row i j ne)) ∙ sum_below-only n b (f s) in_b (λ j _ ne. column j ne)

-- one pair has more
pub sum_pairs-more : (n s b amount : ℕ) (f g : ℕ → ℕ → ℕ) → s < n → b < n → ((i j : ℕ) → i < n → j < n → g i j ≡ f i j + pair_part i j (row_of s b amount)) → sum_pairs n g ≡ sum_pairs n f + amount
sum_pairs-more n s b amount f g in_s in_b each =
    let part : ℕ → ℕ → ℕ = λ i j. pair_part i j (row_of s b amount) in
    omega (
      arith,
      sum_below-same n (λ i. sum_below n (g i)) (λ i. sum_below n (f i) + sum_below n (part i)) (λ i in_i. sum_below-same n (g i) (λ j. f i j + part i j) (λ j in_j. each i j in_i in_j) ∙ sum_below-add n (f i) (part i)),
      sum_below-add n (λ i. sum_below n (f i)) (λ i. sum_below n (part i)),
      sum_pairs-only n s b part in_s in_b (λ i j ne. pair_part-seller i j (row_of s b amount) ne) (λ j ne. pair_part-buyer s j (row_of s b amount) refl ne),
      pair_part-is s b (row_of s b amount) refl refl,
    )

none_if : (t : Bool) (m : ℕ) → m ≡ 0 → (if t then m else 0) ≡ 0
none_if true m e = e
none_if false m e = refl

-- what the rows have for a pair
pub at-network_by : (n i j : ℕ) (f : ℕ → ℕ → ℕ) → at (network_by n f) i j ≡ sum_pairs n (λ a b. pair_part i j (row_of a b (f a b)))
at-network_by n i j f = sum_rows (pair_part i j) n f (λ a b. none_if ((a == i) && (b == j)) 0 refl)

-- each pair has the amount that it was given
pub at-network_by_within : (n i j : ℕ) (f : ℕ → ℕ → ℕ) → i < n → j < n → at (network_by n f) i j ≡ f i j
at-network_by_within n i j f in_i in_j =
    at-network_by n i j f
    ∙ sum_pairs-only n i j (λ a b. pair_part i j (row_of a b (f a b))) in_i in_j
    (λ a b ne. pair_part-seller i j (row_of a b (f a b)) (λ e. ne (sym e)))
    (λ b ne. pair_part-buyer i j (row_of i b (f i b)) refl (λ e. ne (sym e)))
    ∙ pair_part-is i j (row_of i j (f i j)) refl refl
