-- Lists that are made piece by piece, and those of their elements that one piece alone has.
use Rattle.std.proofs.Common.{◌≡◌, ◌≢◌, ℕ, zero, suc, ◌<◌, ◌≤◌, ◌++◌, Bool, List, [], refl, sym, ap, ◌∙◌, subst, arith, ⊎_elim}
use Rattle.std.specs.Prelude.{filter, All}
use Rattle.std.proofs.lemmas.Bool.{cases_eq, cases_lt}
use Rattle.std.proofs.lemmas.List.{append-nil}
use Rattle.std.proofs.lemmas.List.Elements.{filter-append, All-nil, All-append}
use Rattle.command_types.specs.Books.{listed_below, listed_pairs}

pub filter_listed : {T : Type 0} (q : T → Bool) (n : ℕ) (f : ℕ → List T) → filter q (listed_below n f) ≡ listed_below n (λ k. filter q (f k))
filter_listed q zero f = refl
filter_listed q (suc n) f = filter-append q (listed_below n f) (f n) ∙ ap (λ xs. xs ++ filter q (f n)) (filter_listed q n f)

pub listed_same : {T : Type 0} (n : ℕ) (f g : ℕ → List T) → ((k : ℕ) → f k ≡ g k) → listed_below n f ≡ listed_below n g
listed_same zero f g each = refl
listed_same (suc n) f g each = ap (λ xs. xs ++ f n) (listed_same n f g each) ∙ ap (λ xs. listed_below n g ++ xs) (each n)

-- pieces that are the same below the end
pub listed_alike : {T : Type 0} (n : ℕ) (f g : ℕ → List T) → ((k : ℕ) → k < n → f k ≡ g k) → listed_below n f ≡ listed_below n g
listed_alike zero f g each = refl
listed_alike (suc n) f g each = ap (λ xs. xs ++ f n) (listed_alike n f g (λ k l. each k (omega arith))) ∙ ap (λ xs. listed_below n g ++ xs) (each n (omega arith))

pub filter_pairs : {T : Type 0} (q : T → Bool) (n : ℕ) (f : ℕ → ℕ → List T) → filter q (listed_pairs n f) ≡ listed_pairs n (λ i j. filter q (f i j))
filter_pairs q n f =
    filter_listed q n (λ i. listed_below n (f i)) ∙ listed_same n (λ i. filter q (listed_below n (f i))) (λ i. listed_below n (λ j. filter q (f i j))) (λ i. filter_listed q n (f i))

pub listed_none : {T : Type 0} (n : ℕ) (f : ℕ → List T) → ((k : ℕ) → k < n → f k ≡ []) → listed_below n f ≡ []
listed_none zero f none = refl
listed_none (suc n) f none = ap (λ xs. xs ++ f n) (listed_none n f (λ k l. none k (omega arith))) ∙ none n (omega arith)

-- where all pieces but one are empty
pub listed_only : {T : Type 0} (n k : ℕ) (f : ℕ → List T) → k < n → ((m : ℕ) → m ≢ k → f m ≡ []) → listed_below n f ≡ f k
listed_only zero k f l none = absurd (omega arith)
listed_only (suc n) k f l none =
    ⊎_elim (λ (e : k ≡ n). ap (λ xs. xs ++ f n) (listed_none n f (λ m lm. none m (omega arith))) ∙ ap f (sym e))
    (λ (ne : k ≢ n). ap (λ xs. listed_below n f ++ xs) (none n (λ e. ne (sym e))) ∙ append-nil (listed_below n f) ∙ listed_only n k f (omega arith) none)
    (cases_eq k n)

-- what holds of no elements and of those of the one piece holds of the list
pub listed_at : {T : Type 0} (P : List T → Type 0) (n k : ℕ) (f : ℕ → List T) → P [] → P (f k) → ((m : ℕ) → m ≢ k → f m ≡ []) → P (listed_below n f)
listed_at P n k f empty here none =
    ⊎_elim (λ (l : k < n). subst P (sym (listed_only n k f l none)) here)
    (λ (le : n ≤ k). subst P (sym (listed_none n f (λ m lm. none m (omega arith)))) empty)
    (cases_lt k n)

pub pairs_only : {T : Type 0} (n i j : ℕ) (f : ℕ → ℕ → List T) → i < n → j < n → ((a b : ℕ) → (a ≡ i → b ≡ j → ⊥) → f a b ≡ []) → listed_pairs n f ≡ f i j
pairs_only n i j f in_i in_j none =
    listed_only n i (λ a. listed_below n (f a)) in_i (λ a ne. listed_none n (f a) (λ b _. none a b (λ e _. ne e)))
    ∙ listed_only n j (f i) in_j (λ b ne. none i b (λ _ e. ne e))

pub pairs_none : {T : Type 0} (n : ℕ) (f : ℕ → ℕ → List T) → ((a b : ℕ) → a < n → b < n → f a b ≡ []) → listed_pairs n f ≡ []
pairs_none n f none = listed_none n (λ a. listed_below n (f a)) (λ a in_a. listed_none n (f a) (λ b in_b. none a b in_a in_b))

pub pairs_at : {T : Type 0} (P : List T → Type 0) (n i j : ℕ) (f : ℕ → ℕ → List T) → P [] → P (f i j) → ((a b : ℕ) → (a ≡ i → b ≡ j → ⊥) → f a b ≡ []) → P (listed_pairs n f)
pairs_at P n i j f empty here none =
    listed_at P n i (λ a. listed_below n (f a)) empty
    (listed_at P n j (f i) empty here (λ b ne. none i b (λ _ e. ne e)))
    (λ a ne. listed_none n (f a) (λ b _. none a b (λ e _. ne e)))

pub All-listed : {T : Type 0} (P : T → Type 0) (n : ℕ) (f : ℕ → List T) → ((k : ℕ) → k < n → All P (f k)) → All P (listed_below n f)
All-listed P zero f each = All-nil P
All-listed P (suc n) f each = All-append P (listed_below n f) (f n) (All-listed P n f (λ k l. each k (omega arith))) (each n (omega arith))

pub All-pairs : {T : Type 0} (P : T → Type 0) (n : ℕ) (f : ℕ → ℕ → List T) → ((i j : ℕ) → i < n → j < n → All P (f i j)) → All P (listed_pairs n f)
All-pairs P n f each = All-listed P n (λ i. listed_below n (f i)) (λ i in_i. All-listed P n (f i) (λ j in_j. each i j in_i in_j))
