-- Lists without the items for which a function gives nothing.
use Rattle.std.proofs.Common.{◌≡◌, ℕ, suc, ◌<◌, ◌≤◌, ◌+◌, List, [], ◌∷◌, ◌++◌, length, get_or, take, Some, None, Option, ◌⊎◌, inl, inr, refl, sym, ap, ◌∙◌, subst, arith}
use Rattle.std.specs.Prelude.{All, AllPairs, filter_map, sum_by}
use Rattle.std.proofs.lemmas.List.{take_more, append-nil}
use Rattle.std.proofs.lemmas.List.Elements.{All-cons, All-head, All-tail, All-nil, filter_map-append}
use Rattle.std.proofs.lemmas.List.Sums.{sum_by-cons}
use Rattle.std.proofs.lemmas.List.Kept.{AllPairs-cons}
use Rattle.split_parts.proofs.Numbers.{option_cases}

pub kept_yes : {X Y : Type 0} (h : X → Option Y) (x : X) (xs : List X) (y : Y) → h x ≡ Some y → filter_map h (x ∷ xs) ≡ y ∷ filter_map h xs
kept_yes h x xs y e = rw e refl

pub kept_no : {X Y : Type 0} (h : X → Option Y) (x : X) (xs : List X) → h x ≡ None → filter_map h (x ∷ xs) ≡ filter_map h xs
kept_no h x xs e = rw e refl

-- the steps of a loop that keeps what a function gives
pub kept_more : {X Y : Type 0} (h : X → Option Y) (xs : List X) (i : ℕ) (d : X) (ys ys' : List Y) (y : Y) → i < length xs → ys ≡ filter_map h (take i xs) → h (get_or xs i d) ≡ Some y → ys' ≡ ys ++ y ∷ [] → ys' ≡ filter_map h (take (i + 1) xs)
kept_more {X} {Y} h xs i d ys ys' y l e some is =
    is ∙ ap (λ (zs : List Y). zs ++ y ∷ []) e ∙ ap (λ (zs : List Y). filter_map h (take i xs) ++ zs) (sym (kept_yes h (get_or xs i d) [] y some)) ∙ sym (filter_map-append h (take i xs) (get_or xs i d ∷ [])) ∙ ap (filter_map h) (sym (take_more xs i d l))

pub kept_none : {X Y : Type 0} (h : X → Option Y) (xs : List X) (i : ℕ) (d : X) (ys : List Y) → i < length xs → ys ≡ filter_map h (take i xs) → h (get_or xs i d) ≡ None → ys ≡ filter_map h (take (i + 1) xs)
kept_none {X} {Y} h xs i d ys l e none =
    e ∙ sym (append-nil (filter_map h (take i xs))) ∙ ap (λ (zs : List Y). filter_map h (take i xs) ++ zs) (sym (kept_no h (get_or xs i d) [] none)) ∙ sym (filter_map-append h (take i xs) (get_or xs i d ∷ [])) ∙ ap (filter_map h) (sym (take_more xs i d l))

pub kept_all : {X Y : Type 0} (f : X → Option Y) (P : X → Type 0) (Q : Y → Type 0) → ((x : X) (y : Y) → P x → f x ≡ Some y → Q y) → (xs : List X) → All P xs → All Q (filter_map f xs)
kept_all f P Q step [] h = All-nil Q
kept_all {X} {Y} f P Q step (x ∷ xs) h = by_cases (kept_all f P Q step xs (All-tail P x xs h)) (option_cases (f x))
  where
    by_cases : All Q (filter_map f xs) → (f x ≡ None) ⊎ ((y : Y) × (f x ≡ Some y)) → All Q (filter_map f (x ∷ xs))
    by_cases rest (inl e) = subst (All Q) (sym (kept_no f x xs e)) rest
    by_cases rest (inr y) = subst (All Q) (sym (kept_yes f x xs y.0 y.1)) (All-cons Q y.0 (filter_map f xs) (step x y.0 (All-head P x xs h) y.1) rest)

pub kept_pairs : {X Y : Type 0} (f : X → Option Y) (P : X → Type 0) (R : X → X → Type 0) (S : Y → Y → Type 0) → ((x x' : X) (y y' : Y) → P x → P x' → f x ≡ Some y → f x' ≡ Some y' → R x x' → S y y') → (xs : List X) → All P xs → AllPairs R xs → AllPairs S (filter_map f xs)
kept_pairs f P R S step [] h r = λ i j d lt l. absurd (omega arith)
kept_pairs {X} {Y} f P R S step (x ∷ xs) h r = by_cases (kept_pairs f P R S step xs (All-tail P x xs h) (λ i j d lt l. r (suc i) (suc j) d (omega arith) (omega arith))) (option_cases (f x))
  where
    far : All (R x) xs
    far k d l = r 0 (suc k) d (omega arith) (omega arith)

    by_cases : AllPairs S (filter_map f xs) → (f x ≡ None) ⊎ ((y : Y) × (f x ≡ Some y)) → AllPairs S (filter_map f (x ∷ xs))
    by_cases rest (inl e) = subst (AllPairs S) (sym (kept_no f x xs e)) rest
    by_cases rest (inr y) =
        subst (AllPairs S) (sym (kept_yes f x xs y.0 y.1))
        (AllPairs-cons S y.0 (filter_map f xs)
        (kept_all f (λ z. P z × R x z) (S y.0) (λ z w both e. step x z y.0 w (All-head P x xs h) both.0 y.1 e both.1) xs (λ k d l. (All-tail P x xs h k d l, far k d l))) rest)

-- a sum over what is kept, where each item counts for what it becomes, and else for 0
pub kept_sum : {X Y : Type 0} (f : X → Option Y) (P : X → Type 0) (g : X → ℕ) (g' : Y → ℕ) → ((x : X) (y : Y) → P x → f x ≡ Some y → g' y ≡ g x) → ((x : X) → P x → f x ≡ None → g x ≡ 0) → (xs : List X) → All P xs → sum_by g' (filter_map f xs) ≡ sum_by g xs
kept_sum f P g g' gives drops [] h = refl
kept_sum {X} {Y} f P g g' gives drops (x ∷ xs) h = by_cases (kept_sum f P g g' gives drops xs (All-tail P x xs h)) (option_cases (f x))
  where
    by_cases : sum_by g' (filter_map f xs) ≡ sum_by g xs → (f x ≡ None) ⊎ ((y : Y) × (f x ≡ Some y)) → sum_by g' (filter_map f (x ∷ xs)) ≡ sum_by g (x ∷ xs)
    by_cases rest (inl e) = ap (sum_by g') (kept_no f x xs e) ∙ omega (arith, rest, drops x (All-head P x xs h) e, sum_by-cons g x xs)
    by_cases rest (inr y) = ap (sum_by g') (kept_yes f x xs y.0 y.1) ∙ omega (arith, rest, gives x y.0 (All-head P x xs h) y.1, sum_by-cons g x xs, sum_by-cons g' y.0 (filter_map f xs))

pub kept_le : {X Y : Type 0} (f : X → Option Y) (g : X → ℕ) (g' : Y → ℕ) → ((x : X) (y : Y) → f x ≡ Some y → g' y ≡ g x) → (xs : List X) → sum_by g' (filter_map f xs) ≤ sum_by g xs
kept_le f g g' gives [] = omega arith
kept_le {X} {Y} f g g' gives (x ∷ xs) = by_cases (kept_le f g g' gives xs) (option_cases (f x))
  where
    by_cases : sum_by g' (filter_map f xs) ≤ sum_by g xs → (f x ≡ None) ⊎ ((y : Y) × (f x ≡ Some y)) → sum_by g' (filter_map f (x ∷ xs)) ≤ sum_by g (x ∷ xs)
    by_cases rest (inl e) = let q = ap (sum_by g') (kept_no f x xs e) in omega (arith, rest, sum_by-cons g x xs)
    by_cases rest (inr y) = let q = ap (sum_by g') (kept_yes f x xs y.0 y.1) in omega (arith, rest, gives x y.0 y.1, sum_by-cons g x xs, sum_by-cons g' y.0 (filter_map f xs))
