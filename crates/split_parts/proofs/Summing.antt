-- Sums over lists.
use Rattle.std.proofs.Common.{◌≡◌, ℕ, zero, suc, ◌<◌, ◌≤◌, ◌+◌, List, [], ◌∷◌, length, get_or, take, drop, map, refl, ap, arith}
use Rattle.std.specs.Prelude.{All, sum_by}
use Rattle.std.proofs.lemmas.List.{get_or-take, get_or-drop, length-drop, length-take-le}
use Rattle.std.proofs.lemmas.List.Elements.{All-head, All-tail}
use Rattle.std.proofs.lemmas.List.Sums.{sum_by-cons, sum_by-take-drop, get_or-le-sum_by}

pub sum_by_map : {X Y : Type 0} (g : Y → ℕ) (f : X → Y) (xs : List X) → sum_by g (map f xs) ≡ sum_by (λ x. g (f x)) xs
sum_by_map g f [] = refl
sum_by_map g f (x ∷ xs) = omega (arith, sum_by-cons g (f x) (map f xs), sum_by-cons (λ z. g (f z)) x xs, sum_by_map g f xs)

pub sum_by_agree : {X : Type 0} (f g : X → ℕ) (xs : List X) → All (λ x. f x ≡ g x) xs → sum_by f xs ≡ sum_by g xs
sum_by_agree f g [] h = refl
sum_by_agree f g (x ∷ xs) h = omega (arith, sum_by-cons f x xs, sum_by-cons g x xs, All-head (λ z. f z ≡ g z) x xs h, sum_by_agree f g xs (All-tail (λ z. f z ≡ g z) x xs h))

pub sum_by_zero : {X : Type 0} (f : X → ℕ) (xs : List X) → All (λ x. f x ≡ 0) xs → sum_by f xs ≡ 0
sum_by_zero f [] h = refl
sum_by_zero f (x ∷ xs) h = omega (arith, sum_by-cons f x xs, All-head (λ z. f z ≡ 0) x xs h, sum_by_zero f xs (All-tail (λ z. f z ≡ 0) x xs h))

pub sum_by_add : {X : Type 0} (f g h : X → ℕ) → ((x : X) → h x ≡ f x + g x) → (xs : List X) → sum_by h xs ≡ sum_by f xs + sum_by g xs
sum_by_add f g h e [] = refl
sum_by_add f g h e (x ∷ xs) = omega (arith, sum_by-cons f x xs, sum_by-cons g x xs, sum_by-cons h x xs, e x, sum_by_add f g h e xs)

-- two items count for two
pub sum_by_two : {X : Type 0} (f : X → ℕ) (xs : List X) (i j : ℕ) (d : X) → i < j → j < length xs → 1 ≤ f (get_or xs i d) → 1 ≤ f (get_or xs j d) → 2 ≤ sum_by f xs
sum_by_two f xs i j d lt lj one other =
    let a = get_or-le-sum_by f (take j xs) i d (let l = length-take-le j xs (omega arith) in omega arith) in
    let b = get_or-le-sum_by f (drop j xs) 0 d (let l = length-drop j xs in omega arith) in
    let x = ap f (get_or-take j xs i d lt) in
    let y = ap f (get_or-drop j xs 0 d) in
    let z = ap (λ k. f (get_or xs k d)) ((let e : j + 0 ≡ j = omega arith in e)) in
    omega (arith, sum_by-take-drop f xs j)

-- and one that counts is there, where the sum is not 0
pub sum_by_once : {X : Type 0} (f : X → ℕ) (xs : List X) → ((x : X) → f x ≤ 1) → ((i j : ℕ) (d : X) → i < j → j < length xs → f (get_or xs i d) ≡ 1 → f (get_or xs j d) ≡ 1 → ⊥) → sum_by f xs ≤ 1
sum_by_once f [] le h = omega arith
sum_by_once {X} f (x ∷ xs) le h = once (f x) refl (sum_by_once f xs le (λ i j d lt lj a b. h (suc i) (suc j) d (omega arith) (omega arith) a b))
  where
    none : f x ≡ 1 → All (λ z. f z ≡ 0) xs
    none one k d l = unit (f (get_or xs k d)) (le (get_or xs k d)) (λ e. h 0 (suc k) d (omega arith) (omega arith) one e)
      where
        unit : (n : ℕ) → n ≤ 1 → (n ≡ 1 → ⊥) → n ≡ 0
        unit zero l never = refl
        unit (suc n) l never = absurd (never (omega arith))

    once : (n : ℕ) → f x ≡ n → sum_by f xs ≤ 1 → sum_by f (x ∷ xs) ≤ 1
    once zero e rest = omega (arith, sum_by-cons f x xs)
    once (suc n) e rest = let top = le x in let one : f x ≡ 1 = omega arith in omega (arith, sum_by-cons f x xs, sum_by_zero f xs (none one))
