-- Lists of members that pass a test.
use Rattle.std.proofs.Common.{◌≡◌, ℕ, Bool, true, false, cond, not, ◌&&◌, ◌||◌, List, [], ◌∷◌, ◌++◌, filter, refl, ap, ◌∙◌}
use Rattle.std.specs.List.{list_any, list_all}

none_more : (b : Bool) (x : ℕ) (rest : List ℕ) (all : Bool) → (rest ≡ [] → all ≡ true) → cond {A = List ℕ} (not b) (x ∷ rest) rest ≡ [] → (b && all) ≡ true
none_more true x rest all more e = more e
none_more false x rest all more e = cc

pub filter-none : (p : ℕ → Bool) (xs : List ℕ) → filter (λ x. not (p x)) xs ≡ [] → list_all p xs ≡ true
filter-none p [] e = refl
filter-none p (x ∷ xs) e = none_more (p x) x (filter (λ y. not (p y)) xs) (list_all p xs) (filter-none p xs) e

some_more : (b : Bool) (x y : ℕ) (ys rest : List ℕ) (all : Bool) → (rest ≡ y ∷ ys → all ≡ false) → cond {A = List ℕ} (not b) (x ∷ rest) rest ≡ y ∷ ys → (b && all) ≡ false
some_more true x y ys rest all more e = more e
some_more false x y ys rest all more e = refl

pub filter-some : (p : ℕ → Bool) (xs : List ℕ) (y : ℕ) (ys : List ℕ) → filter (λ x. not (p x)) xs ≡ y ∷ ys → list_all p xs ≡ false
filter-some p [] y ys e = cc
filter-some p (x ∷ xs) y ys e = some_more (p x) x y ys (filter (λ z. not (p z)) xs) (list_all p xs) (filter-some p xs y ys) e

one_now : (a b rest_all rest_b rest_any : Bool) → (rest_all ≡ true → rest_b ≡ false → rest_any ≡ true) → ((a || b) && rest_all) ≡ true → (b && rest_b) ≡ false → (a || rest_any) ≡ true
one_now true b rest_all rest_b rest_any more e f = refl
one_now false true rest_all rest_b rest_any more e f = more e f
one_now false false rest_all rest_b rest_any more e f = cc

-- where all pass one of two tests, and not all the second, one passes the first
pub any-first : (a b : ℕ → Bool) (xs : List ℕ) → list_all (λ x. a x || b x) xs ≡ true → list_all b xs ≡ false → list_any a xs ≡ true
any-first a b [] e f = cc
any-first a b (x ∷ xs) e f = one_now (a x) (b x) (list_all (λ y. a y || b y) xs) (list_all b xs) (list_any a xs) (any-first a b xs) e f

or_swap : (a b c : Bool) → (a || (b || c)) ≡ (b || (a || c))
or_swap true true c = refl
or_swap true false c = refl
or_swap false b c = refl

pub any-push : (p : ℕ → Bool) (xs : List ℕ) (y : ℕ) → list_any p (xs ++ y ∷ []) ≡ (p y || list_any p xs)
any-push p [] y = refl
any-push p (x ∷ xs) y = ap (λ b. p x || b) (any-push p xs y) ∙ or_swap (p x) (p y) (list_any p xs)
