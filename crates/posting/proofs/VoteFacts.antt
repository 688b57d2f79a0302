-- Votes on a plan, as lists of members.
use Rattle.std.proofs.Common.{◌≡◌, ◌↔◌, ℕ, zero, suc, ◌<◌, ◌≤◌, ◌==◌, ◌||◌, not, Bool, true, false, cond, List, [], ◌∷◌, length, get_or, All, refl, sym, ap, subst, ◌∙◌, arith, eq-eqb}
use Rattle.std.specs.Prelude.{filter, IsTrue}
use Rattle.std.proofs.lemmas.Bool.{eqb-true}
use Rattle.std.proofs.lemmas.List.Elements.{All-nil, All-cons, All-append, All-weaker, All-head, All-tail}
use Rattle.command_types.specs.Books.{listed_below}
use Rattle.command_types.specs.CycleRefusals.{has_voted}
use Rattle.command_types.specs.Plans.{only_if}
use Rattle.acceptance.specs.Votes.{is_left, left_of}

or_true : (b : Bool) → (b || true) ≡ true
or_true true = refl
or_true false = refl

voted_own : (xs : List ℕ) (k d : ℕ) → k < length xs → has_voted xs (get_or xs k d) ≡ true
voted_own [] k d l = absurd (omega arith)
voted_own (x ∷ xs) zero d l = ap (λ b. b || has_voted xs x) (eq-eqb x x refl)
voted_own (x ∷ xs) (suc k) d l = ap (λ b. (x == get_or xs k d) || b) (voted_own xs k d (omega arith)) ∙ or_true (x == get_or xs k d)

filter_within : {X : Type 0} (p q : X → Bool) (xs : List X) → All (λ x. p x ≡ q x) xs → filter p xs ≡ filter q xs
filter_within p q [] all = refl
filter_within p q (x ∷ xs) all =
    ap (λ b. cond b (x ∷ filter p xs) (filter p xs)) (All-head (λ y. p y ≡ q y) x xs all)
    ∙ ap (λ ys. cond (q x) (x ∷ ys) ys) (filter_within p q xs (All-tail (λ y. p y ≡ q y) x xs all))

one_below : (n : ℕ) (b : Bool) → All (λ m. m < suc n) (only_if b n)
one_below n true = All-cons (λ m. m < suc n) n [] (omega arith) (All-nil (λ m. m < suc n))
one_below n false = All-nil (λ m. m < suc n)

-- those listed below a number are below it
pub listed_in : (f : ℕ → Bool) (n : ℕ) → All (λ m. m < n) (listed_below n (λ m. only_if (f m) m))
listed_in f zero = All-nil (λ m. m < zero)
listed_in f (suc n) =
    let before : List ℕ = listed_below n (λ m. only_if (f m) m) in
    All-append (λ m. m < suc n) before (only_if (f n) n) (All-weaker (λ m. m < n) (λ m. m < suc n) (λ m l. omega (arith, l)) before (listed_in f n)) (one_below n (f n))

-- how many are left of needed members below 256, where those have voted that are told
pub left_is : (needed accepted votes : List ℕ) → ((m : ℕ) → m < 256 → IsTrue (has_voted needed m) → has_voted accepted m ≡ has_voted votes m) → All (λ m. m < 256) needed →
    left_of needed accepted ≡ length (filter (λ voter. not (has_voted votes voter)) needed)
left_is needed accepted votes agree low =
    ap length (filter_within (is_left accepted) (λ voter. not (has_voted votes voter)) needed (λ k d l. ap not (agree (get_or needed k d) (low k d l) (voted_own needed k d l))))

-- and once one more has voted
pub votes_left : (result members member : ℕ) (f : ℕ → Bool) (votes told needed between after accepted last : List ℕ) → members ≤ 256 → needed ≡ listed_below members (λ m. only_if (f m) m) → between ≡ needed → after ≡ between → told ≡ votes →
    ((m : ℕ) → m < 256 → IsTrue (has_voted needed m) → has_voted accepted m ≡ has_voted told m) → ((m : ℕ) → m < 256 → IsTrue (has_voted between m) → has_voted last m ≡ has_voted (member ∷ accepted) m) → result ≡ left_of after last →
    result ≡ length (filter (λ voter. not (has_voted (member ∷ votes) voter)) (listed_below members (λ m. only_if (f m) m)))
votes_left result members member f votes told needed between after accepted last few e e' e'' same walked added is =
    let listed : List ℕ = listed_below members (λ m. only_if (f m) m) in
    is ∙ ap (λ xs. left_of xs last) (e'' ∙ e' ∙ e)
    ∙ left_is listed last (member ∷ votes) (λ m low need.
    let needs : IsTrue (has_voted needed m) = subst (λ xs. IsTrue (has_voted xs m)) (sym e) need in
    let needs' : IsTrue (has_voted between m) = subst (λ xs. IsTrue (has_voted xs m)) (sym e') needs in
    added m low needs' ∙ ap (λ b. (member == m) || b) (walked m low needs ∙ ap (λ xs. has_voted xs m) same))
    (All-weaker (λ m. m < members) (λ m. m < 256) (λ m l. omega (arith, l, few)) listed (listed_in f members))

left_all : (xs : List ℕ) → left_of xs [] ≡ length xs
left_all [] = refl
left_all (x ∷ xs) = let e = left_all xs in omega (arith, e)

-- nobody is left of no members alone
pub nobody_left : (xs : List ℕ) (left : ℕ) (b : Bool) → left ≡ left_of xs [] → b ≡ (left == 0) → (b ≡ true) ↔ (xs ≡ [])
nobody_left xs left b e is = (
  λ h. empty xs (omega (arith, e, left_all xs, eqb-true left 0 (sym is ∙ h))),
  λ h. is ∙ eq-eqb left 0 (omega (arith, e, left_all xs, ap length h)),
)
  where
    empty : (xs : List ℕ) → length xs ≡ 0 → xs ≡ []
    empty [] e = refl
    empty (x ∷ xs) e = absurd (omega (arith, e))
