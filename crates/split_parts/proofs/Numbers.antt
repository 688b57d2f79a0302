-- Own numbers.
use Rattle.std.proofs.Common.{◌≡◌, ◌≢◌, ℕ, zero, suc, ◌<◌, ◌≤◌, ◌-◌, Bool, true, false, cond, List, length, get_or, Some, None, Option, ltb, eqb, ◌⊎◌, inl, inr, refl, sym, ap, ◌∙◌, arith, ⊎_elim}
use Rattle.std.specs.Prelude.{All, Contains, unwrap_or}
use Rattle.std.specs.List.{position_or_len}
use Rattle.std.proofs.lemmas.Bool.{cases_eq, cases_lt, eq-eqb, ne_eqb, eqb-true, eqb-false, lt-ltb, ltb-false}
use Rattle.std.proofs.lemmas.List.{get_or_default}
use Rattle.std.proofs.lemmas.List.Quantifiers.{position-Some}
use Rattle.std.proofs.lemmas.List.Sums.{position_or_len_is, fails_before_first}
use Rattle.split_parts.specs.Own.{number_in}
use Rattle.split_parts.specs.Parts.{IsRisingPart}

pub option_cases : {X : Type 0} (o : Option X) → (o ≡ None) ⊎ ((x : X) × (o ≡ Some x))
option_cases None = inl refl
option_cases (Some x) = inr (x, refl)

pub some_is : {X : Type 0} (a b : X) → Some a ≡ Some b → a ≡ b
some_is a b e = ap (λ o. unwrap_or o a) e

pub none_some : {X : Type 0} (a : X) → None ≡ Some a → ⊥
none_some a e = let f = e in cc

pub number_some : (part : List ℕ) (m q : ℕ) → number_in part m ≡ Some q → (q < length part) × (get_or part q 0 ≡ m)
number_some part m q e =
    let h = position-Some (λ x. eqb x m) part q 0 e in
    (h.0, eqb-true (get_or part q 0) m h.1)

number_none_past : (b : Bool) (n : ℕ) → cond b (Some n) None ≡ None → b ≡ false
number_none_past true n e = absurd (none_some n (sym e))
number_none_past false n e = refl

pub number_none : (part : List ℕ) (m : ℕ) → number_in part m ≡ None → (q : ℕ) → q < length part → get_or part q 0 ≢ m
number_none part m e q l =
    let past : length part ≤ position_or_len (λ x. eqb x m) part = ltb-false _ _ (number_none_past _ _ e) in
    eqb-false (get_or part q 0) m (fails_before_first (λ x. eqb x m) part q 0 (omega arith))

pub number_at : (part : List ℕ) (q : ℕ) → IsRisingPart part → q < length part → number_in part (get_or part q 0) ≡ Some q
number_at part q rising l =
    let m = get_or part q 0 in
    let first : position_or_len (λ x. eqb x m) part ≡ q =
    position_or_len_is (λ x. eqb x m) part q 0 (omega arith) (λ k lk. ne_eqb (get_or part k 0) m (λ e. omega (arith, rising k q 0 lk l))) (λ _. eq-eqb m m refl) in
    ap (λ n. cond (ltb n (length part)) (Some n) None) first ∙ ap (λ b. cond b (Some q) None) (lt-ltb q (length part) l)

-- larger members have larger numbers
pub number_rises : (part : List ℕ) (m n p q : ℕ) → IsRisingPart part → number_in part m ≡ Some p → number_in part n ≡ Some q → m < n → p < q
number_rises part m n p q rising a b lt =
    let x = number_some part m p a in
    let y = number_some part n q b in
    let x1 = x.1 in
    let y1 = y.1 in
    ⊎_elim (λ (h : p < q). h)
    (λ (h : q ≤ p).
    ⊎_elim (λ (e : q ≡ p). let z = ap (λ k. get_or part k 0) e in absurd (omega arith)) (λ (ne : q ≢ p). absurd (let z = rising q p 0 (omega arith) x.0 in omega arith)) (cases_eq q p))
    (cases_lt p q)

pub number_contains : (part : List ℕ) (m q : ℕ) → number_in part m ≡ Some q → Contains part m
number_contains part m q e = let h = number_some part m q e in (q, h.0, get_or_default part q m 0 h.0 ∙ h.1)

pub contains_number : (part : List ℕ) (m : ℕ) → IsRisingPart part → Contains part m → (q : ℕ) × (number_in part m ≡ Some q)
contains_number part m rising h = (h.0, ap (number_in part) (sym h.2 ∙ get_or_default part h.0 m 0 h.1) ∙ number_at part h.0 rising h.1)

-- a part of members below n has no more than n
grows : (part : List ℕ) → IsRisingPart part → (k : ℕ) → k < length part → k ≤ get_or part k 0
grows part rising zero l = omega arith
grows part rising (suc k) l = let before = grows part rising k (omega arith) in let up = rising k (suc k) 0 (omega arith) l in omega arith

pub part_short : (part : List ℕ) (n : ℕ) → IsRisingPart part → All (λ m. m < n) part → length part ≤ n
part_short part n rising within = short (cases_lt 0 (length part))
  where
    short : (0 < length part) ⊎ (length part ≤ 0) → length part ≤ n
    short (inl l) =
        let lt : (length part - 1) < length part = omega arith in
        let a = grows part rising ((length part - 1)) lt in
        let b = within ((length part - 1)) 0 lt in
        omega arith
    short (inr l) = omega arith

pub not_some : {X : Type 0} (o : Option X) → ((x : X) → o ≡ Some x → ⊥) → o ≡ None
not_some None h = refl
not_some (Some x) h = absurd (h x refl)
