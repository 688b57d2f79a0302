-- Members as bits of four words.
use Rattle.std.proofs.Common.{◌≡◌, ℕ, zero, suc, ◌+◌, ◌-◌, ◌*◌, ◌/◌, ◌%◌, ◌^◌, ◌<◌, min, max, Bool, true, false, not, ◌&&◌, ◌||◌, ltb, eqb, List, [], ◌∷◌, length, get_or, set, refl, sym, ap, ◌∙◌, inl, inr, arith, w64, bit_and, bit_or, get_or-set_same, get_or-set_other}
use Rattle.std.proofs.lemmas.Bool.{cases_eq, cases_lt, ltb-true, lt-ltb, eqb-true, eq-eqb, ne_eqb, and_parts, false_from_ne_true}
use Rattle.std.proofs.lemmas.Nat.{le_or_l, le_or_r}
use Rattle.std.proofs.lemmas.Nat.Bits.{bit_at_and, bit_at_or, bit_at_not, bit_at-lt, bit_at-zero, shr_and_one, bit_at_set_same, bit_at_set_other, bit_at_clear_same, bit_at_clear_other, bit_at-trailing_zeros}
use Rattle.std.specs.Int.{bit_at, bit_not, trailing_zeros}
use Rattle.member_set.specs.Members.{has_bit}
use Rattle.member_set.proofs.Cleared.{lowest_cleared}

-- a word by its place
pub four : (f : ℕ → ℕ) (k : ℕ) → k < 4 → get_or (f 0 ∷ f 1 ∷ f 2 ∷ f 3 ∷ []) k 0 ≡ f k
four f zero h = refl
four f (suc zero) h = refl
four f (suc (suc zero)) h = refl
four f (suc (suc (suc zero))) h = refl
four f (suc (suc (suc (suc k)))) h = absurd (omega arith)

-- bits as tests
pub of_min : (x y : ℕ) → x < 2 → y < 2 → eqb (min x y) 1 ≡ (eqb x 1 && eqb y 1)
of_min zero zero p q = refl
of_min zero (suc zero) p q = refl
of_min (suc zero) zero p q = refl
of_min (suc zero) (suc zero) p q = refl
of_min zero (suc (suc y)) p q = absurd (omega arith)
of_min (suc zero) (suc (suc y)) p q = absurd (omega arith)
of_min (suc (suc x)) y p q = absurd (omega arith)

of_max : (x y : ℕ) → x < 2 → y < 2 → eqb (max x y) 1 ≡ (eqb x 1 || eqb y 1)
of_max zero zero p q = refl
of_max zero (suc zero) p q = refl
of_max (suc zero) zero p q = refl
of_max (suc zero) (suc zero) p q = refl
of_max zero (suc (suc y)) p q = absurd (omega arith)
of_max (suc zero) (suc (suc y)) p q = absurd (omega arith)
of_max (suc (suc x)) y p q = absurd (omega arith)

of_rest : (x y : ℕ) → x < 2 → y < 2 → eqb (min x (1 - y)) 1 ≡ (eqb x 1 && not (eqb y 1))
of_rest zero zero p q = refl
of_rest zero (suc zero) p q = refl
of_rest (suc zero) zero p q = refl
of_rest (suc zero) (suc zero) p q = refl
of_rest zero (suc (suc y)) p q = absurd (omega arith)
of_rest (suc zero) (suc (suc y)) p q = absurd (omega arith)
of_rest (suc (suc x)) y p q = absurd (omega arith)

-- what holds of members holds of numbers that are none, where neither has them
guarded : (f : Bool → Bool → Bool) → f false false ≡ false → (small x y z : Bool) → (small ≡ true → z ≡ f x y)
    → (small && z) ≡ f (small && x) (small && y)
guarded f none true x y z same = same refl
guarded f none false x y z same = sym none

-- the bit of a member
abbrev bit : List ℕ → ℕ → ℕ
bit words m = bit_at (get_or words (m / 64) 0) (m % 64)

-- four words, each by its place
abbrev pub words_of : (ℕ → ℕ) → List ℕ
words_of f = f 0 ∷ f 1 ∷ f 2 ∷ f 3 ∷ []

-- a bit of the word at its member's place
bit_of : (f : ℕ → ℕ) (m : ℕ) → ltb m 256 ≡ true → bit (words_of f) m ≡ bit_at (f (m / 64)) (m % 64)
bit_of f m small =
    let inside : m / 64 < 4 = omega (arith, ltb-true m 256 small) in
    ap (λ w. bit_at w (m % 64)) (four f (m / 64) inside)

module _ (a b : List ℕ) where
  pub anded : (m : ℕ) → has_bit (words_of (λ k. bit_and (get_or a k 0) (get_or b k 0))) m ≡ (has_bit a m && has_bit b m)
  anded m =
      let f = λ (k : ℕ). bit_and (get_or a k 0) (get_or b k 0) in
      guarded (λ x y. x && y) refl (ltb m 256) (eqb (bit a m) 1) (eqb (bit b m) 1) (eqb (bit (words_of f) m) 1)
      (λ small.
      let same : bit (words_of f) m ≡ min (bit a m) (bit b m) = bit_of f m small ∙ bit_at_and (get_or a (m / 64) 0) (get_or b (m / 64) 0) (m % 64) in
      ap (λ x. eqb x 1) same ∙ of_min (bit a m) (bit b m) (bit_at-lt (get_or a (m / 64) 0) (m % 64)) (bit_at-lt (get_or b (m / 64) 0) (m % 64)))

  pub ored : (m : ℕ) → has_bit (words_of (λ k. bit_or (get_or a k 0) (get_or b k 0))) m ≡ (has_bit a m || has_bit b m)
  ored m =
      let f = λ (k : ℕ). bit_or (get_or a k 0) (get_or b k 0) in
      guarded (λ x y. x || y) refl (ltb m 256) (eqb (bit a m) 1) (eqb (bit b m) 1) (eqb (bit (words_of f) m) 1)
      (λ small.
      let same : bit (words_of f) m ≡ max (bit a m) (bit b m) = bit_of f m small ∙ bit_at_or (get_or a (m / 64) 0) (get_or b (m / 64) 0) (m % 64) in
      ap (λ x. eqb x 1) same ∙ of_max (bit a m) (bit b m) (bit_at-lt (get_or a (m / 64) 0) (m % 64)) (bit_at-lt (get_or b (m / 64) 0) (m % 64)))

  pub rested : ((k : ℕ) → get_or b k 0 < 2 ^ 64)
      → (m : ℕ) → has_bit (words_of (λ k. bit_and (get_or a k 0) (bit_not w64 (get_or b k 0)))) m ≡ (has_bit a m && not (has_bit b m))
  rested fits m =
      let f = λ (k : ℕ). bit_and (get_or a k 0) (bit_not w64 (get_or b k 0)) in
      guarded (λ x y. x && not y) refl (ltb m 256) (eqb (bit a m) 1) (eqb (bit b m) 1) (eqb (bit (words_of f) m) 1)
      (λ small.
      let word : ℕ = get_or b (m / 64) 0 in
      let other : bit_at (bit_not w64 word) (m % 64) ≡ 1 - bit_at word (m % 64) = bit_at_not w64 word (m % 64) (fits (m / 64)) (omega arith) in
      let same : bit (words_of f) m ≡ min (bit a m) (1 - bit b m) =
      bit_of f m small ∙ bit_at_and (get_or a (m / 64) 0) (bit_not w64 word) (m % 64) ∙ ap (λ x. min (bit a m) x) other in
      ap (λ x. eqb x 1) same ∙ of_rest (bit a m) (bit b m) (bit_at-lt (get_or a (m / 64) 0) (m % 64)) (bit_at-lt word (m % 64)))

-- a member's own test
pub tested : (words : List ℕ) (m : ℕ) → m < 256 → eqb (bit_and (get_or words (m / 64) 0 / 2 ^ (m % 64)) 1) 1 ≡ has_bit words m
tested words m small = rw (shr_and_one (get_or words (m / 64) 0) (m % 64), lt-ltb m 256 small) refl

-- four words that are 0 have no member
pub none_in : (words : List ℕ) → ((k : ℕ) → k < 4 → get_or words k 0 ≡ 0) → (m : ℕ) → has_bit words m ≡ false
none_in words each m =
    false_from_ne_true (has_bit words m)
    (λ has.
    let parts = and_parts (ltb m 256) (eqb (bit words m) 1) has in
    let inside : m / 64 < 4 = omega (arith, ltb-true m 256 parts.0) in
    let off : bit words m ≡ 0 = ap (λ w. bit_at w (m % 64)) (each (m / 64) inside) ∙ bit_at-zero (m % 64) in
    omega (arith, off, eqb-true (bit words m) 1 parts.1))

module _ (words : List ℕ) (v : ℕ) (member : v < 256) (place : v / 64 < length words) where
  -- another member is in another word, or is another bit of the same
  kept : (w m : ℕ) → (m ≡ v → ⊥) → ((i : ℕ) → i < 64 → (i ≡ v % 64 → ⊥) → bit_at w i ≡ bit_at (get_or words (v / 64) 0) i)
      → bit (set words (v / 64) w) m ≡ bit words m
  kept w m other same =
      elim (cases_eq (m / 64) (v / 64)) [
        | inl e ↦
            let low : m % 64 ≡ v % 64 → ⊥ = λ (q : m % 64 ≡ v % 64). other (omega arith) in
            let written : get_or (set words (v / 64) w) (m / 64) 0 ≡ w = rw e (get_or-set_same words (v / 64) w 0 place) in
            let before : get_or words (m / 64) 0 ≡ get_or words (v / 64) 0 = ap (λ k. get_or words k 0) e in
            ap (λ x. bit_at x (m % 64)) written ∙ same (m % 64) (omega arith) low ∙ sym (ap (λ x. bit_at x (m % 64)) before)
        | inr ne ↦ ap (λ x. bit_at x (m % 64)) (get_or-set_other words (v / 64) (m / 64) w 0 ne)
      ]

  -- the bit of the member itself
  own : (w : ℕ) → bit (set words (v / 64) w) v ≡ bit_at w (v % 64)
  own w = ap (λ x. bit_at x (v % 64)) (get_or-set_same words (v / 64) w 0 place)

  pub put_in : (m : ℕ) → has_bit (set words (v / 64) (bit_or (get_or words (v / 64) 0) (1 * 2 ^ (v % 64) % 2 ^ 64))) m ≡ (eqb m v || has_bit words m)
  put_in m =
      let old : ℕ = get_or words (v / 64) 0 in
      let new : ℕ = bit_or old (1 * 2 ^ (v % 64) % 2 ^ 64) in
      let low : v % 64 < 64 = omega arith in
      elim (cases_eq m v) [
        | inl e ↦
            let on : eqb (bit (set words (v / 64) new) v) 1 ≡ true = eq-eqb (bit (set words (v / 64) new) v) 1 (own new ∙ bit_at_set_same w64 old (v % 64) low) in
            rw (e, eq-eqb v v refl, lt-ltb v 256 member) on
        | inr ne ↦
            rw (ne_eqb m v ne) (ap (λ x. ltb m 256 && eqb x 1) (kept new m ne (λ i small other. bit_at_set_other w64 old (v % 64) low i other)))
      ]

  pub taken_out : (m : ℕ) → has_bit (set words (v / 64) (bit_and (get_or words (v / 64) 0) (bit_not w64 (1 * 2 ^ (v % 64) % 2 ^ 64)))) m ≡ (not (eqb m v) && has_bit words m)
  taken_out m =
      let old : ℕ = get_or words (v / 64) 0 in
      let new : ℕ = bit_and old (bit_not w64 (1 * 2 ^ (v % 64) % 2 ^ 64)) in
      let low : v % 64 < 64 = omega arith in
      elim (cases_eq m v) [
        | inl e ↦
            let off : eqb (bit (set words (v / 64) new) v) 1 ≡ false =
            ne_eqb (bit (set words (v / 64) new) v) 1 (λ one. omega (arith, one, own new, bit_at_clear_same w64 old (v % 64) low)) in
            rw (e, eq-eqb v v refl, lt-ltb v 256 member) off
        | inr ne ↦
            rw (ne_eqb m v ne) (ap (λ x. ltb m 256 && eqb x 1) (kept new m ne (λ i small other. bit_at_clear_other w64 old (v % 64) low i small other)))
      ]

-- the lowest bit of a word that is not 0
module _ (words : List ℕ) (k : ℕ) (place : k < 4) (some : 0 < get_or words k 0) (fits : get_or words k 0 < 2 ^ 64) where
  pub lowest_has : has_bit words (64 * k + trailing_zeros w64 (get_or words k 0)) ≡ true
  lowest_has =
      let low = bit_at-trailing_zeros w64 (get_or words k 0) some fits in
      let zeros : ℕ = trailing_zeros w64 (get_or words k 0) in
      let inside : zeros < 64 = low.0 in
      let at_word : (64 * k + zeros) / 64 ≡ k = omega arith in
      let at_bit : (64 * k + zeros) % 64 ≡ zeros = omega arith in
      let on : bit words (64 * k + zeros) ≡ 1 = rw (at_word, at_bit) low.1 in
      rw (lt-ltb (64 * k + zeros) 256 (omega arith)) (eq-eqb (bit words (64 * k + zeros)) 1 on)

-- four words together are 0 where each is
module _ (words : List ℕ) (none : bit_or (bit_or (bit_or (get_or words 0 0) (get_or words 1 0)) (get_or words 2 0)) (get_or words 3 0) ≡ 0) where
  abbrev two : ℕ
  two = bit_or (get_or words 0 0) (get_or words 1 0)

  abbrev three : ℕ
  three = bit_or (bit_or (get_or words 0 0) (get_or words 1 0)) (get_or words 2 0)

  pub all_none : (k : ℕ) → k < 4 → get_or words k 0 ≡ 0
  all_none zero l = omega (arith, none, le_or_l three (get_or words 3 0), le_or_l two (get_or words 2 0), le_or_l (get_or words 0 0) (get_or words 1 0))
  all_none (suc zero) l = omega (arith, none, le_or_l three (get_or words 3 0), le_or_l two (get_or words 2 0), le_or_r (get_or words 0 0) (get_or words 1 0))
  all_none (suc (suc zero)) l = omega (arith, none, le_or_l three (get_or words 3 0), le_or_r two (get_or words 2 0))
  all_none (suc (suc (suc zero))) l = omega (arith, none, le_or_r three (get_or words 3 0))
  all_none (suc (suc (suc (suc k)))) l = absurd (omega (arith, l))

-- and else one is not
pub one_some : (words : List ℕ) → (bit_or (bit_or (bit_or (get_or words 0 0) (get_or words 1 0)) (get_or words 2 0)) (get_or words 3 0) ≡ 0 → ⊥) → (k : ℕ) × (k < 4) × (0 < get_or words k 0)
one_some words some =
    elim (cases_eq (get_or words 0 0) 0) [
      | inr ne ↦ (0, omega arith, omega (arith, ne))
      | inl e0 ↦
          elim (cases_eq (get_or words 1 0) 0) [
            | inr ne ↦ (1, omega arith, omega (arith, ne))
            | inl e1 ↦
                elim (cases_eq (get_or words 2 0) 0) [
                  | inr ne ↦ (2, omega arith, omega (arith, ne))
                  | inl e2 ↦
                      elim (cases_eq (get_or words 3 0) 0) [
                        | inr ne ↦ (3, omega arith, omega (arith, ne))
                        | inl e3 ↦ absurd (some (rw (e0, e1, e2, e3) refl))
                      ]
                ]
          ]
    ]

-- the lowest bit of the first word that is not 0
module _ (words : List ℕ) (k : ℕ) (place : k < 4) (below : (j : ℕ) → j < k → get_or words j 0 ≡ 0)
    (some : 0 < get_or words k 0) (fits : get_or words k 0 < 2 ^ 64) where
  pub lowest_small : 64 * k + trailing_zeros w64 (get_or words k 0) < 256
  lowest_small =
      let low = bit_at-trailing_zeros w64 (get_or words k 0) some fits in
      let inside : trailing_zeros w64 (get_or words k 0) < 64 = low.0 in
      omega arith

  pub lowest_least : (m : ℕ) → m < 64 * k + trailing_zeros w64 (get_or words k 0) → has_bit words m ≡ false
  lowest_least m less =
      let low = bit_at-trailing_zeros w64 (get_or words k 0) some fits in
      let zeros : ℕ = trailing_zeros w64 (get_or words k 0) in
      let inside : zeros < 64 = low.0 in
      let off : bit words m ≡ 0 =
      elim (cases_lt (m / 64) k) [
        | inl before ↦ ap (λ w. bit_at w (m % 64)) (below (m / 64) before) ∙ bit_at-zero (m % 64)
        | inr after ↦
            let same : m / 64 ≡ k = omega arith in
            ap (λ j. bit_at (get_or words j 0) (m % 64)) same ∙ low.2 (m % 64) (omega arith)
      ] in
      false_from_ne_true (has_bit words m)
      (λ has. omega (arith, off, eqb-true (bit words m) 1 (and_parts (ltb m 256) (eqb (bit words m) 1) has).1))

  pub lowest_out : k < length words → (m : ℕ) → has_bit (set words k (bit_and (get_or words k 0) (get_or words k 0 - 1))) m ≡ (not (eqb m (64 * k + trailing_zeros w64 (get_or words k 0))) && has_bit words m)
  lowest_out inside m =
      let low = bit_at-trailing_zeros w64 (get_or words k 0) some fits in
      let zeros : ℕ = trailing_zeros w64 (get_or words k 0) in
      let few : zeros < 64 = low.0 in
      let at_word : (64 * k + zeros) / 64 ≡ k = omega arith in
      let at_bit : (64 * k + zeros) % 64 ≡ zeros = omega arith in
      let cleared = lowest_cleared (get_or words k 0) some fits in
      let out = taken_out words (64 * k + zeros) (omega arith) (omega (arith, at_word, inside)) m in
      ap (λ w. has_bit (set words k w) m) cleared ∙ rw (at_word, at_bit) at out
