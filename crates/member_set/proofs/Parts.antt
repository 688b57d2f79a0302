-- The members of a part.
use Rattle.std.proofs.Common.{◌≡◌, ℕ, ◌+◌, ◌-◌, ◌*◌, ◌/◌, ◌%◌, ◌^◌, ◌<◌, Bool, true, false, not, ◌&&◌, eqb, ltb, List, get_or, refl, sym, ap, ◌∙◌, inl, inr, arith, w64, bit_and}
use Rattle.std.proofs.lemmas.Bool.{cases_eq, lt-ltb, ltb-true, eqb-true, eq-eqb, ne_eqb, and_parts, false_from_ne_true}
use Rattle.std.proofs.lemmas.Nat.Bits.{bit_at-zero, bit_at-lt, bit_at_and, bit_at_clear_same, bit_at_clear_other, bit_at-trailing_zeros}
use Rattle.std.specs.Int.{bit_at, bit_not, trailing_zeros}
use Rattle.member_set.specs.declared.set.MemberSet.{MemberSet}
use Rattle.member_set.specs.declared.part.Part.{Part}
use Rattle.member_set.specs.Members.{has, has_in, has_bit, size_in}
use Rattle.member_set.proofs.Sizes.{fewer}
use Rattle.member_set.proofs.Words.{of_min}
use Rattle.member_set.proofs.Cleared.{lowest_cleared}

-- a part of a set has the members whose numbers are in it
pub in_part : (words : List ℕ) (place : ℕ) → place < 4 → (m : ℕ) → (eqb (m / 64) place && eqb (bit_at (get_or words place 0) (m % 64)) 1) ≡ (eqb (m / 64) place && has_bit words m)
in_part words place small m =
    elim (cases_eq (m / 64) place) [
      | inl e ↦ rw (e, lt-ltb m 256 (omega (arith, e, small))) refl
      | inr ne ↦ rw (ne_eqb (m / 64) place ne) refl
    ]

module _ (place word : ℕ) (some : 0 < word) (fits : word < 2 ^ 64) where
  abbrev l : ℕ
  l = 64 * place + trailing_zeros w64 word

  low : trailing_zeros w64 word < 64
  low = (bit_at-trailing_zeros w64 word some fits).0

  pub taken_has : (eqb ((64 * place + trailing_zeros w64 word) / 64) place && eqb (bit_at word ((64 * place + trailing_zeros w64 word) % 64)) 1) ≡ true
  taken_has =
      let h = low in
      let at_word : (64 * place + trailing_zeros w64 word) / 64 ≡ place = omega (arith, h) in
      let at_bit : (64 * place + trailing_zeros w64 word) % 64 ≡ trailing_zeros w64 word = omega (arith, h) in
      rw (at_word, at_bit, eq-eqb place place refl) (eq-eqb (bit_at word (trailing_zeros w64 word)) 1 (bit_at-trailing_zeros w64 word some fits).1)

  cleared_out_of : (m : ℕ) → (eqb (m / 64) place && eqb (bit_at (bit_and word (bit_not w64 (1 * 2 ^ trailing_zeros w64 word % 2 ^ 64))) (m % 64)) 1)
      ≡ (not (eqb m (64 * place + trailing_zeros w64 word)) && (eqb (m / 64) place && eqb (bit_at word (m % 64)) 1))
  cleared_out_of m =
      let h = low in
      let zeros : ℕ = trailing_zeros w64 word in
      let new : ℕ = bit_and word (bit_not w64 (1 * 2 ^ zeros % 2 ^ 64)) in
      elim (cases_eq m (64 * place + trailing_zeros w64 word)) [
        | inl e ↦
            let at_word : m / 64 ≡ place = omega (arith, h, e) in
            let at_bit : m % 64 ≡ trailing_zeros w64 word = omega (arith, h, e) in
            let off : bit_at new (m % 64) ≡ 0 = ap (λ i. bit_at new i) at_bit ∙ bit_at_clear_same w64 word zeros h in
            rw (eq-eqb m (64 * place + trailing_zeros w64 word) e, eq-eqb (m / 64) place at_word) (ne_eqb (bit_at new (m % 64)) 1 (λ one. omega (arith, one, off)))
        | inr ne ↦
            elim (cases_eq (m / 64) place) [
              | inl at ↦
                  let other : m % 64 ≡ trailing_zeros w64 word → ⊥ = λ (q : m % 64 ≡ trailing_zeros w64 word). ne (omega (arith, q, at)) in
                  let same : bit_at new (m % 64) ≡ bit_at word (m % 64) = bit_at_clear_other w64 word zeros h (m % 64) (omega arith) other in
                  rw (ne_eqb m (64 * place + trailing_zeros w64 word) ne) (ap (λ x. eqb (m / 64) place && eqb x 1) same)
              | inr off ↦ rw (ne_eqb m (64 * place + trailing_zeros w64 word) ne, ne_eqb (m / 64) place off) refl
            ]
      ]

  pub taken_out_of : (m : ℕ) → (eqb (m / 64) place && eqb (bit_at (bit_and word (word - 1)) (m % 64)) 1)
      ≡ (not (eqb m (64 * place + trailing_zeros w64 word)) && (eqb (m / 64) place && eqb (bit_at word (m % 64)) 1))
  taken_out_of m = ap (λ w. eqb (m / 64) place && eqb (bit_at w (m % 64)) 1) (lowest_cleared word some fits) ∙ cleared_out_of m

  pub taken_least : (m : ℕ) → m < 64 * place + trailing_zeros w64 word → (eqb (m / 64) place && eqb (bit_at word (m % 64)) 1) ≡ false
  taken_least m less =
      false_from_ne_true (eqb (m / 64) place && eqb (bit_at word (m % 64)) 1)
      (λ on.
      let both = and_parts (eqb (m / 64) place) (eqb (bit_at word (m % 64)) 1) on in
      let at_word : m / 64 ≡ place = eqb-true (m / 64) place both.0 in
      let off : bit_at word (m % 64) ≡ 0 = (bit_at-trailing_zeros w64 word some fits).2 (m % 64) (omega (arith, less, at_word)) in
      omega (arith, off, eqb-true (bit_at word (m % 64)) 1 both.1))

-- a member of both
guarded : (q x y h : Bool) → (q && y) ≡ (q && h) → (q && (x && y)) ≡ ((q && x) && h)
guarded true x y h same = ap (λ z. x && z) same
guarded false x y h same = refl

pub both_in : (old other : Part) (h : ℕ → Bool) → other.place ≡ old.place → ((m : ℕ) → has_in other m ≡ (eqb (m / 64) old.place && h m)) → (m : ℕ) → (eqb (m / 64) old.place && eqb (bit_at (bit_and old.word other.word) (m % 64)) 1) ≡ (has_in old m && h m)
unfolding has_in
both_in old other h place members m =
    let i : ℕ = m % 64 in
    let q = eqb (m / 64) old.place in
    let x = eqb (bit_at old.word i) 1 in
    let y = eqb (bit_at other.word i) 1 in
    let same : (q && y) ≡ (q && h m) = ap (λ k. eqb (m / 64) k && y) (sym place) ∙ members m in
    let bits : eqb (bit_at (bit_and old.word other.word) i) 1 ≡ (x && y) = ap (λ b. eqb b 1) (bit_at_and old.word other.word i) ∙ of_min (bit_at old.word i) (bit_at other.word i) (bit_at-lt old.word i) (bit_at-lt other.word i) in
    ap (λ z. q && z) bits ∙ guarded q x y (h m) same

-- a part without a bit has no member
pub no_part : (place word m : ℕ) → word ≡ 0 → (eqb (m / 64) place && eqb (bit_at word (m % 64)) 1) ≡ false
no_part place word m none =
    let off : bit_at word (m % 64) ≡ 0 = ap (λ w. bit_at w (m % 64)) none ∙ bit_at-zero (m % 64) in
    false_from_ne_true (eqb (m / 64) place && eqb (bit_at word (m % 64)) 1)
    (λ on. omega (arith, off, eqb-true (bit_at word (m % 64)) 1 (and_parts (eqb (m / 64) place) (eqb (bit_at word (m % 64)) 1) on).1))

pub part_less : (old new : Part) (l : ℕ) → ((m : ℕ) → has_in new m ≡ (not (eqb m l) && has_in old m)) → l < 256 → has_in old l ≡ true → size_in new < size_in old
unfolding size_in
part_less old new l taken small on = omega (arith, fewer (has_in old) (has_in new) l taken 256 small on)

-- a member is a number below 256
pub member_small : (set : MemberSet) (m : ℕ) → has set m ≡ true → m < 256
unfolding has
member_small set m on = ltb-true m 256 (and_parts (ltb m 256) (eqb (bit_at (get_or set.words (m / 64) 0) (m % 64)) 1) on).0
