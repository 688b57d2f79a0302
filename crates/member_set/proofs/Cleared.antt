-- A word and the number below it have all its bits but the lowest.
use Rattle.std.proofs.Common.{◌≡◌, ℕ, zero, suc, ◌-◌, ◌*◌, ◌/◌, ◌%◌, ◌^◌, ◌<◌, min, refl, sym, ap, ◌∙◌, inl, inr, arith, w64, bit_and}
use Rattle.std.proofs.lemmas.Bool.{cases_eq, cases_lt}
use Rattle.std.proofs.lemmas.Nat.{and_le_l}
use Rattle.std.proofs.lemmas.Nat.Bits.{bit_at_lowest, bit_at-suc, bit_at-lt, bit_at_and, bit_at_clear_same, bit_at_clear_other, bit_at-trailing_zeros, same_from_bits_below}
use Rattle.std.specs.Int.{bit_at, bit_not, trailing_zeros}

same : (z w : ℕ) → 0 < w → bit_at w z ≡ 1 → ((i : ℕ) → i < z → bit_at w i ≡ 0) → bit_at (w - 1) z ≡ 0
same zero w some on below =
    let odd : w % 2 ≡ 1 = sym (bit_at_lowest w) ∙ on in
    let even : (w - 1) % 2 ≡ 0 = omega (arith, some, odd) in
    bit_at_lowest (w - 1) ∙ even
same (suc y) w some on below =
    let even : w % 2 ≡ 0 = sym (bit_at_lowest w) ∙ below 0 (omega arith) in
    let half : (w - 1) / 2 ≡ w / 2 - 1 = omega (arith, some, even) in
    bit_at-suc (w - 1) y ∙ ap (λ n. bit_at n y) half
    ∙ same y (w / 2) (omega (arith, some, even)) (sym (bit_at-suc w y) ∙ on) (λ i l. sym (bit_at-suc w i) ∙ below (suc i) (omega (arith, l)))

above : (z w : ℕ) → 0 < w → bit_at w z ≡ 1 → ((i : ℕ) → i < z → bit_at w i ≡ 0) → (i : ℕ) → z < i → bit_at (w - 1) i ≡ bit_at w i
above z w some on below zero l = absurd (omega (arith, l))
above zero w some on below (suc j) l =
    let odd : w % 2 ≡ 1 = sym (bit_at_lowest w) ∙ on in
    let half : (w - 1) / 2 ≡ w / 2 = omega (arith, some, odd) in
    bit_at-suc (w - 1) j ∙ ap (λ n. bit_at n j) half ∙ sym (bit_at-suc w j)
above (suc y) w some on below (suc j) l =
    let even : w % 2 ≡ 0 = sym (bit_at_lowest w) ∙ below 0 (omega arith) in
    let half : (w - 1) / 2 ≡ w / 2 - 1 = omega (arith, some, even) in
    bit_at-suc (w - 1) j ∙ ap (λ n. bit_at n j) half
    ∙ above y (w / 2) (omega (arith, some, even)) (sym (bit_at-suc w y) ∙ on) (λ i k. sym (bit_at-suc w i) ∙ below (suc i) (omega (arith, k))) j (omega (arith, l))
    ∙ sym (bit_at-suc w j)

least : (x y : ℕ) → x < 2 → y < 2 → (x ≡ 0 → ⊥) → y ≡ x → min x y ≡ x
least x zero p q some e = absurd (some (sym e))
least zero y p q some e = absurd (some refl)
least (suc zero) (suc zero) p q some e = refl
least (suc zero) (suc (suc y)) p q some e = absurd (omega (arith, q))
least (suc (suc x)) y p q some e = absurd (omega (arith, p))

none_l : (x y : ℕ) → y < 2 → x ≡ 0 → min x y ≡ 0
none_l zero zero q e = refl
none_l zero (suc zero) q e = refl
none_l zero (suc (suc y)) q e = absurd (omega (arith, q))
none_l (suc x) y q e = absurd (omega (arith, e))

none_r : (x y : ℕ) → x < 2 → y ≡ 0 → min x y ≡ 0
none_r zero zero p e = refl
none_r (suc zero) zero p e = refl
none_r (suc (suc x)) y p e = absurd (omega (arith, p))
none_r x (suc y) p e = absurd (omega (arith, e))

-- the same as without its lowest bit
pub lowest_cleared : (w : ℕ) → 0 < w → w < 2 ^ 64 → bit_and w (w - 1) ≡ bit_and w (bit_not w64 (1 * 2 ^ trailing_zeros w64 w % 2 ^ 64))
lowest_cleared w some fits =
    let low = bit_at-trailing_zeros w64 w some fits in
    let z : ℕ = trailing_zeros w64 w in
    let other : ℕ = bit_not w64 (1 * 2 ^ z % 2 ^ 64) in
    same_from_bits_below 64 (bit_and w (w - 1)) (bit_and w other) (omega (arith, fits, and_le_l w (w - 1))) (omega (arith, fits, and_le_l w other))
    (λ i inside.
    elim (cases_eq i z) [
      | inl e ↦
          let off : bit_at (w - 1) i ≡ 0 = ap (λ k. bit_at (w - 1) k) e ∙ same z w some low.1 low.2 in
          bit_at_and w (w - 1) i ∙ none_r (bit_at w i) (bit_at (w - 1) i) (bit_at-lt w i) off ∙ sym (ap (λ k. bit_at (bit_and w other) k) e ∙ bit_at_clear_same w64 w z low.0)
      | inr ne ↦
          let cleared : bit_at (bit_and w other) i ≡ bit_at w i = bit_at_clear_other w64 w z low.0 i inside ne in
          elim (cases_eq (bit_at w i) 0) [
            | inl off ↦ bit_at_and w (w - 1) i ∙ none_l (bit_at w i) (bit_at (w - 1) i) (bit_at-lt (w - 1) i) off ∙ sym (cleared ∙ off)
            | inr on ↦
                elim (cases_lt i z) [
                  | inl before ↦ absurd (on (low.2 i before))
                  | inr after ↦
                      let kept : bit_at (w - 1) i ≡ bit_at w i = above z w some low.1 low.2 i (omega (arith, after, ne)) in
                      bit_at_and w (w - 1) i ∙ least (bit_at w i) (bit_at (w - 1) i) (bit_at-lt w i) (bit_at-lt (w - 1) i) on kept ∙ sym cleared
                ]
          ]
    ])
