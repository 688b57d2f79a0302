-- Flags as lists of members.
use Rattle.std.proofs.Common.{◌≡◌, ◌≢◌, ℕ, zero, suc, ◌+◌, ◌*◌, ◌/◌, ◌%◌, ◌^◌, ◌<◌, ◌≤◌, ◌∷◌, [], Bool, true, false, not, ◌&&◌, ◌||◌, List, length, get_or, set, refl, sym, ap, ◌∙◌, inl, inr, arith, add-one, eqb, eq-eqb, ne_eqb, get_or-set_same, get_or-set_other, w64}
use Rattle.std.specs.Prelude.{bit_or, filter, if◌then◌else◌}
use Rattle.std.specs.Int.{bit_at}
use Rattle.std.proofs.lemmas.Bool.{cases_eq, cases_lt}
use Rattle.std.proofs.lemmas.List.{length-append}
use Rattle.std.proofs.lemmas.List.Elements.{filter-append}
use Rattle.std.proofs.lemmas.List.Folds.{list_any-append}
use Rattle.std.proofs.lemmas.Nat.Bits.{bit_at_set_same, bit_at_set_other, bit_at-zero}
use Rattle.command_types.specs.Books.{listed_below}
use Rattle.command_types.specs.CycleRefusals.{has_voted}
use Rattle.command_types.specs.Plans.{only_if}
use Rattle.acceptance.specs.Votes.{is_flagged, flagged, is_left, left_of}

-- the member, if the test holds of it
abbrev pub marked : (ℕ → Bool) → ℕ → List ℕ
marked f member = only_if (f member) member

-- the flags with one more set
pub flag_set : (words : List ℕ) (member word m : ℕ) → member / 64 < length words → word ≡ get_or words (member / 64) 0 →
    is_flagged (set words (member / 64) (bit_or word (1 * 2 ^ (member % 64) % 2 ^ 64))) m ≡ (eqb member m || is_flagged words m)
unfolding is_flagged
flag_set words member word m within read =
    let v : ℕ = bit_or word (1 * 2 ^ (member % 64) % 2 ^ 64) in
    let low : member % 64 < 64 = omega arith in
    let test : ℕ → Bool = λ x. eqb (bit_at x (m % 64)) 1 in
    elim (cases_eq m member) as (λ _. test (get_or (set words (member / 64) v) (m / 64) 0) ≡ (eqb member m || test (get_or words (m / 64) 0))) [
      | inl same ↦
          rw same
          (ap (λ x. eqb (bit_at x (member % 64)) 1) (get_or-set_same words (member / 64) v 0 within)
          ∙ eq-eqb _ 1 (bit_at_set_same w64 word (member % 64) low)
          ∙ sym (ap (λ t. t || eqb (bit_at (get_or words (member / 64) 0) (member % 64)) 1) (eq-eqb member member refl)))
      | inr other ↦
          let apart : member ≢ m = λ e. other (sym e) in
          (elim (cases_eq (m / 64) (member / 64)) as (λ _. test (get_or (set words (member / 64) v) (m / 64) 0) ≡ test (get_or words (m / 64) 0)) [
            | inl row ↦
                ap (λ x. test (get_or (set words (member / 64) v) x 0)) row
                ∙ ap test (get_or-set_same words (member / 64) v 0 within)
                ∙ ap (λ x. eqb x 1) (bit_at_set_other w64 word (member % 64) low (m % 64) (omega arith))
                ∙ ap test (read ∙ ap (λ x. get_or words x 0) (sym row))
            | inr apart ↦ ap test (get_or-set_other words (member / 64) (m / 64) v 0 apart)
          ])
          ∙ sym (ap (λ t. t || test (get_or words (m / 64) 0)) (ne_eqb member m apart))
    ]

or_none : (t : Bool) → (t || false) ≡ t
or_none true = refl
or_none false = refl

and_none : (t : Bool) → (t && false) ≡ false
and_none true = refl
and_none false = refl

and_all : (t : Bool) → (t && true) ≡ t
and_all true = refl
and_all false = refl

one_voted : (t : Bool) (n k : ℕ) → has_voted (only_if t n) k ≡ (t && eqb n k)
one_voted true n k = or_none (eqb n k)
one_voted false n k = refl

module _ (f : ℕ → Bool) where
  voted_more : (n k : ℕ) → has_voted (listed_below (suc n) (marked f)) k ≡ (has_voted (listed_below n (marked f)) k || (f n && eqb n k))
  voted_more n k =
      list_any-append (λ voter. eqb voter k) (listed_below n (marked f)) (only_if (f n) n)
      ∙ ap (λ t. has_voted (listed_below n (marked f)) k || t) (one_voted (f n) n k)

  -- nobody past the end is listed
  pub voted_past : (n k : ℕ) → n ≤ k → has_voted (listed_below n (marked f)) k ≡ false
  voted_past zero k le = refl
  voted_past (suc n) k le =
      voted_more n k ∙ ap (λ t. t || (f n && eqb n k)) (voted_past n k (omega arith))
      ∙ ap (λ t. f n && t) (ne_eqb n k (omega arith)) ∙ and_none (f n)

  -- below it the test decides
  pub voted_within : (n k : ℕ) → k < n → has_voted (listed_below n (marked f)) k ≡ f k
  voted_within zero k l = absurd (omega arith)
  voted_within (suc n) k l = elim (cases_eq n k) as (λ _. has_voted (listed_below (suc n) (marked f)) k ≡ f k) [
    | inl same ↦
        voted_more n k ∙ ap (λ t. t || (f n && eqb n k)) (voted_past n k (omega arith))
        ∙ ap (λ t. f n && t) (eq-eqb n k same) ∙ and_all (f n) ∙ ap f same
    | inr other ↦
        voted_more n k ∙ ap (λ t. t || (f n && eqb n k)) (voted_within n k (omega arith))
        ∙ ap (λ t. f k || (f n && t)) (ne_eqb n k other) ∙ ap (λ t. f k || t) (and_none (f n)) ∙ or_none (f k)
  ]

pub voted_flagged : (words : List ℕ) (k : ℕ) → k < 256 → has_voted (flagged words) k ≡ is_flagged words k
unfolding flagged
voted_flagged words k l = voted_within (is_flagged words) 256 k l

-- one more member has a flag
pub voted_added : (old new : List ℕ) (member : ℕ) → member < 256 → ((m : ℕ) → is_flagged new m ≡ (eqb member m || is_flagged old m)) →
    (m : ℕ) → has_voted (flagged new) m ≡ has_voted (member ∷ flagged old) m
unfolding flagged
voted_added old new member low h m =
    elim (cases_lt m 256) as (λ _. has_voted (flagged new) m ≡ (eqb member m || has_voted (flagged old) m)) [
      | inl within ↦
          voted_within (is_flagged new) 256 m within ∙ h m ∙ ap (λ t. eqb member m || t) (sym (voted_within (is_flagged old) 256 m within))
      | inr past ↦
          voted_past (is_flagged new) 256 m past ∙ sym (ap (λ t. t || has_voted (flagged old) m) (ne_eqb member m (omega arith)) ∙ voted_past (is_flagged old) 256 m past)
    ]

one_left : (t : Bool) (n : ℕ) (accepted : List ℕ) → left_of (only_if t n) accepted ≡ (if t && not (has_voted accepted n) then 1 else 0)
one_left false n accepted = refl
one_left true n accepted = here (not (has_voted accepted n)) refl
  where
    here : (b : Bool) → not (has_voted accepted n) ≡ b → left_of (only_if true n) accepted ≡ (if true && not (has_voted accepted n) then 1 else 0)
    here true e = rw e refl
    here false e = rw e refl

-- how many are left among one member more
pub left_more : (f : ℕ → Bool) (accepted : List ℕ) (n : ℕ) → left_of (listed_below (n + 1) (marked f)) accepted ≡ left_of (listed_below n (marked f)) accepted + (if f n && not (has_voted accepted n) then 1 else 0)
left_more f accepted n =
    ap (λ k. left_of (listed_below k (marked f)) accepted) (add-one n)
    ∙ ap length (filter-append (is_left accepted) (listed_below n (marked f)) (only_if (f n) n))
    ∙ length-append (filter (is_left accepted) (listed_below n (marked f))) (filter (is_left accepted) (only_if (f n) n))
    ∙ ap (λ k. left_of (listed_below n (marked f)) accepted + k) (one_left (f n) n accepted)

-- four empty words, which have no flag
abbrev pub zeros : List ℕ
zeros = 0 ∷ 0 ∷ 0 ∷ 0 ∷ []

pub none_flagged : (m : ℕ) → is_flagged zeros m ≡ false
unfolding is_flagged
none_flagged m = ap (λ x. eqb (bit_at x (m % 64)) 1) (zero_at (m / 64)) ∙ ap (λ x. eqb x 1) (bit_at-zero (m % 64))
  where
    zero_at : (i : ℕ) → get_or zeros i 0 ≡ 0
    zero_at zero = refl
    zero_at (suc zero) = refl
    zero_at (suc (suc zero)) = refl
    zero_at (suc (suc (suc zero))) = refl
    zero_at (suc (suc (suc (suc i)))) = refl

-- the count of those that are left, with one member more
pub left_next : (needed accepted : List ℕ) (n left : ℕ) (t : Bool) → n < 256 → t ≡ (is_flagged needed n && not (is_flagged accepted n)) →
    left ≡ left_of (listed_below n (marked (is_flagged needed))) (flagged accepted) →
    left + (if t then 1 else 0) ≡ left_of (listed_below (n + 1) (marked (is_flagged needed))) (flagged accepted)
left_next needed accepted n left t l e h =
    let same : t ≡ (is_flagged needed n && not (has_voted (flagged accepted) n)) =
    e ∙ ap (λ b. is_flagged needed n && not b) (sym (voted_flagged accepted n l)) in
    ap (λ k. k + (if t then 1 else 0)) h
    ∙ ap (λ (b : Bool). left_of (listed_below n (marked (is_flagged needed))) (flagged accepted) + (if b then 1 else 0)) same
    ∙ sym (left_more (is_flagged needed) (flagged accepted) n)

pub left_all : (needed accepted : List ℕ) (n left : ℕ) → n ≡ 256 → left ≡ left_of (listed_below n (marked (is_flagged needed))) accepted → left ≡ left_of (flagged needed) accepted
unfolding flagged
left_all needed accepted n left e h = h ∙ ap (λ k. left_of (listed_below k (marked (is_flagged needed))) accepted) e
