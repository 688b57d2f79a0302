-- The first piece of a text, and what stands behind it.
use Rattle.std.proofs.Common.{◌≡◌, ◌∙◌, ap, refl, ℕ, ◌+◌, ◌<◌, ◌≤◌, List, [], ◌∷◌, length, take, drop, Bool, true, false, cond, Some, None, arith, eqb, ltb}
use Rattle.std.proofs.lemmas.Bool.{ltb-true, ltb-false}
use Rattle.std.proofs.lemmas.List.Splits.{slice_split_none, slice_split_first}
use Rattle.std.proofs.lemmas.List.Sums.{fails_before_first}
use Rattle.std.specs.List.{position, position_or_len}
use Rattle.dual_certificate.specs.ProposalLine.{pieces}

pub placed : {X : Type 0} (p : X → Bool) (xs : List X) (i : ℕ) → position p xs ≡ Some i → (position_or_len p xs ≡ i) × (i < length xs)
placed p xs i h = by (ltb (position_or_len p xs) (length xs)) refl h
  where
    by : (b : Bool) → ltb (position_or_len p xs) (length xs) ≡ b → cond b (Some (position_or_len p xs)) None ≡ Some i → (position_or_len p xs ≡ i) × (i < length xs)
    by true e f = let same : position_or_len p xs ≡ i = cc in let l = ltb-true _ _ e in (same, omega arith)
    by false e f = absurd cc

pub nowhere : {X : Type 0} (p : X → Bool) (xs : List X) → position p xs ≡ None → length xs ≤ position_or_len p xs
nowhere p xs h = by (ltb (position_or_len p xs) (length xs)) refl h
  where
    by : (b : Bool) → ltb (position_or_len p xs) (length xs) ≡ b → cond b (Some (position_or_len p xs)) None ≡ None → length xs ≤ position_or_len p xs
    by true e f = absurd cc
    by false e f = ltb-false _ _ e

-- the first such byte ends the first piece
pub cut_at : (byte : ℕ) (text : List ℕ) (i : ℕ) → position (λ b. eqb b byte) text ≡ Some i → pieces byte text ≡ take i text ∷ pieces byte (drop (i + 1) text)
cut_at byte text i h =
    let p = placed (λ b. eqb b byte) text i h in
    slice_split_first (λ b. eqb b byte) text 0 (omega (arith, p.0, p.1)) ∙ ap (λ n. take n text ∷ pieces byte (drop (n + 1) text)) p.0

-- a text without such a byte is one piece
pub cut_none : (byte : ℕ) (text : List ℕ) → position (λ b. eqb b byte) text ≡ None → pieces byte text ≡ text ∷ []
cut_none byte text h =
    let past = nowhere (λ b. eqb b byte) text h in
    slice_split_none (λ b. eqb b byte) text (λ k d l. fails_before_first (λ b. eqb b byte) text k d (omega (arith, past)))
