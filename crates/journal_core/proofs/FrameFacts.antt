-- The frames of records behind one another.
use Rattle.std.proofs.Common.{◌≡◌, ℕ, ◌+◌, ◌-◌, List, [], ◌∷◌, ◌++◌, length, take, drop, refl, sym, ◌∙◌, ap, arith, append_assoc, length-append}
use Rattle.std.proofs.lemmas.List.{take_all, length-drop, append-nil}
use Rattle.std.specs.Int.{w32, to_le_bytes}
use Rattle.std.specs.List.{flat_map}
use Rattle.journal_core.specs.Holds.{frame}
use Rattle.journal_core.specs.Frame.{staged, framed, frames_length}
use Rattle.journal_core.proofs.PartFacts.{length-frame}

pub length-staged : (bytes : List ℕ) → length (staged bytes) ≡ 5 + length bytes
length-staged bytes = omega (arith, length-append bytes (0 ∷ []))

-- the frame of one record
pub staged_is : (bytes : List ℕ) → 1 ∷ staged bytes ≡ framed (bytes ∷ [])
staged_is bytes =
    ap (λ (l : List ℕ). 1 ∷ l) (sym (append_assoc (to_le_bytes w32 (length bytes)) bytes (0 ∷ [])) ∙ ap (λ (l : List ℕ). l ++ 0 ∷ []) (sym (append-nil (to_le_bytes w32 (length bytes) ++ bytes))))

-- frames are as long as their records' frames, and the closed gate
pub framed_size : (records : List (List ℕ)) → length (framed records) ≡ frames_length records + 1
framed_size records = omega (arith, length-append (flat_map frame records) (0 ∷ []))

-- the frames of no records are one byte, and those of some begin with an open gate and are more
pub none_of_one : (records : List (List ℕ)) (bytes : List ℕ) → bytes ≡ framed records → length bytes ≡ 1 → records ≡ []
none_of_one [] bytes is one = refl
none_of_one (r ∷ records) bytes is one =
    absurd (omega (arith, one, ap length is, length-append (flat_map frame (r ∷ records)) (0 ∷ []), length-append (frame r) (flat_map frame records), length-frame r))

pub one_of_none : (records : List (List ℕ)) (bytes : List ℕ) → bytes ≡ framed records → records ≡ [] → length bytes ≡ 1
one_of_none records bytes is none = ap length (is ∙ ap framed none)

pub first_open : (records : List (List ℕ)) (bytes : List ℕ) → bytes ≡ framed records → (records ≡ [] → ⊥) → 1 ∷ take (length bytes - 1) (drop 1 bytes) ≡ framed records
first_open [] bytes is some = absurd (some refl)
first_open (r ∷ records) bytes is some =
    ap (λ (l : List ℕ). 1 ∷ l) (take_all (length bytes - 1) (drop 1 bytes) (omega (arith, length-drop 1 bytes))) ∙ ap (λ (l : List ℕ). 1 ∷ drop 1 l) is
