-- The bytes of a journal without changes hold its base.
use Rattle.std.proofs.Common.{◌≡◌, inl, inr, ℕ, ◌+◌, ◌<◌, ◌≤◌, List, [], ◌∷◌, ◌++◌, length, length-append, take, drop, append_assoc, refl, sym, ◌∙◌, subst, ap, arith}
use Rattle.std.proofs.lemmas.List.{drop-drop}
use Rattle.std.proofs.Math.Seq.{take-append_seam, drop-append_seam}
use Rattle.std.specs.Int.{w32, to_le_bytes}
use Rattle.command_types.specs.declared.base.Base.{Base}
use Rattle.command_types.specs.declared.spelling.Spelling.TheVariants.{Second}
use Rattle.command_types.specs.Bases.{base_spelling, Fits, IsWrittenBase}
use Rattle.command_types.specs.Roster.{Rows}
use Rattle.journal_core.specs.declared.form.Form.TheVariants.{Slots}
use Rattle.journal_core.specs.Holds.{IsJournal, IsShort, Holds, limit}
use Rattle.recovery.specs.StandsFor.{StandsFor}
use Rattle.fresh_journal.specs.Journals.{begun_history, journal_of}

module _ (base : List ℕ) (fits : 29 + length base < limit) where
  -- the base behind its length
  size : length (to_le_bytes w32 (length base) ++ base) ≡ 4 + length base
  size = length-append (to_le_bytes w32 (length base)) base

  spread : to_le_bytes w32 (length base) ++ base ++ 0 ∷ [] ≡ (to_le_bytes w32 (length base) ++ base) ++ 0 ∷ []
  spread = sym (append_assoc (to_le_bytes w32 (length base)) base (0 ∷ []))

  based : take (4 + length base) (to_le_bytes w32 (length base) ++ base ++ 0 ∷ []) ≡ to_le_bytes w32 (length base) ++ base
  based =
      ap (λ n. take n (to_le_bytes w32 (length base) ++ base ++ 0 ∷ [])) (sym size)
      ∙ ap (λ (l : List ℕ). take (length (to_le_bytes w32 (length base) ++ base)) l) spread
      ∙ take-append_seam (to_le_bytes w32 (length base) ++ base) (0 ∷ [])

  behind : drop (4 + length base) (to_le_bytes w32 (length base) ++ base ++ 0 ∷ []) ≡ 0 ∷ []
  behind =
      ap (λ n. drop n (to_le_bytes w32 (length base) ++ base ++ 0 ∷ [])) (sym size)
      ∙ ap (λ (l : List ℕ). drop (length (to_le_bytes w32 (length base) ++ base)) l) spread
      ∙ drop-append_seam (to_le_bytes w32 (length base) ++ base) (0 ∷ [])

  at_gate : drop (29 + length base) (journal_of base) ≡ 0 ∷ []
  at_gate =
      let sum : 29 + length base ≡ 25 + (4 + length base) = omega arith in
      ap (λ n. drop n (journal_of base)) sum ∙ sym (drop-drop (4 + length base) 25 (journal_of base)) ∙ behind

  is_journal : IsJournal (Slots 0 25) (journal_of base) base []
  is_journal = record {
    place = 29 + length base;
    leads = record {
      selector = 0;
      header = refl;
      selector_is = refl;
      selects = inr (omega arith, refl);
      slot = refl;
      low = omega arith;
      based = based;
      place_is = omega arith;
    };
    gate = 0;
    rest = [];
    split = at_gate;
    closed = omega arith;
    within = omega (arith, fits);
  }

  long : 1 ≤ length base → IsShort (journal_of base) → ⊥
  long some (inl short) = omega (arith, short)
  long some (inr short) = omega (arith, short.0, some, ap length spread, length-append (to_le_bytes w32 (length base) ++ base) (0 ∷ []), size)

  pub holds : 1 ≤ length base → Holds (journal_of base) base []
  holds some = inr (long some, (Slots 0 25, is_journal))

-- so they stand for the history that begins with it
pub begun_stands : (b : Base) (bytes : List ℕ) → bytes ≡ base_spelling Second b → IsWrittenBase b → 29 + length bytes < limit → (roster : Rows) → Fits roster b → StandsFor (journal_of bytes) (begun_history roster b)
begun_stands b bytes same form fits roster in_roster =
    subst (λ (l : List ℕ). StandsFor (journal_of l) (begun_history roster b)) (sym same) (
      base_spelling Second b,
      [],
      holds (base_spelling Second b) (subst (λ (l : List ℕ). 29 + length l < limit) same fits) (omega arith),
      (b, record { fields = form; behind = Second; same = refl }, in_roster, refl),
      tt,
    )
