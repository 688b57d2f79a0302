-- Settings in rising order, put one after another.
use Rattle.std.proofs.Common.{◌≡◌, ℕ, zero, suc, ◌+◌, ◌≤◌, ◌<◌, List, [], ◌∷◌, ◌++◌, length, take, get_or, slice_get, Some, refl, sym, ap, ◌∙◌, subst, arith}
use Rattle.std.proofs.lemmas.List.{take_more}
use Rattle.std.proofs.lemmas.Option.{slice_get_read}
use Rattle.command_types.specs.declared.tolerance.ToleranceRow.{ToleranceRow}
use Rattle.command_types.specs.Bases.{AreRising}
use Rattle.command_types.specs.Tolerances.{setting_place, with_setting}
use Rattle.tolerance_sets.proofs.SettingOrder.{at_more}

rising_low : (above : ℕ) (front : List ToleranceRow) (new : ToleranceRow) (back : List ToleranceRow) → AreRising above (front ++ new ∷ back) → above ≤ setting_place new
rising_low above [] new back (low, rest) = low
rising_low above (row ∷ front) new back (low, rest) = let more = rising_low (suc (setting_place row)) front new back rest in omega (arith, low, more)

-- a setting above all others comes last
set_behind : (above : ℕ) (front : List ToleranceRow) (new : ToleranceRow) (back : List ToleranceRow) → AreRising above (front ++ new ∷ back) → with_setting new front ≡ front ++ new ∷ []
set_behind above [] new back rising = refl
set_behind above (row ∷ front) new back (low, rest) =
    let more = rising_low (suc (setting_place row)) front new back rest in
    at_more new row front (omega (arith, more)) ∙ ap (λ (rows : List ToleranceRow). row ∷ rows) (set_behind (suc (setting_place row)) front new back rest)

split_at : (rows : List ToleranceRow) (i : ℕ) (row : ToleranceRow) → slice_get rows i ≡ Some row → (back : List ToleranceRow) × (rows ≡ take i rows ++ row ∷ back)
split_at [] i row is = absurd cc
split_at (first ∷ rows) zero row is = (rows, (let same : first ≡ row = cc in ap (λ (r : ToleranceRow). r ∷ rows) same))
split_at (first ∷ rows) (suc i) row is =
    let rest = split_at rows i row is in
    (rest.0, ap (λ (l : List ToleranceRow). first ∷ l) rest.1)

-- so the first of rising settings are kept as they stand
pub set_next : (rows settings next : List ToleranceRow) (i : ℕ) (row : ToleranceRow) → AreRising 0 rows → i < length rows → row ≡ get_or rows i row → settings ≡ take i rows → next ≡ with_setting row settings → next ≡ take (i + 1) rows
set_next rows settings next i row rising lt is so_far set =
    let split = split_at rows i row (slice_get_read rows (length rows) i row refl lt is) in
    set ∙ ap (with_setting row) so_far ∙ set_behind 0 (take i rows) row split.0 (subst (AreRising 0) split.1 rising)
    ∙ ap (λ (r : ToleranceRow). take i rows ++ r ∷ []) is ∙ sym (take_more rows i row lt)
