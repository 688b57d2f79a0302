-- Settings: what is read is spelled so, in rising order, and what is spelled so is read.
use Rattle.std.proofs.Common.{◌≡◌, ℕ, ◌+◌, ◌<◌, ◌≤◌, Bool, true, false, cond, leb, List, [], ◌∷◌, ◌++◌, length, flat_map, All, Option, Ok, Err, refl, sym, ap, subst, ◌∙◌, append_assoc, arith, leb-true, le-leb}
use Rattle.std.specs.Int.{w16, to_le_bytes}
use Rattle.std.proofs.lemmas.List.Elements.{All-head, All-tail, All-cons, All-nil}
use Rattle.command_types.specs.declared.tolerance.ToleranceRow.{ToleranceRow}
use Rattle.command_types.specs.declared.trade.Side.{Side}
use Rattle.command_types.specs.declared.trade.Side.TheVariants.{Out, In}
use Rattle.command_types.specs.Tolerances.{side_place, setting_place}
use Rattle.command_types.specs.Spelling.{number_spelling, ceiling_spelling, side_byte}
use Rattle.command_types.specs.Bases.{setting_spelling, IsSettingRow, AreRising}
use Rattle.record_codec.specs.Reading.{Read, ◌>>=◌, level_at, side_at, ceiling_at}
use Rattle.record_codec.proofs.FieldFacts.{IsBytes, Takes, Takes-then, IsFormat, ok_is, seq_takes, seq_again}
use Rattle.record_codec.proofs.KindFacts.{number_format, level_format, ceiling_format}
use Rattle.record_codec.proofs.ChangeReading.{side_format}
use Rattle.base_codec.specs.Reading.{short_at, in_order, setting_at, settings_each, settings_at}
use Rattle.base_codec.proofs.BaseKinds.{short_format}
use Rattle.base_codec.proofs.FromReading.{ReadsFrom, AreFrom, from_takes, from_again}

-- a setting whose place is not before the next one
abbrev pub IsSettingFrom : ℕ → ToleranceRow → Type 0
IsSettingFrom next row = IsSettingRow row × (next ≤ setting_place row)

abbrev made : ℕ → ℕ → ℕ → Side → ℕ → Option ℕ → ToleranceRow
made member product other side floor ceiling = record { member = member; product = product; other = other; side = side; floor = floor; ceiling = ceiling }

abbrev after_ceiling : ℕ → ℕ → ℕ → ℕ → ℕ → Side → ℕ → Option ℕ × List ℕ → Read ToleranceRow
after_ceiling next left member product other side floor ceiling = in_order next (made member product other side floor ceiling.0) left ceiling.1

abbrev after_floor : ℕ → ℕ → ℕ → ℕ → ℕ → Side → ℕ × List ℕ → Read ToleranceRow
after_floor next left member product other side floor = ceiling_at floor.1 >>= after_ceiling next left member product other side floor.0

abbrev after_side : ℕ → ℕ → ℕ → ℕ → ℕ → Side × List ℕ → Read ToleranceRow
after_side next left member product other side = level_at side.1 >>= after_floor next left member product other side.0

abbrev after_other : ℕ → ℕ → ℕ → ℕ → ℕ × List ℕ → Read ToleranceRow
after_other next left member product other = side_at other.1 >>= after_side next left member product other.0

abbrev after_product : ℕ → ℕ → ℕ → ℕ × List ℕ → Read ToleranceRow
after_product next left member product = short_at product.1 >>= after_other next left member product.0

abbrev after_member : ℕ → ℕ → ℕ × List ℕ → Read ToleranceRow
after_member next left member = short_at member.1 >>= after_product next left member.0

abbrev ordered : Bool → ToleranceRow → ℕ → List ℕ → Read ToleranceRow
ordered b row left rest = cond b (Ok (row, rest)) (Err left)

order_ok : (b : Bool) (row : ToleranceRow) (left : ℕ) (rest : List ℕ) (x : ToleranceRow × List ℕ) → ordered b row left rest ≡ Ok x → (b ≡ true) × ((row, rest) ≡ x)
order_ok true row left rest x e = (refl, ok_is (row, rest) x e)
order_ok false row left rest x e = absurd cc

setting_takes : (next : ℕ) (bytes : List ℕ) (x : ToleranceRow × List ℕ) → IsBytes bytes → setting_at next bytes ≡ Ok x → Takes bytes (setting_spelling x.0) x.1 × IsSettingFrom next x.0
unfolding setting_at
setting_takes next bytes x fits e =
    let size = length bytes in
    let m = seq_takes short_format bytes (after_member next size) x fits e in
    let p = seq_takes short_format m.0.1 (after_product next size m.0.0) x m.1.rest_fits m.3 in
    let o = seq_takes short_format p.0.1 (after_other next size m.0.0 p.0.0) x p.1.rest_fits p.3 in
    let s = seq_takes side_format o.0.1 (after_side next size m.0.0 p.0.0 o.0.0) x o.1.rest_fits o.3 in
    let f = seq_takes level_format s.0.1 (after_floor next size m.0.0 p.0.0 o.0.0 s.0.0) x s.1.rest_fits s.3 in
    let c = seq_takes ceiling_format f.0.1 (after_ceiling next size m.0.0 p.0.0 o.0.0 s.0.0 f.0.0) x f.1.rest_fits f.3 in
    let row = made m.0.0 p.0.0 o.0.0 s.0.0 f.0.0 c.0.0 in
    let g = order_ok (leb next (setting_place row)) row size c.0.1 x c.3 in
    let t2 = Takes-then bytes (to_le_bytes w16 m.0.0) m.0.1 (to_le_bytes w16 p.0.0) p.0.1 m.1 p.1 in
    let t3 = Takes-then bytes (to_le_bytes w16 m.0.0 ++ to_le_bytes w16 p.0.0) p.0.1 (to_le_bytes w16 o.0.0) o.0.1 t2 o.1 in
    let sf = Takes-then o.0.1 (side_byte s.0.0 ∷ []) s.0.1 (number_spelling f.0.0) f.0.1 s.1 f.1 in
    let t4 = Takes-then bytes (to_le_bytes w16 m.0.0 ++ to_le_bytes w16 p.0.0 ++ to_le_bytes w16 o.0.0) o.0.1 (side_byte s.0.0 ∷ number_spelling f.0.0) f.0.1 t3 sf in
    let t5 = Takes-then bytes (to_le_bytes w16 m.0.0 ++ to_le_bytes w16 p.0.0 ++ to_le_bytes w16 o.0.0 ++ side_byte s.0.0 ∷ number_spelling f.0.0) f.0.1 (ceiling_spelling c.0.0) c.0.1 t4 c.1 in
    let is : IsSettingRow row = record { member = m.2; product = p.2; other = o.2; floor = f.2; ceiling = c.2 } in
    subst (λ (y : ToleranceRow × List ℕ). Takes bytes (setting_spelling y.0) y.1 × IsSettingFrom next y.0) g.1 (t5, (is, leb-true _ _ g.0))

regroup_5 : (a b c d e rest : List ℕ) → a ++ b ++ c ++ d ++ e ++ rest ≡ a ++ (b ++ (c ++ (d ++ (e ++ rest))))
regroup_5 a b c d e rest = simp append_assoc

setting_again : (next : ℕ) (row : ToleranceRow) (rest : List ℕ) → IsSettingFrom next row → setting_at next (setting_spelling row ++ rest) ≡ Ok (row, rest)
unfolding setting_at
setting_again next row rest is =
    let r5 : List ℕ = ceiling_spelling row.ceiling ++ rest in
    let r4 : List ℕ = number_spelling row.floor ++ r5 in
    let r3 : List ℕ = (side_byte row.side ∷ []) ++ r4 in
    let r2 : List ℕ = to_le_bytes w16 row.other ++ r3 in
    let r1 : List ℕ = to_le_bytes w16 row.product ++ r2 in
    let size = length (to_le_bytes w16 row.member ++ r1) in
    ap (setting_at next) (regroup_5 (to_le_bytes w16 row.member) (to_le_bytes w16 row.product) (to_le_bytes w16 row.other) (side_byte row.side ∷ number_spelling row.floor) (ceiling_spelling row.ceiling) rest)
    ∙ seq_again short_format row.member r1 (after_member next size) is.0.member
    ∙ seq_again short_format row.product r2 (after_product next size row.member) is.0.product
    ∙ seq_again short_format row.other r3 (after_other next size row.member row.product) is.0.other
    ∙ seq_again side_format row.side r4 (after_side next size row.member row.product row.other) tt
    ∙ seq_again level_format row.floor r5 (after_floor next size row.member row.product row.other row.side) is.0.floor
    ∙ seq_again ceiling_format row.ceiling rest (after_ceiling next size row.member row.product row.other row.side row.floor) is.0.ceiling
    ∙ ap (λ (b : Bool). ordered b row size rest) (le-leb _ _ is.1)

setting_format : (next : ℕ) → IsFormat (setting_at next) setting_spelling (IsSettingFrom next)
setting_format next = record { takes = setting_takes next; again = setting_again next }

-- ---- all settings

abbrev pub next_place : ℕ → ToleranceRow → ℕ
next_place next row = setting_place row + 1

pub settings_go : ReadsFrom setting_at next_place settings_each
unfolding settings_each
settings_go = record { none = λ n bytes. refl; one = λ count n bytes. refl }

side_small : (s : Side) → side_place s ≤ 1
side_small Out = omega arith
side_small In = omega arith

place_small : (row : ToleranceRow) → IsSettingRow row → setting_place row < 562949953421312
place_small row is = omega (arith, is.member, is.product, is.other, side_small row.side)

few_from : (next : ℕ) (rows : List ToleranceRow) → next ≤ 562949953421312 → AreFrom IsSettingFrom next_place next rows → length rows + next ≤ 562949953421312
few_from next [] le h = omega arith
few_from next (row ∷ rows) le h =
    let small = place_small row h.0.0 in
    omega (arith, h.0.1, small, few_from (setting_place row + 1) rows (omega (arith, small)) h.1)

-- settings in rising order, each with a spelling
abbrev pub AreSettings : List ToleranceRow → Type 0
AreSettings rows = AreFrom IsSettingFrom next_place 0 rows

abbrev pub counted_settings : List ToleranceRow → List ℕ
counted_settings rows = number_spelling (length rows) ++ flat_map setting_spelling rows

abbrev after_count : ℕ × List ℕ → Read (List ToleranceRow)
after_count count = settings_each count.0 0 count.1

settings_take : (bytes : List ℕ) (x : List ToleranceRow × List ℕ) → IsBytes bytes → settings_at bytes ≡ Ok x → Takes bytes (counted_settings x.0) x.1 × AreSettings x.0
unfolding settings_at
settings_take bytes x fits e =
    let c = seq_takes number_format bytes after_count x fits e in
    let each = from_takes next_place settings_each setting_format settings_go c.0.0 0 c.0.1 x c.1.rest_fits c.3 in
    let counted : Takes bytes (number_spelling (length x.0)) c.0.1 = subst (λ (k : ℕ). Takes bytes (number_spelling k) c.0.1) (sym each.1) c.1 in
    (Takes-then bytes (number_spelling (length x.0)) c.0.1 (flat_map setting_spelling x.0) x.1 counted each.0, each.2)

settings_again : (rows : List ToleranceRow) (rest : List ℕ) → AreSettings rows → settings_at (counted_settings rows ++ rest) ≡ Ok (rows, rest)
unfolding settings_at
settings_again rows rest is =
    ap settings_at (append_assoc (number_spelling (length rows)) (flat_map setting_spelling rows) rest)
    ∙ seq_again number_format (length rows) (flat_map setting_spelling rows ++ rest) after_count (omega (arith, few_from 0 rows (omega arith) is))
    ∙ from_again next_place settings_each setting_format settings_go rows 0 rest is

pub settings_format : IsFormat settings_at counted_settings AreSettings
settings_format = record { takes = settings_take; again = settings_again }

-- ---- the same in the words of bases

pub rising_of : (next : ℕ) (rows : List ToleranceRow) → AreFrom IsSettingFrom next_place next rows → AreRising next rows
rising_of next [] h = tt
rising_of next (row ∷ rows) h = (h.0.1, subst (λ (k : ℕ). AreRising k rows) (omega arith) (rising_of (setting_place row + 1) rows h.1))

pub rows_of : (next : ℕ) (rows : List ToleranceRow) → AreFrom IsSettingFrom next_place next rows → All IsSettingRow rows
rows_of next [] h = All-nil IsSettingRow
rows_of next (row ∷ rows) h = All-cons IsSettingRow row rows h.0.0 (rows_of (setting_place row + 1) rows h.1)

pub settings_from : (next : ℕ) (rows : List ToleranceRow) → All IsSettingRow rows → AreRising next rows → AreFrom IsSettingFrom next_place next rows
settings_from next [] each rising = tt
settings_from next (row ∷ rows) each rising = (
  (All-head IsSettingRow row rows each, rising.0),
  settings_from (setting_place row + 1) rows (All-tail IsSettingRow row rows each) (subst (λ (k : ℕ). AreRising k rows) (omega arith) rising.1),
)
