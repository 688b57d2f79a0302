-- Settings among which a member made none in a product.
use Rattle.std.proofs.Common.{◌≡◌, ◌≢◌, ℕ, ◌+◌, ◌%◌, ◌<◌, ◌≤◌, ◌==◌, ◌&&◌, ◌||◌, Bool, true, false, List, [], ◌∷◌, length, map, take, get_or, set, slice_get, Some, None, refl, sym, ap, ◌∙◌, subst, ⊎_elim, arith, ne_eqb, get_or-set_same, get_or-set_other}
use Rattle.std.specs.List.{list_any}
use Rattle.std.proofs.lemmas.List.{take_all}
use Rattle.std.proofs.lemmas.List.Folds.{list_any_more}
use Rattle.std.proofs.lemmas.Option.{same_Some, slice_get-get_or, slice_get_within}
use Rattle.std.proofs.lemmas.Bool.{and_parts, or_parts, cases_eq, false≢true}
use Rattle.command_types.specs.declared.tolerance.ToleranceRow.{ToleranceRow}
use Rattle.command_types.specs.Tolerances.{side_place, setting_place, is_setting_of, floor_in, ceiling_in, with_setting}
use Rattle.tolerance_sets.specs.Settings.{settings_of, sets_in, SetsNothing}
use Rattle.tolerance_sets.proofs.SettingOrder.{three_ways, at_same, at_less, at_more}

abbrev None_made : ℕ → ℕ → List ToleranceRow → Type 0
None_made product member [] = Unit {0}
None_made product member (row ∷ rows) = (sets_in product member row ≡ false) × None_made product member rows

none_with : (product member : ℕ) (new : ToleranceRow) (rows : List ToleranceRow) → sets_in product member new ≡ false → None_made product member rows → None_made product member (with_setting new rows)
none_with product member new [] without none = (without, tt)
none_with product member new (row ∷ rows) without none =
    let P : List ToleranceRow → Type 0 = None_made product member in
    three_ways (setting_place row) (setting_place new)
    (λ l. subst P (sym (at_more new row rows l)) (none.0, none_with product member new rows without none.1))
    (λ q. subst P (sym (at_same new row rows q)) (without, none.1))
    (λ l. subst P (sym (at_less new row rows l)) (without, none))

none_of : (product member : ℕ) (entries : List (ℕ × ToleranceRow)) → list_any (sets_in product member) (map (λ e. e.1) entries) ≡ false → None_made product member (settings_of entries)
none_of product member [] without = tt
none_of product member (entry ∷ entries) without =
    let parts = or_parts (sets_in product member entry.1) (list_any (sets_in product member) (map (λ e. e.1) entries)) without in
    none_with product member entry.1 (settings_of entries) parts.0 (none_of product member entries parts.1)

none_found : (product member : ℕ) (rows : List ToleranceRow) → None_made product member rows → SetsNothing rows product member
none_found product member [] none other side = (refl, refl)
none_found product member (row ∷ rows) none other side =
    by (is_setting_of member product other (side_place side) row) refl (none_found product member rows none.1 other side)
  where
    by : (t : Bool) → is_setting_of member product other (side_place side) row ≡ t → (floor_in rows member product other side ≡ 0) × (ceiling_in rows member product other side ≡ None) →
        (floor_in (row ∷ rows) member product other side ≡ 0) × (ceiling_in (row ∷ rows) member product other side ≡ None)
    by false e rest = (rw e rest.0, rw e rest.1)
    by true e rest =
        let p = and_parts ((row.member == member) && (row.product == product) && (row.other == other)) (side_place row.side == side_place side) e in
        let q = and_parts ((row.member == member) && (row.product == product)) (row.other == other) p.0 in
        let r = and_parts (row.member == member) (row.product == product) q.0 in
        let made : sets_in product member row ≡ true = ap (λ t. t && (row.member == member)) r.1 ∙ r.0 in
        absurd (false≢true (sym none.0 ∙ made))

pub none_made : (product member : ℕ) (entries : List (ℕ × ToleranceRow)) → list_any (sets_in product member) (map (λ e. e.1) entries) ≡ false → SetsNothing (settings_of entries) product member
none_made product member entries without = none_found product member (settings_of entries) (none_of product member entries without)

any_mapped : (test : ToleranceRow → Bool) (entries : List (ℕ × ToleranceRow)) → list_any test (map (λ e. e.1) entries) ≡ list_any (λ e. test e.1) entries
any_mapped test [] = refl
any_mapped test (entry ∷ entries) = ap (λ t. test entry.1 || t) (any_mapped test entries)

-- the marks of some settings: a member without one made none of them in the product
abbrev pub Marks : ℕ → List (ℕ × ToleranceRow) → List Bool → Type 0
Marks product entries marks = (member : ℕ) → get_or marks (member % 256) false ≡ false → list_any (λ e. sets_in product member e.1) entries ≡ false

pub marks_all : (product : ℕ) (entries : List (ℕ × ToleranceRow)) (at : ℕ) (marks : List Bool) → length entries ≤ at → Marks product (take at entries) marks → (member : ℕ) → get_or marks (member % 256) false ≡ false →
    list_any (sets_in product member) (map (λ e. e.1) entries) ≡ false
marks_all product entries at marks over are member off =
    any_mapped (sets_in product member) entries ∙ ap (list_any (λ e. sets_in product member e.1)) (sym (take_all at entries over)) ∙ are member off

-- one more that is looked at
more_marks : (product at : ℕ) (entries : List (ℕ × ToleranceRow)) (e : ℕ × ToleranceRow) (member : ℕ) → slice_get entries at ≡ Some e → list_any (λ f. sets_in product member f.1) (take at entries) ≡ false → sets_in product member e.1 ≡ false →
    list_any (λ f. sets_in product member f.1) (take (at + 1) entries) ≡ false
more_marks product at entries e member is before own =
    let within : at < length entries = slice_get_within entries at e is in
    let test : ℕ × ToleranceRow → Bool = λ f. sets_in product member f.1 in
    list_any_more test entries at e within ∙ ap (λ t. t || test (get_or entries at e)) before ∙ ap test (same_Some (get_or entries at e) e (sym (slice_get-get_or entries at e within) ∙ is)) ∙ own

pub marks_other : (product at : ℕ) (entries : List (ℕ × ToleranceRow)) (e : ℕ × ToleranceRow) (marks : List Bool) → slice_get entries at ≡ Some e → (e.1.product == product) ≡ false → Marks product (take at entries) marks → Marks product (take (at + 1) entries) marks
marks_other product at entries e marks is other are = λ member off.
    more_marks product at entries e member is (are member off) (ap (λ t. t && (e.1.member == member)) other)

and_last : (t : Bool) → (t && false) ≡ false
and_last true = refl
and_last false = refl

pub marks_own : (product at : ℕ) (entries : List (ℕ × ToleranceRow)) (e : ℕ × ToleranceRow) (marks : List Bool) → length marks ≡ 256 → slice_get entries at ≡ Some e → Marks product (take at entries) marks →
    Marks product (take (at + 1) entries) (set marks (e.1.member % 256) true)
marks_own product at entries e marks long is are = λ member off.
    let k = e.1.member % 256 in
    ⊎_elim
    (λ (same : member % 256 ≡ k).
    absurd (false≢true (sym off ∙ ap (λ n. get_or (set marks k true) n false) same ∙ get_or-set_same marks k true false (let l : k < length marks = omega (arith, long) in l))))
    (λ (apart : member % 256 ≢ k).
    let before : get_or marks (member % 256) false ≡ false = sym (get_or-set_other marks k (member % 256) true false apart) ∙ off in
    let other : (e.1.member == member) ≡ false = ne_eqb e.1.member member (λ q. apart (ap (λ n. n % 256) (sym q))) in
    more_marks product at entries e member is (are member before) (ap (λ t. (e.1.product == product) && t) other ∙ and_last (e.1.product == product)))
    (cases_eq (member % 256) k)
