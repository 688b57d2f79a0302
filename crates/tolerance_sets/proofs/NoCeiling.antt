-- Settings among which no member set a ceiling in a product.
use Rattle.std.proofs.Common.{◌≡◌, ℕ, ◌==◌, ◌&&◌, Bool, true, false, List, [], ◌∷◌, map, Option, None, Some, refl, sym, ap, ◌∙◌, subst}
use Rattle.std.specs.List.{list_any}
use Rattle.std.specs.Option.{is_some}
use Rattle.std.proofs.lemmas.Bool.{and_parts, or_parts}
use Rattle.command_types.specs.declared.tolerance.ToleranceRow.{ToleranceRow}
use Rattle.command_types.specs.Tolerances.{side_place, setting_place, is_setting_of, ceiling_in, with_setting}
use Rattle.tolerance_sets.specs.Settings.{settings_of, sets_ceiling, HaveNoCeiling}
use Rattle.tolerance_sets.proofs.SettingOrder.{three_ways, at_same, at_less, at_more}

abbrev pub None_sets : ℕ → List ToleranceRow → Type 0
None_sets product [] = Unit {0}
None_sets product (row ∷ rows) = (sets_ceiling product row ≡ false) × None_sets product rows

none_with : (product : ℕ) (new : ToleranceRow) (rows : List ToleranceRow) → sets_ceiling product new ≡ false → None_sets product rows → None_sets product (with_setting new rows)
none_with product new [] without none = (without, tt)
none_with product new (row ∷ rows) without none =
    let P : List ToleranceRow → Type 0 = None_sets product in
    three_ways (setting_place row) (setting_place new)
    (λ l. subst P (sym (at_more new row rows l)) (none.0, none_with product new rows without none.1))
    (λ q. subst P (sym (at_same new row rows q)) (without, none.1))
    (λ l. subst P (sym (at_less new row rows l)) (without, none))

none_of : (product : ℕ) (entries : List (ℕ × ToleranceRow)) → list_any (sets_ceiling product) (map (λ e. e.1) entries) ≡ false → None_sets product (settings_of entries)
none_of product [] without = tt
none_of product (entry ∷ entries) without =
    let parts = or_parts (sets_ceiling product entry.1) (list_any (sets_ceiling product) (map (λ e. e.1) entries)) without in
    none_with product entry.1 (settings_of entries) parts.0 (none_of product entries parts.1)

no_ceiling : (ceiling : Option ℕ) → is_some ceiling ≡ false → ceiling ≡ None
no_ceiling None e = refl
no_ceiling (Some most) e = cc

none_found : (product : ℕ) (rows : List ToleranceRow) → None_sets product rows → HaveNoCeiling rows product
none_found product [] none member other side = refl
none_found product (row ∷ rows) none member other side =
    by (is_setting_of member product other (side_place side) row) refl (none_found product rows none.1 member other side)
  where
    by : (t : Bool) → is_setting_of member product other (side_place side) row ≡ t → ceiling_in rows member product other side ≡ None → ceiling_in (row ∷ rows) member product other side ≡ None
    by false e rest = rw e rest
    by true e rest =
        let p = and_parts ((row.member == member) && (row.product == product) && (row.other == other)) (side_place row.side == side_place side) e in
        let q = and_parts ((row.member == member) && (row.product == product)) (row.other == other) p.0 in
        let r = and_parts (row.member == member) (row.product == product) q.0 in
        let none_here : is_some row.ceiling ≡ false = sym (ap (λ b. b && is_some row.ceiling) r.1) ∙ none.0 in
        rw e (no_ceiling row.ceiling none_here)

pub none_set : (product : ℕ) (entries : List (ℕ × ToleranceRow)) → list_any (sets_ceiling product) (map (λ e. e.1) entries) ≡ false → HaveNoCeiling (settings_of entries) product
none_set product entries without = none_found product (settings_of entries) (none_of product entries without)
