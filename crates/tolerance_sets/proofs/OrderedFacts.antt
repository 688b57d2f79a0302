-- Settings put one after another into a map that keeps its places in order.
use Rattle.std.proofs.Common.{◌≡◌, ℕ, zero, suc, ◌+◌, ◌-◌, ◌<◌, List, [], ◌∷◌, drop, slice_get, Some, refl, sym, ap, subst, ◌∙◌, arith}
use Rattle.std.specs.Map.{values_of}
use Rattle.std.specs.BTreeMap.{insert_entry}
use Rattle.std.specs.Ordering.{match_ordering, nat_cmp}
use Rattle.std.specs.declared.cmp.Ordering.{Ordering}
use Rattle.std.specs.declared.cmp.Ordering.TheVariants.{Less, Equal, Greater}
use Rattle.std.proofs.lemmas.Bool.{eq-eqb, ne_eqb, lt-ltb, le-ltb}
use Rattle.command_types.specs.declared.tolerance.ToleranceRow.{ToleranceRow}
use Rattle.command_types.specs.Tolerances.{setting_place, with_setting}
use Rattle.tolerance_sets.specs.Settings.{settings_of, put_over, IsKeptBy, AreKept, AtPlaces}
use Rattle.tolerance_sets.proofs.PutOver.{put_with}
use Rattle.tolerance_sets.proofs.SettingOrder.{at_same, at_less, at_more, three_ways}

cmp_less : (x y : ℕ) → x < y → nat_cmp x y ≡ Less
cmp_less x y l = rw (lt-ltb x y l) refl

cmp_equal : (x y : ℕ) → x ≡ y → nat_cmp x y ≡ Equal
cmp_equal x y e = rw (le-ltb x y (omega (arith, e)), eq-eqb x y e) refl

cmp_more : (x y : ℕ) → y < x → nat_cmp x y ≡ Greater
cmp_more x y l = rw (le-ltb x y (omega (arith, l)), ne_eqb x y (λ q. omega (arith, q, l))) refl

abbrev Placed : List (ℕ × ToleranceRow) → ToleranceRow → List (ℕ × ToleranceRow) → Type 0
Placed after new before = (values_of after ≡ with_setting new (values_of before)) × AtPlaces after

-- a setting goes to its place there as it does among settings
pub placed_with : (es : List (ℕ × ToleranceRow)) (place : ℕ) (new : ToleranceRow) → place ≡ setting_place new → AtPlaces es → Placed (insert_entry nat_cmp es place new) new es
placed_with [] place new is at = (refl, (is, tt))
placed_with (e ∷ es) place new is at =
    let rest = placed_with es place new is at.1 in
    three_ways place e.0
    (λ l. subst (λ (r : Ordering). Placed (match_ordering r ((place, new) ∷ e ∷ es) ((e.0, new) ∷ es) (e ∷ insert_entry nat_cmp es place new)) new (e ∷ es)) (sym (cmp_less place e.0 l))
    (sym (at_less new e.1 (values_of es) (omega (arith, l, is, at.0))), (is, at)))
    (λ q. subst (λ (r : Ordering). Placed (match_ordering r ((place, new) ∷ e ∷ es) ((e.0, new) ∷ es) (e ∷ insert_entry nat_cmp es place new)) new (e ∷ es)) (sym (cmp_equal place e.0 q))
    (sym (at_same new e.1 (values_of es) (omega (arith, q, is, at.0))), (omega (arith, q, is), at.1)))
    (λ l. subst (λ (r : Ordering). Placed (match_ordering r ((place, new) ∷ e ∷ es) ((e.0, new) ∷ es) (e ∷ insert_entry nat_cmp es place new)) new (e ∷ es)) (sym (cmp_more place e.0 l))
    (ap (λ (rows : List ToleranceRow). e.1 ∷ rows) rest.0 ∙ sym (at_more new e.1 (values_of es) (omega (arith, l, is, at.0))), (at.0, rest.1)))

-- one of the entries, and those from it on
pub drop_from : (es : List (ℕ × ToleranceRow)) (i : ℕ) (e : ℕ × ToleranceRow) → slice_get es i ≡ Some e → drop i es ≡ e ∷ drop (suc i) es
drop_from [] i e is = absurd cc
drop_from (first ∷ es) zero e is = let same : first ≡ e = cc in ap (λ (x : ℕ × ToleranceRow). x ∷ es) same
drop_from (first ∷ es) (suc i) e is = drop_from es i e is

pub kept_at : (es : List (ℕ × ToleranceRow)) (i : ℕ) (e : ℕ × ToleranceRow) → AreKept es → slice_get es i ≡ Some e → IsKeptBy e.0 e.1
kept_at [] i e kept is = absurd cc
kept_at (first ∷ es) zero e kept is = let same : first ≡ e = cc in subst (λ (x : ℕ × ToleranceRow). IsKeptBy x.0 x.1) same kept.0
kept_at (first ∷ es) (suc i) e kept is = kept_at es i e kept.1 is

-- the last entries, and one more
one_before : (es : List (ℕ × ToleranceRow)) (count behind : ℕ) (e : ℕ × ToleranceRow) → behind < count → slice_get es (count - 1 - behind) ≡ Some e →
    settings_of (drop (count - (behind + 1)) es) ≡ with_setting e.1 (settings_of (drop (count - behind) es))
one_before es count behind e lt is =
    let i = count - 1 - behind in
    let next : suc i ≡ count - behind = omega (arith, lt) in
    let here : count - (behind + 1) ≡ i = omega (arith, lt) in
    ap (λ (n : ℕ). settings_of (drop n es)) here ∙ ap settings_of (drop_from es i e is) ∙ ap (λ (n : ℕ). with_setting e.1 (settings_of (drop n es))) next

-- so it is with settings below them
put_next : (below : List ToleranceRow) (es : List (ℕ × ToleranceRow)) (count behind : ℕ) (e : ℕ × ToleranceRow) → behind < count → slice_get es (count - 1 - behind) ≡ Some e →
    with_setting e.1 (put_over below (settings_of (drop (count - behind) es))) ≡ put_over below (settings_of (drop (count - (behind + 1)) es))
put_next below es count behind e lt is =
    sym (put_with below e.1 (settings_of (drop (count - behind) es))) ∙ ap (put_over below) (sym (one_before es count behind e lt is))

-- the settings of the last entries put over others, and one more
pub set_before : (below : List ToleranceRow) (es : List (ℕ × ToleranceRow)) (settings after : List ToleranceRow) (count behind : ℕ) (e : ℕ × ToleranceRow) → behind < count → slice_get es (count - 1 - behind) ≡ Some e
    → settings ≡ put_over below (settings_of (drop (count - behind) es)) → after ≡ with_setting e.1 settings → after ≡ put_over below (settings_of (drop (count - (behind + 1)) es))
set_before below es settings after count behind e lt is so_far set = set ∙ ap (with_setting e.1) so_far ∙ put_next below es count behind e lt is

-- so far the last entries were put
pub put_before : (below : List ToleranceRow) (es made after : List (ℕ × ToleranceRow)) (count behind : ℕ) (e : ℕ × ToleranceRow) → AreKept es → behind < count → slice_get es (count - 1 - behind) ≡ Some e
    → (values_of made ≡ put_over below (settings_of (drop (count - behind) es))) × AtPlaces made → after ≡ insert_entry nat_cmp made e.0 e.1
    → (values_of after ≡ put_over below (settings_of (drop (count - (behind + 1)) es))) × AtPlaces after
put_before below es made after count behind e kept lt is so_far put =
    let i = count - 1 - behind in
    let placed = placed_with made e.0 e.1 (kept_at es i e kept is).place so_far.1 in
    (ap values_of put ∙ placed.0 ∙ ap (with_setting e.1) so_far.0 ∙ put_next below es count behind e lt is, subst AtPlaces (sym put) placed.1)
