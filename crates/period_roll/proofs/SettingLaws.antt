-- Floors and ceilings between members and products of the new roster are those of before.
use Rattle.std.proofs.Common.{◌≡◌, ℕ, suc, ◌+◌, ◌*◌, ◌≤◌, ◌<◌, ◌==◌, ◌&&◌, nat_lt, Bool, true, false, List, [], ◌∷◌, length, Option, Some, None, All, Ok, if◌then◌else◌, refl, sym, ap, ◌∙◌, arith}
use Rattle.std.proofs.lemmas.Bool.{false≢true, and_parts, eqb-true, eq-eqb}
use Rattle.std.proofs.lemmas.List.Elements.{All-nil, All-cons, All-head, All-tail}
use Rattle.units_core.specs.Day.{DayParts}
use Rattle.command_types.specs.declared.base.Base.{Base}
use Rattle.command_types.specs.declared.tolerance.ToleranceRow.{ToleranceRow}
use Rattle.command_types.specs.declared.trade.Side.{Side}
use Rattle.command_types.specs.declared.trade.Side.TheVariants.{Out, In}
use Rattle.command_types.specs.Roster.{Rows, IsRoster, member_place, product_place}
use Rattle.command_types.specs.Tolerances.{side_place, setting_place, with_setting, is_setting_of, floor_in, ceiling_in}
use Rattle.command_types.specs.Bases.{AreRising, CanBeWritten}
use Rattle.period_roll.specs.Places.{new_member, new_product}
use Rattle.period_roll.specs.Settings.{moved_beside, moved_setting, setting_at, with_some}
use Rattle.period_roll.specs.Rolls.{rolled_base}
use Rattle.period_roll.specs.Laws.{floor_at, ceiling_at}
use Rattle.period_roll.proofs.Found.{is_found, gone_member, gone_product, member_same, product_same, member_within, product_within}
use Rattle.period_roll.proofs.Moved.{is_made}

-- ---- the first setting for which a test holds

abbrev first_of : {A : Type 0} → (ToleranceRow → A) → (ToleranceRow → Bool) → A → List ToleranceRow → A
first_of value test none [] = none
first_of value test none (row ∷ rows) = if test row then value row else first_of value test none rows

-- places in two bytes
record IsSmall (row : ToleranceRow) : Type 0 where
  product : row.product < 65536
  other : row.other < 65536

halves : (x y c d : ℕ) → c ≤ 1 → d ≤ 1 → x * 2 + c ≡ y * 2 + d → (x ≡ y) × (c ≡ d)
halves x y c d l m e = (omega (arith, l, m, e), omega (arith, l, m, e))

words : (x y c d : ℕ) → c < 65536 → d < 65536 → x * 65536 + c ≡ y * 65536 + d → (x ≡ y) × (c ≡ d)
words x y c d l m e = (omega (arith, l, m, e), omega (arith, l, m, e))

side_low : (side : Side) → side_place side ≤ 1
side_low Out = omega arith
side_low In = omega arith

-- four parts of a setting
record IsOf (member product other side : ℕ) (row : ToleranceRow) : Type 0 where
  member_is : row.member ≡ member
  product_is : row.product ≡ product
  other_is : row.other ≡ other
  side_is : side_place row.side ≡ side

is_of : (member product other side : ℕ) (row : ToleranceRow) → is_setting_of member product other side row ≡ true → IsOf member product other side row
is_of member product other side row t =
    let p = and_parts ((row.member == member) && (row.product == product) && (row.other == other)) (side_place row.side == side) t in
    let q = and_parts ((row.member == member) && (row.product == product)) (row.other == other) p.0 in
    let r = and_parts (row.member == member) (row.product == product) q.0 in
    record { member_is = eqb-true row.member member r.0; product_is = eqb-true row.product product r.1; other_is = eqb-true row.other other q.1; side_is = eqb-true (side_place row.side) side p.1 }

-- two settings of the same parts stand at one place
same_place : (member product other side : ℕ) (a b : ToleranceRow) → IsOf member product other side a → IsOf member product other side b → setting_place a ≡ setting_place b
same_place member product other side a b x y =
    (λ j. ((x.member_is j * 65536 + x.product_is j) * 65536 + x.other_is j) * 2 + x.side_is j)
    ∙ sym (λ j. ((y.member_is j * 65536 + y.product_is j) * 65536 + y.other_is j) * 2 + y.side_is j)

-- and those at one place have the same parts
same_parts : (member product other side : ℕ) (a b : ToleranceRow) → IsSmall a → IsSmall b → setting_place a ≡ setting_place b → is_setting_of member product other side a ≡ is_setting_of member product other side b
same_parts member product other side a b sa sb e =
    let half = halves ((a.member * 65536 + a.product) * 65536 + a.other) ((b.member * 65536 + b.product) * 65536 + b.other) (side_place a.side) (side_place b.side) (side_low a.side) (side_low b.side) e in
    let low = words (a.member * 65536 + a.product) (b.member * 65536 + b.product) a.other b.other sa.other sb.other half.0 in
    let high = words a.member b.member a.product b.product sa.product sb.product low.0 in
    λ j. (high.0 j == member) && (high.1 j == product) && (low.1 j == other) && (half.1 j == side)

-- ---- a setting that was put

module _ {A : Type 0} (value : ToleranceRow → A) (member product other side : ℕ) (none : A) where
  abbrev test : ToleranceRow → Bool
  test row = is_setting_of member product other side row

  abbrev found : List ToleranceRow → A
  found rows = first_of value test none rows

  module _ (new : ToleranceRow) (small : IsSmall new) where
    put_by : (own mine same less : Bool) (row : ToleranceRow) (rows more : List ToleranceRow) → test new ≡ own → test row ≡ mine → (setting_place row == setting_place new) ≡ same → IsSmall row →
        found more ≡ (if own then value new else found rows) →
        found (if same then new ∷ rows else (if less then new ∷ row ∷ rows else row ∷ more)) ≡ (if own then value new else found (row ∷ rows))
    put_by true mine true less row rows more n r s sr later = ap (λ t. if t then value new else found rows) n
    put_by true mine false true row rows more n r s sr later = ap (λ t. if t then value new else found (row ∷ rows)) n
    put_by true true false false row rows more n r s sr later =
        let same = same_place member product other side row new (is_of member product other side row r) (is_of member product other side new n) in
        absurd (false≢true (sym s ∙ eq-eqb (setting_place row) (setting_place new) same))
    put_by true false false false row rows more n r s sr later = ap (λ t. if t then value row else found more) r ∙ later
    put_by false mine true less row rows more n r s sr later =
        let same = same_parts member product other side row new sr small (eqb-true (setting_place row) (setting_place new) s) in
        ap (λ t. if t then value new else found rows) n ∙ sym (ap (λ t. if t then value row else found rows) (same ∙ n))
    put_by false mine false true row rows more n r s sr later = ap (λ t. if t then value new else found (row ∷ rows)) n
    put_by false mine false false row rows more n r s sr later = ap (λ (v : A). if test row then value row else v) later

    put_found : (rows : List ToleranceRow) → All IsSmall rows → found (with_setting new rows) ≡ (if test new then value new else found rows)
    put_found [] all = refl
    put_found (row ∷ rows) all =
        put_by (test new) (test row) (setting_place row == setting_place new) (nat_lt (setting_place new) (setting_place row)) row rows (with_setting new rows) refl refl refl (All-head IsSmall row rows all)
        (put_found rows (All-tail IsSmall row rows all))

  set_by : (put : ToleranceRow) → IsSmall put → (same less : Bool) (row : ToleranceRow) (rows more : List ToleranceRow) → IsSmall row → All IsSmall rows → All IsSmall more →
      All IsSmall (if same then put ∷ rows else (if less then put ∷ row ∷ rows else row ∷ more))
  set_by put is true less row rows more here rest later = All-cons IsSmall put rows is rest
  set_by put is false true row rows more here rest later = All-cons IsSmall put (row ∷ rows) is (All-cons IsSmall row rows here rest)
  set_by put is false false row rows more here rest later = All-cons IsSmall row more here later

  set_small : (put : ToleranceRow) → IsSmall put → (rows : List ToleranceRow) → All IsSmall rows → All IsSmall (with_setting put rows)
  set_small put is [] all = All-cons IsSmall put [] is (All-nil IsSmall)
  set_small put is (row ∷ rows) all =
      set_by put is (setting_place row == setting_place put) (nat_lt (setting_place put) (setting_place row)) row rows (with_setting put rows) (All-head IsSmall row rows all) (All-tail IsSmall row rows all)
      (set_small put is rows (All-tail IsSmall row rows all))

-- ---- settings that were moved

-- the setting is that of a member that was found, for a side of a pair
abbrev is_found_of : Option ℕ → Option ℕ → Option ℕ → ℕ → ToleranceRow → Bool
is_found_of member product other side row = is_found member row.member && is_found product row.product && is_found other row.other && (side_place row.side == side)

-- in rising order no two are of the same parts
later_none : {A : Type 0} (value : ToleranceRow → A) (member product other : Option ℕ) (side above : ℕ) (first : ToleranceRow) (rows : List ToleranceRow) (none : A) → setting_place first < above →
    is_found_of member product other side first ≡ true → AreRising above rows → first_of value (is_found_of member product other side) none rows ≡ none
later_none value (Some member) (Some product) (Some other) side above first [] none low is rising = refl
later_none value (Some member) (Some product) (Some other) side above first (row ∷ rows) none low is (here, rest) =
    by (is_setting_of member product other side row) refl
    (later_none value (Some member) (Some product) (Some other) side (suc (setting_place row)) first rows none (omega (arith, low, here)) is rest)
  where
    by : (t : Bool) → is_setting_of member product other side row ≡ t → first_of value (is_found_of (Some member) (Some product) (Some other) side) none rows ≡ none →
        first_of value (is_found_of (Some member) (Some product) (Some other) side) none (row ∷ rows) ≡ none
    by true e later =
        let same = same_place member product other side first row (is_of member product other side first is) (is_of member product other side row e) in
        absurd (omega (arith, same, low, here))
    by false e later = ap (λ t. if t then value row else first_of value (is_found_of (Some member) (Some product) (Some other) side) none rows) e ∙ later
later_none value None product other side above first rows none low is rising = absurd (false≢true is)
later_none value (Some member) None other side above first rows none low is rising =
    let all = and_parts ((first.member == member) && false && is_found other first.other) (side_place first.side == side) is in
    let three = and_parts ((first.member == member) && false) (is_found other first.other) all.0 in
    absurd (false≢true (and_parts (first.member == member) false three.0).1)
later_none value (Some member) (Some product) None side above first rows none low is rising =
    let all = and_parts ((first.member == member) && (first.product == product) && false) (side_place first.side == side) is in
    absurd (false≢true (and_parts ((first.member == member) && (first.product == product)) false all.0).1)

and_false : (a : Bool) → (a && false) ≡ false
and_false true = refl
and_false false = refl

module _ {A : Type 0} (value : ToleranceRow → A) (none : A) (old new : Rows) (before : IsRoster old) (after : IsRoster new) (member product other : List ℕ) (side m p o : ℕ)
    (blind : (row : ToleranceRow) (a b c : ℕ) → value (record row { member = a; product = b; other = c }) ≡ value row)
    (em : member_place new member ≡ Some m) (ep : product_place new product ≡ Some p) (eo : member_place new other ≡ Some o) where
  abbrev old_test : ToleranceRow → Bool
  old_test row = is_found_of (member_place old member) (product_place old product) (member_place old other) side row

  abbrev now : List ToleranceRow → A
  now rows = first_of value (is_setting_of m p o side) none rows

  few : (k n : ℕ) → k < n → n ≤ 256 → k < 65536
  few k n l e = omega (arith, l, e)

  -- one more setting
  moved_one : (row : ToleranceRow) (a b c : Option ℕ) → new_member old new row.member ≡ a → new_product old new row.product ≡ b → new_member old new row.other ≡ c → (made : List ToleranceRow) → All IsSmall made →
      (now (with_some (setting_at row a b c) made) ≡ (if old_test row then value row else now made)) × All IsSmall (with_some (setting_at row a b c) made)
  moved_one row (Some x) (Some y) (Some z) ex ey ez made small =
      let put : ToleranceRow = record row { member = x; product = y; other = z } in
      let put_small : IsSmall put = record {
        product = few y (length new.products) (product_within old new row.product y ey) (omega (arith, after.few_products));
        other = few z (length new.members) (member_within old new row.other z ez) (omega (arith, after.few_members));
      } in
      let first : (x == m) ≡ is_found (member_place old member) row.member = sym (member_same old new row.member x before ex member ∙ ap (λ r. is_found r x) em) in
      let second : (y == p) ≡ is_found (product_place old product) row.product = sym (product_same old new row.product y before ey product ∙ ap (λ r. is_found r y) ep) in
      let third : (z == o) ≡ is_found (member_place old other) row.other = sym (member_same old new row.other z before ez other ∙ ap (λ r. is_found r z) eo) in
      (put_found value m p o side none put put_small made small ∙ (λ j. if first j && second j && third j && (side_place row.side == side) then blind row x y z j else now made), set_small value m p o side none put put_small made small)
  moved_one row (Some x) (Some y) None ex ey ez made small =
      let gone = gone_member old new row.other o other ez eo in
      let out : old_test row ≡ false =
      (λ j. is_found (member_place old member) row.member && is_found (product_place old product) row.product && gone j && (side_place row.side == side))
      ∙ ap (λ t. t && (side_place row.side == side)) (and_false (is_found (member_place old member) row.member && is_found (product_place old product) row.product)) in
      (sym (ap (λ t. if t then value row else now made) out), small)
  moved_one row (Some x) None c ex ey ez made small =
      let gone = gone_product old new row.product p product ey ep in
      let out : old_test row ≡ false =
      (λ j. is_found (member_place old member) row.member && gone j && is_found (member_place old other) row.other && (side_place row.side == side))
      ∙ ap (λ t. t && is_found (member_place old other) row.other && (side_place row.side == side)) (and_false (is_found (member_place old member) row.member)) in
      (sym (ap (λ t. if t then value row else now made) out), small)
  moved_one row None b c ex ey ez made small =
      let gone = gone_member old new row.member m member ex em in
      let out : old_test row ≡ false = λ j. gone j && is_found (product_place old product) row.product && is_found (member_place old other) row.other && (side_place row.side == side) in
      (sym (ap (λ t. if t then value row else now made) out), small)

  moved_now : (rows made : List ToleranceRow) (above : ℕ) → AreRising above rows → All IsSmall made → now (moved_beside old new made rows) ≡ first_of value old_test (now made) rows
  moved_now [] made above rising small = refl
  moved_now (row ∷ rows) made above (low, rest) small =
      let one = moved_one row (new_member old new row.member) (new_product old new row.product) (new_member old new row.other) refl refl refl made small in
      moved_now rows (with_some (moved_setting old new row) made) (suc (setting_place row)) rest one.1
      ∙ ap (λ v. first_of value old_test v rows) one.0
      ∙ last (old_test row) refl
    where
      last : (t : Bool) → old_test row ≡ t → first_of value old_test (if t then value row else now made) rows ≡ (if t then value row else first_of value old_test (now made) rows)
      last true e = later_none value (member_place old member) (product_place old product) (member_place old other) side (suc (setting_place row)) row rows (value row) (omega arith) e rest
      last false e = refl

-- ---- floors and ceilings

floor_first : (rows : List ToleranceRow) (member product other : ℕ) (side : Side) → floor_in rows member product other side ≡ first_of (λ row. row.floor) (is_setting_of member product other (side_place side)) 0 rows
floor_first [] member product other side = refl
floor_first (row ∷ rows) member product other side = ap (λ n. if is_setting_of member product other (side_place side) row then row.floor else n) (floor_first rows member product other side)

ceiling_first : (rows : List ToleranceRow) (member product other : ℕ) (side : Side) → ceiling_in rows member product other side ≡ first_of (λ row. row.ceiling) (is_setting_of member product other (side_place side)) None rows
ceiling_first [] member product other side = refl
ceiling_first (row ∷ rows) member product other side = ap (λ n. if is_setting_of member product other (side_place side) row then row.ceiling else n) (ceiling_first rows member product other side)

first_none : {A : Type 0} (value : ToleranceRow → A) (test : ToleranceRow → Bool) (none : A) (rows : List ToleranceRow) → ((row : ToleranceRow) → test row ≡ false) → none ≡ first_of value test none rows
first_none value test none [] never = refl
first_none value test none (row ∷ rows) never = first_none value test none rows never ∙ sym (ap (λ t. if t then value row else first_of value test none rows) (never row))

second_none : (a b c : Bool) → (a && false && b && c) ≡ false
second_none true b c = refl
second_none false b c = refl

third_none : (a b c : Bool) → (a && b && false && c) ≡ false
third_none true true c = refl
third_none true false c = refl
third_none false b c = refl

floor_found : (rows : List ToleranceRow) (side : Side) (member product other : Option ℕ) → floor_at rows side member product other ≡ first_of (λ row. row.floor) (is_found_of member product other (side_place side)) 0 rows
floor_found rows side (Some member) (Some product) (Some other) = floor_first rows member product other side
floor_found rows side (Some member) (Some product) None = first_none (λ row. row.floor) (is_found_of (Some member) (Some product) None (side_place side)) 0 rows (λ row. third_none (row.member == member) (row.product == product) (side_place row.side == side_place side))
floor_found rows side (Some member) None other = first_none (λ row. row.floor) (is_found_of (Some member) None other (side_place side)) 0 rows (λ row. second_none (row.member == member) (is_found other row.other) (side_place row.side == side_place side))
floor_found rows side None product other = first_none (λ row. row.floor) (is_found_of None product other (side_place side)) 0 rows (λ row. refl)

ceiling_found : (rows : List ToleranceRow) (side : Side) (member product other : Option ℕ) → ceiling_at rows side member product other ≡ first_of (λ row. row.ceiling) (is_found_of member product other (side_place side)) None rows
ceiling_found rows side (Some member) (Some product) (Some other) = ceiling_first rows member product other side
ceiling_found rows side (Some member) (Some product) None = first_none (λ row. row.ceiling) (is_found_of (Some member) (Some product) None (side_place side)) None rows (λ row. third_none (row.member == member) (row.product == product) (side_place row.side == side_place side))
ceiling_found rows side (Some member) None other = first_none (λ row. row.ceiling) (is_found_of (Some member) None other (side_place side)) None rows (λ row. second_none (row.member == member) (is_found other row.other) (side_place row.side == side_place side))
ceiling_found rows side None product other = first_none (λ row. row.ceiling) (is_found_of None product other (side_place side)) None rows (λ row. refl)

pub settings_stay : (old new : Rows) (matured : Option DayParts) (base made : Base) → IsRoster old → IsRoster new → CanBeWritten base → rolled_base old new matured base ≡ Ok made →
    (member product other : List ℕ) (side : Side) (m p o : ℕ) → member_place new member ≡ Some m → product_place new product ≡ Some p → member_place new other ≡ Some o →
    (floor_in made.tolerances m p o side ≡ floor_at base.tolerances side (member_place old member) (product_place old product) (member_place old other))
    × (ceiling_in made.tolerances m p o side ≡ ceiling_at base.tolerances side (member_place old member) (product_place old product) (member_place old other))
settings_stay old new matured base made before after can e member product other side m p o em ep eo =
    let is = is_made old new matured base made e in
    let rows = base.tolerances in
    let moved = moved_beside old new [] rows in
    let tolerances : moved ≡ made.tolerances = ap (λ (b : Base). b.tolerances) is.same in
    let floor : floor_in moved m p o side ≡ floor_at rows side (member_place old member) (product_place old product) (member_place old other) =
    floor_first moved m p o side
    ∙ moved_now (λ (row : ToleranceRow). row.floor) 0 old new before after member product other (side_place side) m p o (λ row a b c. refl) em ep eo rows [] 0 can.rising (All-nil IsSmall)
    ∙ sym (floor_found rows side (member_place old member) (product_place old product) (member_place old other)) in
    let ceiling : ceiling_in moved m p o side ≡ ceiling_at rows side (member_place old member) (product_place old product) (member_place old other) =
    ceiling_first moved m p o side
    ∙ moved_now (λ (row : ToleranceRow). row.ceiling) None old new before after member product other (side_place side) m p o (λ row a b c. refl) em ep eo rows [] 0 can.rising (All-nil IsSmall)
    ∙ sym (ceiling_found rows side (member_place old member) (product_place old product) (member_place old other)) in
    (ap (λ (l : List ToleranceRow). floor_in l m p o side) (sym tolerances) ∙ floor, ap (λ (l : List ToleranceRow). ceiling_in l m p o side) (sym tolerances) ∙ ceiling)
