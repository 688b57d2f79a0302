-- Settings that are kept by their places: what is found at a place, and what a setting that is put at its place comes to.
use Rattle.std.proofs.Common.{◌≡◌, ◌≢◌, ℕ, ◌+◌, ◌*◌, ◌<◌, ◌≤◌, ◌==◌, ◌&&◌, Bool, true, false, cond, List, [], ◌∷◌, length, Option, None, Some, refl, sym, ap, ◌∙◌, arith, ⊎_elim}
use Rattle.std.specs.Prelude.{nat_eq}
use Rattle.std.specs.Map.{lookup}
use Rattle.std.proofs.lemmas.Bool.{cases_eq, cases_lt, eqb-true, eq-eqb, ne_eqb, eqb-false, lt-ltb, le-ltb, and_parts, false_from_ne_true}
use Rattle.indexmap.specs.IndexMap.{insert_entry}
use Rattle.command_types.specs.declared.tolerance.ToleranceRow.{ToleranceRow}
use Rattle.command_types.specs.declared.trade.Side.{Side}
use Rattle.command_types.specs.declared.trade.Side.TheVariants.{Out, In}
use Rattle.command_types.specs.Tolerances.{side_place, setting_place, is_setting_of, floor_in, ceiling_in, with_setting}
use Rattle.tolerance_sets.specs.Settings.{place_of, settings_of, IsKeptBy, AreKept}

-- two numbers of two parts each
half_parts : (x y c d : ℕ) → c ≤ 1 → d ≤ 1 → x * 2 + c ≡ y * 2 + d → (x ≡ y) × (c ≡ d)
half_parts x y c d l l' e = (omega (arith, l, l', e), omega (arith, l, l', e))

word_parts : (x y c d : ℕ) → c < 65536 → d < 65536 → x * 65536 + c ≡ y * 65536 + d → (x ≡ y) × (c ≡ d)
word_parts x y c d l l' e = (omega (arith, l, l', e), omega (arith, l, l', e))

side_low : (side : Side) → side_place side ≤ 1
side_low Out = omega arith
side_low In = omega arith

-- a setting at another place is not a member's for its side of a pair
not_of : (member product other side : ℕ) (row : ToleranceRow) → setting_place row ≢ place_of member product other side → is_setting_of member product other side row ≡ false
not_of member product other side row ne =
    false_from_ne_true (is_setting_of member product other side row) (λ t.
    let p = and_parts ((row.member == member) && (row.product == product) && (row.other == other)) (side_place row.side == side) t in
    let q = and_parts ((row.member == member) && (row.product == product)) (row.other == other) p.0 in
    let r = and_parts (row.member == member) (row.product == product) q.0 in
    ne (omega (arith, eqb-true row.member member r.0, eqb-true row.product product r.1, eqb-true row.other other q.1, eqb-true (side_place row.side) side p.1)))

-- and one that is kept by its place is
its_own : (place member product other : ℕ) (side : Side) (row : ToleranceRow) → product < 65536 → other < 65536 → IsKeptBy place row → place ≡ place_of member product other (side_place side) → is_setting_of member product other (side_place side) row ≡ true
its_own place member product other side row in_p in_o kept e =
    let halves = half_parts ((row.member * 65536 + row.product) * 65536 + row.other) ((member * 65536 + product) * 65536 + other) (side_place row.side) (side_place side) (side_low row.side) (side_low side) (sym kept.place ∙ e) in
    let low = word_parts (row.member * 65536 + row.product) (member * 65536 + product) row.other other kept.other in_o halves.0 in
    let high = word_parts row.member member row.product product kept.product in_p low.0 in
    rw (eq-eqb row.member member high.0, eq-eqb row.product product high.1, eq-eqb row.other other low.1, eq-eqb (side_place row.side) (side_place side) halves.1) refl

-- a setting before others, where one is put
module _ (new row : ToleranceRow) (rows : List ToleranceRow) where
  pub at_same : setting_place row ≡ setting_place new → with_setting new (row ∷ rows) ≡ new ∷ rows
  at_same e = rw (eq-eqb (setting_place row) (setting_place new) e) refl

  pub at_less : setting_place new < setting_place row → with_setting new (row ∷ rows) ≡ new ∷ row ∷ rows
  at_less l = rw (ne_eqb (setting_place row) (setting_place new) (λ q. omega (arith, q, l)), lt-ltb (setting_place new) (setting_place row) l) refl

  pub at_more : setting_place row < setting_place new → with_setting new (row ∷ rows) ≡ row ∷ with_setting new rows
  at_more l = rw (ne_eqb (setting_place row) (setting_place new) (λ q. omega (arith, q, l)), le-ltb (setting_place new) (setting_place row) (omega (arith, l))) refl

-- below, at or above
pub three_ways : {P : Type 0} (a b : ℕ) → (a < b → P) → (a ≡ b → P) → (b < a → P) → P
three_ways a b less same more =
    ⊎_elim less (λ (le : b ≤ a). ⊎_elim same (λ (ne : a ≢ b). more (omega (arith, le, ne))) (cases_eq a b)) (cases_lt a b)

-- a setting put where another of its place was put
pub over : (old new : ToleranceRow) (rows : List ToleranceRow) → setting_place old ≡ setting_place new → with_setting new (with_setting old rows) ≡ with_setting new rows
over old new [] e = at_same new old [] e
over old new (row ∷ rows) e =
    let both = λ (xs : List ToleranceRow). with_setting new xs in
    three_ways (setting_place row) (setting_place new)
    (λ l. ap both (at_more old row rows (omega (arith, l, e))) ∙ at_more new row (with_setting old rows) l ∙ ap (λ xs. row ∷ xs) (over old new rows e) ∙ sym (at_more new row rows l))
    (λ q. ap both (at_same old row rows (omega (arith, q, e))) ∙ at_same new old rows e ∙ sym (at_same new row rows q))
    (λ l. ap both (at_less old row rows (omega (arith, l, e))) ∙ at_same new old (row ∷ rows) e ∙ sym (at_less new row rows l))

-- a setting put before all others, one of which was put last
before_with : (a b row : ToleranceRow) (rows : List ToleranceRow) → setting_place a < setting_place b → setting_place a < setting_place row → with_setting a (with_setting b (row ∷ rows)) ≡ a ∷ with_setting b (row ∷ rows)
before_with a b row rows lb lr =
    three_ways (setting_place row) (setting_place b)
    (λ l. ap (λ xs. with_setting a xs) (at_more b row rows l) ∙ at_less a row (with_setting b rows) lr ∙ ap (λ xs. a ∷ xs) (sym (at_more b row rows l)))
    (λ q. ap (λ xs. with_setting a xs) (at_same b row rows q) ∙ at_less a b rows lb ∙ ap (λ xs. a ∷ xs) (sym (at_same b row rows q)))
    (λ l. ap (λ xs. with_setting a xs) (at_less b row rows l) ∙ at_less a b (row ∷ rows) lb ∙ ap (λ xs. a ∷ xs) (sym (at_less b row rows l)))

-- two settings of different places may be put in either order
apart_less : (a b : ToleranceRow) (rows : List ToleranceRow) → setting_place a < setting_place b → with_setting a (with_setting b rows) ≡ with_setting b (with_setting a rows)
apart_less a b [] l = at_less a b [] l ∙ sym (at_more b a [] l)
apart_less a b (row ∷ rows) l =
    three_ways (setting_place row) (setting_place a)
    (λ lr. ap (λ xs. with_setting a xs) (at_more b row rows (omega (arith, l, lr))) ∙ at_more a row (with_setting b rows) lr ∙ ap (λ xs. row ∷ xs) (apart_less a b rows l)
    ∙ sym (ap (λ xs. with_setting b xs) (at_more a row rows lr) ∙ at_more b row (with_setting a rows) (omega (arith, l, lr))))
    (λ q. ap (λ xs. with_setting a xs) (at_more b row rows (omega (arith, l, q))) ∙ at_same a row (with_setting b rows) q
    ∙ sym (ap (λ xs. with_setting b xs) (at_same a row rows q) ∙ at_more b a rows l))
    (λ lr. before_with a b row rows l lr ∙ sym (ap (λ xs. with_setting b xs) (at_less a row rows lr) ∙ at_more b a (row ∷ rows) l))

pub apart : (a b : ToleranceRow) (rows : List ToleranceRow) → setting_place a ≢ setting_place b → with_setting a (with_setting b rows) ≡ with_setting b (with_setting a rows)
apart a b rows ne =
    three_ways (setting_place a) (setting_place b) (λ l. apart_less a b rows l) (λ q. absurd (ne q)) (λ l. sym (apart_less b a rows l))

-- what a member set
abbrev pub Finds : List ToleranceRow → ℕ → ℕ → ℕ → Side → ℕ → Option ℕ → Type 0
Finds rows member product other side floor ceiling =
    (floor_in rows member product other side ≡ floor) × (ceiling_in rows member product other side ≡ ceiling)

module _ (member product other : ℕ) (side : Side) where
  -- a setting that was put is found
  finds_new : (new : ToleranceRow) (rows : List ToleranceRow) → setting_place new ≡ place_of member product other (side_place side) → is_setting_of member product other (side_place side) new ≡ true →
      Finds (with_setting new rows) member product other side new.floor new.ceiling
  finds_new new [] e own = (rw own refl, rw own refl)
  finds_new new (row ∷ rows) e own =
      let rest = finds_new new rows e own in
      three_ways (setting_place row) (setting_place new)
      (λ l. let no = not_of member product other (side_place side) row (λ q. omega (arith, l, e, q)) in
      rw (at_more new row rows l) (rw no rest.0, rw no rest.1))
      (λ q. rw (at_same new row rows q) (rw own refl, rw own refl))
      (λ l. rw (at_less new row rows l) (rw own refl, rw own refl))

  -- and what is at other places is as before
  finds_other : (new : ToleranceRow) (rows : List ToleranceRow) → setting_place new ≢ place_of member product other (side_place side) →
      Finds (with_setting new rows) member product other side (floor_in rows member product other side) (ceiling_in rows member product other side)
  finds_other new [] ne = let no = not_of member product other (side_place side) new ne in (rw no refl, rw no refl)
  finds_other new (row ∷ rows) ne =
      let rest = finds_other new rows ne in
      let no = not_of member product other (side_place side) new ne in
      let own = is_setting_of member product other (side_place side) row in
      three_ways (setting_place row) (setting_place new)
      (λ l. rw (at_more new row rows l) (ap (λ n. cond {A = ℕ} own row.floor n) rest.0, ap (λ n. cond {A = Option ℕ} own row.ceiling n) rest.1))
      (λ q. let not_row = not_of member product other (side_place side) row (λ p. ne (sym q ∙ p)) in
      rw (at_same new row rows q) (rw (no, not_row) refl, rw (no, not_row) refl))
      (λ l. rw (at_less new row rows l) (rw no refl, rw no refl))

abbrev pub floor_by : Option ToleranceRow → ℕ
floor_by None = 0
floor_by (Some row) = row.floor

abbrev pub ceiling_by : Option ToleranceRow → Option ℕ
ceiling_by None = None
ceiling_by (Some row) = row.ceiling

-- what is kept by a place is what the member set
pub found_by : (entries : List (ℕ × ToleranceRow)) (member product other : ℕ) (side : Side) → product < 65536 → other < 65536 → AreKept entries →
    Finds (settings_of entries) member product other side (floor_by (lookup (nat_eq (place_of member product other (side_place side))) entries)) (ceiling_by (lookup (nat_eq (place_of member product other (side_place side))) entries))
found_by [] member product other side in_p in_o kept = (refl, refl)
found_by (entry ∷ entries) member product other side in_p in_o kept =
    by (nat_eq wanted entry.0) refl (found_by entries member product other side in_p in_o kept.1)
  where
    wanted : ℕ
    wanted = place_of member product other (side_place side)

    by : (b : Bool) → nat_eq wanted entry.0 ≡ b → Finds (settings_of entries) member product other side (floor_by (lookup (nat_eq wanted) entries)) (ceiling_by (lookup (nat_eq wanted) entries)) →
        Finds (with_setting entry.1 (settings_of entries)) member product other side (floor_by (cond b (Some entry.1) (lookup (nat_eq wanted) entries))) (ceiling_by (cond b (Some entry.1) (lookup (nat_eq wanted) entries)))
    by true e rest =
        let same : entry.0 ≡ wanted = sym (eqb-true wanted entry.0 e) in
        finds_new member product other side entry.1 (settings_of entries) (sym kept.0.place ∙ same) (its_own entry.0 member product other side entry.1 in_p in_o kept.0 same)
    by false e rest =
        let others = finds_other member product other side entry.1 (settings_of entries) (λ q. eqb-false wanted entry.0 e (sym (kept.0.place ∙ q))) in
        (others.0 ∙ rest.0, others.1 ∙ rest.1)

-- nothing was set
pub found_nothing : (entries : List (ℕ × ToleranceRow)) (member product other : ℕ) (side : Side) → length entries ≡ 0 → Finds (settings_of entries) member product other side 0 None
found_nothing [] member product other side none = (refl, refl)
found_nothing (entry ∷ entries) member product other side none = absurd (omega (arith, none))

-- a setting that is kept by its place is put at its place
pub kept_with : (entries : List (ℕ × ToleranceRow)) (place : ℕ) (new : ToleranceRow) → IsKeptBy place new → AreKept entries →
    (settings_of (insert_entry nat_eq entries place new) ≡ with_setting new (settings_of entries)) × AreKept (insert_entry nat_eq entries place new)
kept_with [] place new is kept = (refl, (is, tt))
kept_with (entry ∷ entries) place new is kept =
    by (nat_eq place entry.0) refl (kept_with entries place new is kept.1)
  where
    by : (b : Bool) → nat_eq place entry.0 ≡ b → (settings_of (insert_entry nat_eq entries place new) ≡ with_setting new (settings_of entries)) × AreKept (insert_entry nat_eq entries place new) →
        (settings_of (cond b ((entry.0, new) ∷ entries) (entry ∷ insert_entry nat_eq entries place new)) ≡ with_setting new (with_setting entry.1 (settings_of entries))) × AreKept (cond b ((entry.0, new) ∷ entries) (entry ∷ insert_entry nat_eq entries place new))
    by true e rest =
        let same : place ≡ entry.0 = eqb-true place entry.0 e in (
          sym (over entry.1 new (settings_of entries) (sym kept.0.place ∙ sym same ∙ is.place)),
          (record { place = sym same ∙ is.place; member = is.member; product = is.product; other = is.other }, kept.1),
        )
    by false e rest = (
      ap (λ rows. with_setting entry.1 rows) rest.0 ∙ apart entry.1 new (settings_of entries) (λ q. eqb-false place entry.0 e (is.place ∙ sym q ∙ sym kept.0.place)),
      (kept.0, rest.1),
    )
