-- Members and products that are found in the new roster, by their names.
use Rattle.std.proofs.Common.{◌≡◌, ◌≢◌, ℕ, ◌<◌, ◌==◌, Bool, true, false, List, [], ◌∷◌, length, map, get_or, position, Option, Some, None, refl, sym, ap, ◌∙◌, subst}
use Rattle.std.specs.Prelude.{slice_get}
use Rattle.std.specs.Str.{bytes_eq}
use Rattle.std.proofs.lemmas.Bool.{false≢true, eq-eqb, ne_eqb}
use Rattle.std.proofs.lemmas.List.Quantifiers.{position-Some}
use Rattle.std.proofs.lemmas.Option.{slice_get_within, slice_get-get_or, get_or_from_slice_get}
use Rattle.std.proofs.lemmas.Slice.Eq.{bytes_eq-Decides}
use Rattle.command_types.specs.declared.roster.MemberRow.{MemberRow}
use Rattle.command_types.specs.declared.roster.ProductRow.{ProductRow}
use Rattle.command_types.specs.Roster.{Rows, IsRoster, are_different, member_place, product_place}
use Rattle.command_types.proofs.RosterFacts.{first_place, members_different, products_different}
use Rattle.period_roll.specs.Laws.{member_name, product_name}
use Rattle.period_roll.specs.Places.{place_of_member, place_of_product, new_member, new_product}

-- the number is the place that was found
abbrev pub is_found : Option ℕ → ℕ → Bool
is_found None place = false
is_found (Some found) place = place == found

module _ {X : Type 0} (name_of : X → List ℕ) where
  -- where a row with the name stands
  abbrev pub named : List ℕ → List X → Option ℕ
  named name rows = position (λ row. bytes_eq (name_of row) name) rows

  -- the row that was found has the name
  pub has_name : (name : List ℕ) (rows : List X) (k : ℕ) (d : X) → named name rows ≡ Some k → (k < length rows) × (name_of (get_or rows k d) ≡ name)
  has_name name rows k d e =
      let at = position-Some (λ (row : X). bytes_eq (name_of row) name) rows k d e in
      (at.0, (bytes_eq-Decides (name_of (get_or rows k d)) name).0 at.1)

  not_found : (name : List ℕ) (rows : List X) (k : ℕ) (d : X) (o : Option ℕ) → named name rows ≡ o → name_of (get_or rows k d) ≢ name → is_found o k ≡ false
  not_found name rows k d None e other = refl
  not_found name rows k d (Some found) e other =
      ne_eqb k found (λ (same : k ≡ found). other (ap (λ n. name_of (get_or rows n d)) same ∙ (has_name name rows found d e).1))

  -- no row stands at the place
  pub absent : (name : List ℕ) (rows : List X) (k : ℕ) → slice_get rows k ≡ None → is_found (named name rows) k ≡ false
  absent name [] k e = refl
  absent name (row ∷ rows) k e = by (named name (row ∷ rows)) refl
    where
      by : (o : Option ℕ) → named name (row ∷ rows) ≡ o → is_found o k ≡ false
      by None q = refl
      by (Some found) q =
          ne_eqb k found (λ (same : k ≡ found).
          let there : slice_get (row ∷ rows) found ≡ Some (get_or (row ∷ rows) found row) = slice_get-get_or (row ∷ rows) found row (has_name name (row ∷ rows) found row q).0 in
          let none : slice_get (row ∷ rows) found ≡ None = ap (slice_get (row ∷ rows)) (sym same) ∙ e in
          cc)

  -- the row there has a name that is gone, and this one is not
  pub other_name : (name : List ℕ) (olds news : List X) (place k : ℕ) (row : X) → slice_get olds place ≡ Some row → named (name_of row) news ≡ None → named name news ≡ Some k → is_found (named name olds) place ≡ false
  other_name name olds news place k row there gone found =
      not_found name olds place row (named name olds) refl (λ same.
      let same_name : name_of row ≡ name = sym (ap name_of (get_or_from_slice_get olds place row row there)) ∙ same in
      let none : named name news ≡ None = subst (λ n. named n news ≡ None) same_name gone in
      cc)

  module _ (olds news : List X) (different : are_different (map name_of olds) ≡ true) (place moved : ℕ) (row : X) (there : slice_get olds place ≡ Some row) (found : named (name_of row) news ≡ Some moved) where
    is_row : get_or olds place row ≡ row
    is_row = get_or_from_slice_get olds place row row there

    found_by : (name : List ℕ) (t : Bool) → bytes_eq (name_of row) name ≡ t → is_found (named name olds) place ≡ is_found (named name news) moved
    found_by name true e =
        let same : name_of row ≡ name = (bytes_eq-Decides (name_of row) name).0 e in
        let before : named name olds ≡ Some place = sym (first_place name_of olds place row name (slice_get_within olds place row there) different (ap (λ (r : X). bytes_eq (name_of r) name) is_row ∙ e)) in
        let after : named name news ≡ Some moved = subst (λ n. named n news ≡ Some moved) same found in
        ap (λ o. is_found o place) before ∙ eq-eqb place place refl ∙ sym (eq-eqb moved moved refl) ∙ sym (ap (λ o. is_found o moved) after)
    found_by name false e =
        let other : name_of row ≢ name = λ same. false≢true (sym e ∙ (bytes_eq-Decides (name_of row) name).1 same) in
        not_found name olds place row (named name olds) refl (λ same. other (sym (ap name_of is_row) ∙ same))
        ∙ sym (not_found name news moved row (named name news) refl (λ same. other (sym (has_name (name_of row) news moved row found).1 ∙ same)))

    -- a name is found at the old place exactly where it is found at the new one
    pub found_same : (name : List ℕ) → is_found (named name olds) place ≡ is_found (named name news) moved
    found_same name = found_by name (bytes_eq (name_of row) name) refl

-- a member that was found
pub record IsMemberAt (old new : Rows) (place moved : ℕ) : Type 0 where
  pub row : MemberRow
  pub there : slice_get old.members place ≡ Some row
  pub found : member_place new row.name ≡ Some moved

member_of : (old new : Rows) (place moved : ℕ) (o : Option MemberRow) → slice_get old.members place ≡ o → place_of_member new o ≡ Some moved → IsMemberAt old new place moved
member_of old new place moved None there e = absurd cc
member_of old new place moved (Some row) there e = record { row = row; there = there; found = e }

pub is_member_at : (old new : Rows) (place moved : ℕ) → new_member old new place ≡ Some moved → IsMemberAt old new place moved
is_member_at old new place moved e = member_of old new place moved (slice_get old.members place) refl e

-- a product that was found
pub record IsProductAt (old new : Rows) (place moved : ℕ) : Type 0 where
  pub row : ProductRow
  pub there : slice_get old.products place ≡ Some row
  pub found : product_place new row.name ≡ Some moved

product_of : (old new : Rows) (place moved : ℕ) (o : Option ProductRow) → slice_get old.products place ≡ o → place_of_product new o ≡ Some moved → IsProductAt old new place moved
product_of old new place moved None there e = absurd cc
product_of old new place moved (Some row) there e = record { row = row; there = there; found = e }

pub is_product_at : (old new : Rows) (place moved : ℕ) → new_product old new place ≡ Some moved → IsProductAt old new place moved
is_product_at old new place moved e = product_of old new place moved (slice_get old.products place) refl e

-- where it is gone, a name of the new roster is not found at its place
pub gone_member : (old new : Rows) (place k : ℕ) (name : List ℕ) → new_member old new place ≡ None → member_place new name ≡ Some k → is_found (member_place old name) place ≡ false
gone_member old new place k name gone found = by (slice_get old.members place) refl gone
  where
    by : (o : Option MemberRow) → slice_get old.members place ≡ o → place_of_member new o ≡ None → is_found (member_place old name) place ≡ false
    by None there e = absent (λ (row : MemberRow). row.name) name old.members place there
    by (Some row) there e = other_name (λ (r : MemberRow). r.name) name old.members new.members place k row there e found

pub gone_product : (old new : Rows) (place k : ℕ) (name : List ℕ) → new_product old new place ≡ None → product_place new name ≡ Some k → is_found (product_place old name) place ≡ false
gone_product old new place k name gone found = by (slice_get old.products place) refl gone
  where
    by : (o : Option ProductRow) → slice_get old.products place ≡ o → place_of_product new o ≡ None → is_found (product_place old name) place ≡ false
    by None there e = absent (λ (row : ProductRow). row.name) name old.products place there
    by (Some row) there e = other_name (λ (r : ProductRow). r.name) name old.products new.products place k row there e found

module _ (old new : Rows) (place moved : ℕ) where
  -- it has the same name
  pub member_names : new_member old new place ≡ Some moved → member_name (slice_get new.members moved) ≡ member_name (slice_get old.members place)
  member_names e =
      let at = is_member_at old new place moved e in
      let has = has_name (λ (r : MemberRow). r.name) at.row.name new.members moved at.row at.found in
      ap member_name (slice_get-get_or new.members moved at.row has.0) ∙ ap (λ (n : List ℕ). Some n) has.1 ∙ sym (ap member_name at.there)

  pub product_names : new_product old new place ≡ Some moved → product_name (slice_get new.products moved) ≡ product_name (slice_get old.products place)
  product_names e =
      let at = is_product_at old new place moved e in
      let has = has_name (λ (r : ProductRow). r.name) at.row.name new.products moved at.row at.found in
      ap product_name (slice_get-get_or new.products moved at.row has.0) ∙ ap (λ (n : List ℕ). Some n) has.1 ∙ sym (ap product_name at.there)

  -- it is within the roster
  pub member_within : new_member old new place ≡ Some moved → moved < length new.members
  member_within e = let at = is_member_at old new place moved e in (has_name (λ (r : MemberRow). r.name) at.row.name new.members moved at.row at.found).0

  pub product_within : new_product old new place ≡ Some moved → moved < length new.products
  product_within e = let at = is_product_at old new place moved e in (has_name (λ (r : ProductRow). r.name) at.row.name new.products moved at.row at.found).0

  -- each name is found at both places or at neither
  pub member_same : IsRoster old → new_member old new place ≡ Some moved → (name : List ℕ) → is_found (member_place old name) place ≡ is_found (member_place new name) moved
  member_same roster e name =
      let at = is_member_at old new place moved e in
      found_same (λ (r : MemberRow). r.name) old.members new.members (members_different old roster) place moved at.row at.there at.found name

  pub product_same : IsRoster old → new_product old new place ≡ Some moved → (name : List ℕ) → is_found (product_place old name) place ≡ is_found (product_place new name) moved
  product_same roster e name =
      let at = is_product_at old new place moved e in
      found_same (λ (r : ProductRow). r.name) old.products new.products (products_different old roster) place moved at.row at.there at.found name
