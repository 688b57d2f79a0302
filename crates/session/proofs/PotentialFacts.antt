-- The potentials of a draft with one more, which replaces the earlier one of its product and member.
use Rattle.std.proofs.Common.{◌≡◌, ℕ, suc, ◌+◌, ℤ, pos, negsuc, Bool, true, false, ◌&&◌, List, [], ◌∷◌, length, Option, Some, is_some, unwrap_or, refl, sym, ap, subst, ◌∙◌, cond, arith}
use Rattle.std.proofs.lemmas.Bool.{and_parts}
use Rattle.std.proofs.lemmas.Slice.Eq.{bytes_eq-Decides}
use Rattle.std.proofs.lemmas.Int.{ints}
use Rattle.std.specs.Map.{lookup}
use Rattle.std.specs.Str.{bytes_eq}
use Rattle.indexmap.specs.IndexMap.{insert_entry}
use Rattle.network_laws.specs.Solutions.{IsPotential}
use Rattle.command_types.specs.Session.{DraftPotential, with_draft_potential, draft_potential}
use Rattle.session.specs.declared.draft_potentials.PlaceKey.{PlaceKey}
use Rattle.session.specs.Drafts.{potential_of, potentials_of, is_same_place, AreInRange}
use mir.Syntax.{w32}
use mir.Val.{SFits}

-- a potential fits its type
pub potential_fits : (value : ℤ) → IsPotential value → SFits w32 value
potential_fits (pos n) p = record { sfits = omega (arith, ints, p.most) }
potential_fits (negsuc n) p = record { sfits = omega (arith, ints, p.least) }

-- two keys that the test finds the same
pub place_same : (a b : PlaceKey) → is_same_place a b ≡ true → a ≡ b
place_same a b h =
    let both = and_parts _ _ h in
    let product : a.product ≡ b.product = (bytes_eq-Decides _ _).0 both.0 in
    let member : a.member ≡ b.member = (bytes_eq-Decides _ _).0 both.1 in
    λ i. record { product = product i; member = member i }

same_bool : (x y : Bool) → (x ≡ true → y ≡ true) → (y ≡ true → x ≡ true) → x ≡ y
same_bool true y f g = sym (f refl)
same_bool false true f g = g refl
same_bool false false f g = refl

bytes_turned : (a b : List ℕ) → bytes_eq a b ≡ bytes_eq b a
bytes_turned a b =
    same_bool _ _ (λ h. (bytes_eq-Decides b a).1 (sym ((bytes_eq-Decides a b).0 h))) (λ h. (bytes_eq-Decides a b).1 (sym ((bytes_eq-Decides b a).0 h)))

-- the potential of a member is found by its key
pub potential_found : (key : PlaceKey) (entries : List (PlaceKey × ℤ)) → draft_potential key.product key.member (potentials_of entries) ≡ unwrap_or (lookup (is_same_place key) entries) (pos 0)
potential_found key [] = refl
potential_found key (entry ∷ entries) =
    ap (λ t. cond {A = ℤ} t entry.1 (draft_potential key.product key.member (potentials_of entries))) (λ i. bytes_turned entry.0.product key.product i && bytes_turned entry.0.member key.member i)
    ∙ by (is_same_place key entry.0) (potential_found key entries)
  where
    by : (b : Bool) → draft_potential key.product key.member (potentials_of entries) ≡ unwrap_or (lookup (is_same_place key) entries) (pos 0) → cond {A = ℤ} b entry.1 (draft_potential key.product key.member (potentials_of entries)) ≡ unwrap_or (cond {A = Option ℤ} b (Some entry.1) (lookup (is_same_place key) entries)) (pos 0)
    by true others = refl
    by false others = others

pub length_potentials : (entries : List (PlaceKey × ℤ)) → length (potentials_of entries) ≡ length entries
length_potentials [] = refl
length_potentials (entry ∷ entries) = ap suc (length_potentials entries)

-- how many potentials there are with one more
pub length_with : (key : PlaceKey) (value : ℤ) (entries : List (PlaceKey × ℤ)) →
    length (with_draft_potential (potential_of (key, value)) (potentials_of entries)) ≡ length entries + cond {A = ℕ} (is_some (lookup (is_same_place key) entries)) 0 1
length_with key value [] = refl
length_with key value (entry ∷ entries) = by (is_same_place key entry.0) (length_with key value entries)
  where
    by : (b : Bool) → length (with_draft_potential (potential_of (key, value)) (potentials_of entries)) ≡ length entries + cond {A = ℕ} (is_some (lookup (is_same_place key) entries)) 0 1 →
        length (cond {A = List DraftPotential} b (potential_of (key, value) ∷ potentials_of entries) (potential_of entry ∷ with_draft_potential (potential_of (key, value)) (potentials_of entries)))
        ≡ length (entry ∷ entries) + cond {A = ℕ} (is_some (cond {A = Option ℤ} b (Some entry.1) (lookup (is_same_place key) entries))) 0 1
    by true others = omega (arith, length_potentials entries)
    by false others = omega (arith, others)

-- the entries with one more are the potentials with one more
pub potentials_insert : (key : PlaceKey) (value : ℤ) (entries : List (PlaceKey × ℤ)) →
    potentials_of (insert_entry is_same_place entries key value) ≡ with_draft_potential (potential_of (key, value)) (potentials_of entries)
potentials_insert key value [] = refl
potentials_insert key value (entry ∷ entries) = by (is_same_place key entry.0) refl (potentials_insert key value entries)
  where
    by : (b : Bool) → is_same_place key entry.0 ≡ b → potentials_of (insert_entry is_same_place entries key value) ≡ with_draft_potential (potential_of (key, value)) (potentials_of entries) →
        potentials_of (cond {A = List (PlaceKey × ℤ)} b ((entry.0, value) ∷ entries) (entry ∷ insert_entry is_same_place entries key value))
        ≡ cond {A = List DraftPotential} b (potential_of (key, value) ∷ potentials_of entries) (potential_of entry ∷ with_draft_potential (potential_of (key, value)) (potentials_of entries))
    by true is others = ap (λ k. potential_of (k, value) ∷ potentials_of entries) (sym (place_same key entry.0 is))
    by false is others = ap (λ potentials. potential_of entry ∷ potentials) others

range_by : (t : Bool) (value : ℤ) (had has : Option ℤ) → IsPotential value → has ≡ cond {A = Option ℤ} t (Some value) had → IsPotential (unwrap_or had (pos 0)) → IsPotential (unwrap_or has (pos 0))
range_by true value had has in_range is before = subst IsPotential (sym (ap (λ o. unwrap_or o (pos 0)) is)) in_range
range_by false value had has in_range is before = subst IsPotential (sym (ap (λ o. unwrap_or o (pos 0)) is)) before

-- with one more potential all are in range
pub range_after : (entries next : List (PlaceKey × ℤ)) (key : PlaceKey) (value : ℤ) → IsPotential value →
    ((other : PlaceKey) → lookup (is_same_place other) next ≡ cond {A = Option ℤ} (is_same_place key other) (Some value) (lookup (is_same_place other) entries)) →
    AreInRange entries → AreInRange next
range_after entries next key value in_range looks ranged product member =
    let other : PlaceKey = record { product = product; member = member } in
    subst IsPotential (sym (potential_found other next))
    (range_by (is_same_place key other) value (lookup (is_same_place other) entries) (lookup (is_same_place other) next) in_range (looks other)
    (subst IsPotential (potential_found other entries) (ranged product member)))
