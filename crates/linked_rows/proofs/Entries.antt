-- Places with their values: what finding, taking out and writing do to the lists of them.
use Rattle.std.proofs.Common.{◌≡◌, ◌≢◌, ℕ, zero, suc, ◌-◌, ◌<◌, ◌≤◌, ◌++◌, Bool, not, eqb, cond, List, [], ◌∷◌, Option, Some, None, length, get_or, set, map, filter, refl, ap, ◌∙◌, ◌⊎◌, inl, inr, ⊎_elim, arith, length-set}
use Rattle.std.proofs.lemmas.Bool.{cases_eq, eq-eqb, ne_eqb}
use Rattle.std.proofs.lemmas.List.{get_or-set_same}
use Rattle.std.proofs.lemmas.Option.{slice_get-get_or}
use Rattle.std.specs.Prelude.{slice_get}
use Rattle.linked_rows.specs.Rows.{value_in, first_of, next_in}
use Rattle.linked_rows.specs.Pool.{with_entry, entries_of, Each}
use Rattle.linked_rows.proofs.Chains.{Has, has_or_each}

-- of a list after a write
pub slice_get-set_same : {T : Type 0} (values : List T) (i : ℕ) (v : T) → i < length values → slice_get (set values i v) i ≡ Some v
slice_get-set_same values i v low = slice_get-get_or (set values i v) i v (omega (arith, low, length-set values i v)) ∙ ap Some (get_or-set_same values i v v low)

pub slice_get-set_other : {T : Type 0} (values : List T) (i j : ℕ) (v : T) → j ≢ i → slice_get (set values i v) j ≡ slice_get values j
slice_get-set_other [] i j v ne = refl
slice_get-set_other (x ∷ xs) zero zero v ne = absurd (ne refl)
slice_get-set_other (x ∷ xs) zero (suc j) v ne = refl
slice_get-set_other (x ∷ xs) (suc i) zero v ne = refl
slice_get-set_other (x ∷ xs) (suc i) (suc j) v ne = slice_get-set_other xs i j v (λ e. ne (ap suc e))

-- with one more element
pub slice_get-push : {T : Type 0} (values : List T) (v : T) → slice_get (values ++ v ∷ []) (length values) ≡ Some v
slice_get-push [] v = refl
slice_get-push (x ∷ xs) v = slice_get-push xs v

pub slice_get-push_low : {T : Type 0} (values : List T) (v : T) (i : ℕ) → i < length values → slice_get (values ++ v ∷ []) i ≡ slice_get values i
slice_get-push_low [] v i low = absurd (omega arith)
slice_get-push_low (x ∷ xs) v zero low = refl
slice_get-push_low (x ∷ xs) v (suc i) low = slice_get-push_low xs v i (omega arith)

with_entry-append : {T : Type 0} (place : ℕ) (o : Option T) (es fs : List (ℕ × T)) → with_entry place o (es ++ fs) ≡ with_entry place o es ++ fs
with_entry-append place None es fs = refl
with_entry-append place (Some v) es fs = refl

pub entries-append : {T : Type 0} (values : List T) (base : ℕ) (xs ys : List ℕ) → entries_of values base (xs ++ ys) ≡ entries_of values base xs ++ entries_of values base ys
entries-append values base [] ys = refl
entries-append values base (x ∷ xs) ys =
    ap (λ es. with_entry x (slice_get values (x - base)) es) (entries-append values base xs ys)
    ∙ with_entry-append x (slice_get values (x - base)) (entries_of values base xs) (entries_of values base ys)

-- values that agree at the places give the same
pub entries_same : {T : Type 0} (values now : List T) (base : ℕ) (xs : List ℕ) → Each (λ y. slice_get now (y - base) ≡ slice_get values (y - base)) xs → entries_of now base xs ≡ entries_of values base xs
entries_same values now base [] h = refl
entries_same values now base (x ∷ xs) h =
    ap (λ o. with_entry x o (entries_of now base xs)) h.0 ∙ ap (λ es. with_entry x (slice_get values (x - base)) es) (entries_same values now base xs h.1)

abbrev pub is_other : {T : Type 0} → ℕ → ℕ × T → Bool
is_other x entry = not (eqb entry.0 x)

filter_other : {T : Type 0} (x y : ℕ) (o : Option T) (es : List (ℕ × T)) → y ≢ x → filter (is_other x) (with_entry y o es) ≡ with_entry y o (filter (is_other x) es)
filter_other x y None es ne = refl
filter_other x y (Some v) es ne = rw (ne_eqb y x ne) refl

filter_own : {T : Type 0} (x : ℕ) (o : Option T) (es : List (ℕ × T)) → filter (is_other x) (with_entry x o es) ≡ filter (is_other x) es
filter_own x None es = refl
filter_own x (Some v) es = rw (eq-eqb x x refl) refl

pub filter_others : {T : Type 0} (values : List T) (base x : ℕ) (xs : List ℕ) → Each (λ y. y ≢ x) xs → filter (is_other x) (entries_of values base xs) ≡ entries_of values base xs
filter_others values base x [] h = refl
filter_others values base x (y ∷ ys) h =
    filter_other x y (slice_get values (y - base)) (entries_of values base ys) h.0 ∙ ap (λ es. with_entry y (slice_get values (y - base)) es) (filter_others values base x ys h.1)

pub filter_split : {T : Type 0} (values : List T) (base x : ℕ) (xs ys : List ℕ) → Each (λ y. y ≢ x) xs → Each (λ y. y ≢ x) ys → filter (is_other x) (entries_of values base (xs ++ x ∷ ys)) ≡ entries_of values base (xs ++ ys)
filter_split values base x [] ys h k = filter_own x (slice_get values (x - base)) (entries_of values base ys) ∙ filter_others values base x ys k
filter_split values base x (y ∷ xs) ys h k =
    filter_other x y (slice_get values (y - base)) (entries_of values base (xs ++ x ∷ ys)) h.0
    ∙ ap (λ es. with_entry y (slice_get values (y - base)) es) (filter_split values base x xs ys h.1 k)

value_other : {T : Type 0} (x y : ℕ) (o : Option T) (es : List (ℕ × T)) → y ≢ x → value_in (with_entry y o es) x ≡ value_in es x
value_other x y None es ne = refl
value_other x y (Some v) es ne = rw (ne_eqb y x ne) refl

value_own : {T : Type 0} (x : ℕ) (o : Option T) (es : List (ℕ × T)) → value_in es x ≡ None ⊎ value_in es x ≡ o → value_in (with_entry x o es) x ≡ o
value_own x None es h = ⊎_elim (λ (e : value_in es x ≡ None). e) (λ (e : value_in es x ≡ None). e) h
value_own x (Some v) es h = rw (eq-eqb x x refl) refl

pub value_others : {T : Type 0} (values : List T) (base x : ℕ) (xs : List ℕ) → Each (λ y. y ≢ x) xs → value_in (entries_of values base xs) x ≡ None
value_others values base x [] h = refl
value_others values base x (y ∷ ys) h = value_other x y (slice_get values (y - base)) (entries_of values base ys) h.0 ∙ value_others values base x ys h.1

-- wherever a place stands, it has its value
pub value_there : {T : Type 0} (values : List T) (base x : ℕ) (xs : List ℕ) → Has xs x → value_in (entries_of values base xs) x ≡ slice_get values (x - base)
value_there values base x [] h = absurd h
value_there values base x (y ∷ ys) h =
    ⊎_elim (λ (e : y ≡ x).
    let rest : value_in (entries_of values base ys) x ≡ None ⊎ value_in (entries_of values base ys) x ≡ slice_get values (x - base) =
    ⊎_elim (λ (there : Has ys x). inr (value_there values base x ys there)) (λ (o : Each (λ z. z ≢ x) ys). inl (value_others values base x ys o)) (has_or_each ys x) in
    ap (λ z. value_in (with_entry z (slice_get values (z - base)) (entries_of values base ys)) x) e ∙ value_own x (slice_get values (x - base)) (entries_of values base ys) rest)
    (λ (ne : y ≢ x).
    value_other x y (slice_get values (y - base)) (entries_of values base ys) ne
    ∙ value_there values base x ys (⊎_elim (λ (e : y ≡ x). absurd (ne e)) (λ (there : Has ys x). there) h))
    (cases_eq y x)

next_other : {T : Type 0} (x y : ℕ) (o : Option T) (es : List (ℕ × T)) → y ≢ x → next_in (with_entry y o es) x ≡ next_in es x
next_other x y None es ne = refl
next_other x y (Some v) es ne = rw (ne_eqb y x ne) refl

pub next_others : {T : Type 0} (values : List T) (base x : ℕ) (xs : List ℕ) → Each (λ y. y ≢ x) xs → next_in (entries_of values base xs) x ≡ None
next_others values base x [] h = refl
next_others values base x (y ∷ ys) h = next_other x y (slice_get values (y - base)) (entries_of values base ys) h.0 ∙ next_others values base x ys h.1

pub next_split : {T : Type 0} (values : List T) (base x : ℕ) (v : T) (xs ys : List ℕ) → slice_get values (x - base) ≡ Some v → Each (λ y. y ≢ x) xs → next_in (entries_of values base (xs ++ x ∷ ys)) x ≡ first_of (entries_of values base ys)
next_split values base x v [] ys is h = rw (is, eq-eqb x x refl) refl
next_split values base x v (y ∷ xs) ys is h =
    next_other x y (slice_get values (y - base)) (entries_of values base (xs ++ x ∷ ys)) h.0 ∙ next_split values base x v xs ys is h.1

abbrev pub written : {T : Type 0} → ℕ → T → ℕ × T → ℕ × T
written x v entry = cond (eqb entry.0 x) (entry.0, v) entry

written_own : {T : Type 0} (x : ℕ) (v w : T) (o : Option T) (es : List (ℕ × T)) → o ≡ Some w → map (written x v) (with_entry x o es) ≡ with_entry x (Some v) (map (written x v) es)
written_own x v w o es e = rw (e, eq-eqb x x refl) refl

written_other : {T : Type 0} (x y : ℕ) (v : T) (o : Option T) (es : List (ℕ × T)) → y ≢ x → map (written x v) (with_entry y o es) ≡ with_entry y o (map (written x v) es)
written_other x y v None es ne = refl
written_other x y v (Some w) es ne = rw (ne_eqb y x ne) refl

pub entries_written : {T : Type 0} (values : List T) (base x : ℕ) (v : T) (xs : List ℕ) → base ≤ x → x - base < length values → Each (λ y. base ≤ y) xs → map (written x v) (entries_of values base xs) ≡ entries_of (set values (x - base) v) base xs
entries_written values base x v [] le low h = refl
entries_written values base x v (y ∷ ys) le low h =
    ⊎_elim (λ (e : y ≡ x).
    let own = written_own x v (get_or values (x - base) v) (slice_get values (x - base)) (entries_of values base ys) (slice_get-get_or values (x - base) v low) in
    rw (e, slice_get-set_same values (x - base) v low) (own ∙ ap (λ es. (x, v) ∷ es) (entries_written values base x v ys le low h.1)))
    (λ (ne : y ≢ x).
    let far : y - base ≢ x - base = λ same. ne (omega (arith, same, h.0, le)) in
    rw (slice_get-set_other values (x - base) (y - base) v far)
    (written_other x y v (slice_get values (y - base)) (entries_of values base ys) ne ∙ ap (λ es. with_entry y (slice_get values (y - base)) es) (entries_written values base x v ys le low h.1)))
    (cases_eq y x)
