-- Many lists of places with their values: finding a place, taking it out, putting one in, and writing its value.
use Rattle.std.proofs.Common.{◌≡◌, ◌≢◌, ℕ, zero, suc, ◌-◌, ◌<◌, ◌≤◌, ◌++◌, List, [], ◌∷◌, Option, Some, None, IsTrue, length, set, map, refl, sym, ap, ◌∙◌, ◌⊎◌, inl, inr, ⊎_elim, arith, is_some}
use Rattle.std.proofs.lemmas.Bool.{false≢true}
use Rattle.std.proofs.lemmas.List.{get_or-map, map-set}
use Rattle.std.specs.Prelude.{slice_get}
use Rattle.linked_rows.specs.Rows.{value_of, either, first_of, next_of, without, with_last, with_value, list_of}
use Rattle.linked_rows.specs.Pool.{ring, with_entry, entries_of, Each}
use Rattle.linked_rows.proofs.Chains.{Has, has_or_each}
use Rattle.linked_rows.proofs.Entries.{entries-append, entries_same, filter_others, filter_split, value_others, value_there, next_others, next_split, entries_written}

either_none : {A : Type 0} (o : Option A) → either o None ≡ o
either_none None = refl
either_none (Some a) = refl

either_same : {A : Type 0} (o : Option A) → either o o ≡ o
either_same None = refl
either_same (Some a) = refl

-- a place is found in one of the rings
pub record IsFound (rings : List (List ℕ)) (x : ℕ) : Type 0 where
  pub end : ℕ
  pub low : end < length rings
  pub there : Has (ring rings end) x

-- where no ring has a place, it has no value; where one has it, it has its own
module _ {T : Type 0} (values : List T) (base x : ℕ) where
  abbrev lists_of : List (List ℕ) → List (List (ℕ × T))
  lists_of rings = map (entries_of values base) rings

  pub value_none : (rings : List (List ℕ)) → ((end : ℕ) → end < length rings → Each (λ y. y ≢ x) (ring rings end)) → value_of (lists_of rings) x ≡ None
  value_none [] out = refl
  value_none (r ∷ rings) out =
      rw (value_others values base x r (out 0 (omega arith))) (value_none rings (λ end low. out (suc end) (omega arith)))

  pub find : (rings : List (List ℕ)) → IsTrue (is_some (value_of (lists_of rings) x)) → IsFound rings x
  find [] live = absurd (false≢true live)
  find (r ∷ rings) live =
      ⊎_elim (λ (h : Has r x). record { end = 0; low = omega arith; there = h })
      (λ (o : Each (λ y. y ≢ x) r).
      let rest = find rings (rw (value_others values base x r o) at live) in
      record { end = suc rest.end; low = omega (arith, rest.low); there = rest.there })
      (has_or_each r x)

  none_or_own : (rings : List (List ℕ)) → (value_of (lists_of rings) x ≡ None) ⊎ (value_of (lists_of rings) x ≡ slice_get values (x - base))
  none_or_own [] = inl refl
  none_or_own (r ∷ rings) =
      ⊎_elim (λ (h : Has r x).
      ⊎_elim (λ (none : value_of (lists_of rings) x ≡ None). inr (rw (none, value_there values base x r h) (either_none (slice_get values (x - base)))))
      (λ (own : value_of (lists_of rings) x ≡ slice_get values (x - base)). inr (rw (own, value_there values base x r h) (either_same (slice_get values (x - base)))))
      (none_or_own rings))
      (λ (o : Each (λ y. y ≢ x) r). rw (value_others values base x r o) (none_or_own rings))
      (has_or_each r x)

  pub value_found : (rings : List (List ℕ)) (end : ℕ) → end < length rings → Has (ring rings end) x → value_of (lists_of rings) x ≡ slice_get values (x - base)
  value_found [] end low h = absurd (omega arith)
  value_found (r ∷ rings) zero low h =
      ⊎_elim (λ (none : value_of (lists_of rings) x ≡ None). rw (none, value_there values base x r h) (either_none (slice_get values (x - base))))
      (λ (own : value_of (lists_of rings) x ≡ slice_get values (x - base)). rw (own, value_there values base x r h) (either_same (slice_get values (x - base))))
      (none_or_own rings)
  value_found (r ∷ rings) (suc end) low h =
      let rest = value_found rings end (omega arith) h in
      ⊎_elim (λ (here : Has r x). rw (rest, value_there values base x r here) (either_same (slice_get values (x - base))))
      (λ (o : Each (λ y. y ≢ x) r). rw (value_others values base x r o) rest)
      (has_or_each r x)

  next_none : (rings : List (List ℕ)) → ((end : ℕ) → end < length rings → Each (λ y. y ≢ x) (ring rings end)) → next_of (lists_of rings) x ≡ None
  next_none [] out = refl
  next_none (r ∷ rings) out = rw (next_others values base x r (out 0 (omega arith))) (next_none rings (λ end low. out (suc end) (omega arith)))

  pub next_found : (rings : List (List ℕ)) (end : ℕ) (v : T) (xs ys : List ℕ) → end < length rings → ring rings end ≡ xs ++ x ∷ ys → slice_get values (x - base) ≡ Some v → Each (λ y. y ≢ x) xs
      → ((other : ℕ) → other < length rings → other ≢ end → Each (λ y. y ≢ x) (ring rings other)) → next_of (lists_of rings) x ≡ first_of (entries_of values base ys)
  next_found [] end v xs ys low is own front out = absurd (omega arith)
  next_found (r ∷ rings) zero v xs ys low is own front out =
      rw (is, next_split values base x v xs ys own front, next_none rings (λ end small. out (suc end) (omega arith) (λ e. omega (arith, e)))) (either_none (first_of (entries_of values base ys)))
  next_found (r ∷ rings) (suc end) v xs ys low is own front out =
      rw (next_others values base x r (out 0 (omega arith) (λ e. omega (arith, e))))
      (next_found rings end v xs ys (omega arith) is own front (λ other small ne. out (suc other) (omega arith) (λ e. ne (omega (arith, e)))))

  without_none : (rings : List (List ℕ)) → ((end : ℕ) → end < length rings → Each (λ y. y ≢ x) (ring rings end)) → without (lists_of rings) x ≡ lists_of rings
  without_none [] out = refl
  without_none (r ∷ rings) out =
      rw (filter_others values base x r (out 0 (omega arith))) (ap (λ es. entries_of values base r ∷ es) (without_none rings (λ end low. out (suc end) (omega arith))))

  pub without_found : (rings : List (List ℕ)) (end : ℕ) (xs ys : List ℕ) → end < length rings → ring rings end ≡ xs ++ x ∷ ys → Each (λ y. y ≢ x) xs → Each (λ y. y ≢ x) ys
      → ((other : ℕ) → other < length rings → other ≢ end → Each (λ y. y ≢ x) (ring rings other)) → without (lists_of rings) x ≡ lists_of (set rings end (xs ++ ys))
  without_found [] end xs ys low is front back out = absurd (omega arith)
  without_found (r ∷ rings) zero xs ys low is front back out =
      rw (is, filter_split values base x xs ys front back)
      (ap (λ es. entries_of values base (xs ++ ys) ∷ es) (without_none rings (λ end small. out (suc end) (omega arith) (λ e. omega (arith, e)))))
  without_found (r ∷ rings) (suc end) xs ys low is front back out =
      rw (filter_others values base x r (out 0 (omega arith) (λ e. omega (arith, e))))
      (ap (λ es. entries_of values base r ∷ es) (without_found rings end xs ys (omega arith) is front back (λ other small ne. out (suc other) (omega arith) (λ e. ne (omega (arith, e))))))

  pub written_all : (v : T) (rings : List (List ℕ)) → base ≤ x → x - base < length values → ((end : ℕ) → end < length rings → Each (λ y. base ≤ y) (ring rings end))
      → with_value (lists_of rings) x v ≡ map (entries_of (set values (x - base) v) base) rings
  written_all v [] le low nodes = refl
  written_all v (r ∷ rings) le low nodes =
      rw (entries_written values base x v r le low (nodes 0 (omega arith))) (ap (λ es. entries_of (set values (x - base) v) base r ∷ es) (written_all v rings le low (λ end small. nodes (suc end) (omega arith))))

-- values that agree wherever a place other than one is
pub lists_same : {T : Type 0} (values now : List T) (base : ℕ) (rings : List (List ℕ)) → ((end : ℕ) → end < length rings → Each (λ y. slice_get now (y - base) ≡ slice_get values (y - base)) (ring rings end))
    → map (entries_of now base) rings ≡ map (entries_of values base) rings
lists_same values now base [] h = refl
lists_same values now base (r ∷ rings) h =
    rw (entries_same values now base r (h 0 (omega arith))) (ap (λ es. entries_of values base r ∷ es) (lists_same values now base rings (λ end low. h (suc end) (omega arith))))

-- a place put last into a ring, where its value is there
pub with_last_is : {T : Type 0} (values now : List T) (base k x : ℕ) (v : T) (rings : List (List ℕ)) → k < length rings → map (entries_of now base) rings ≡ map (entries_of values base) rings → slice_get now (x - base) ≡ Some v
    → map (entries_of now base) (set rings k (ring rings k ++ x ∷ [])) ≡ with_last (map (entries_of values base) rings) k x v
with_last_is values now base k x v rings low same own =
    let ours = entries_of now base in
    let one : ours (ring rings k ++ x ∷ []) ≡ ours (ring rings k) ++ (x, v) ∷ [] = entries-append now base (ring rings k) (x ∷ []) ∙ ap (λ o. ours (ring rings k) ++ with_entry x o []) own in
    map-set ours rings k (ring rings k ++ x ∷ []) ∙ ap (λ es. set (map ours rings) k es) one
    ∙ ap (λ es. set (map ours rings) k (es ++ (x, v) ∷ [])) (sym (get_or-map ours rings k [] [] low))
    ∙ ap (λ ls. set ls k (list_of ls k ++ (x, v) ∷ [])) same
