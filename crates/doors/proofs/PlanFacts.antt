-- Doors by their numbers.
use Rattle.std.proofs.Common.{◌≡◌, ◌≢◌, ◌⊎◌, inl, inr, ℕ, suc, zero, ◌<◌, ◌==◌, Bool, true, false, List, [], ◌∷◌, ◌++◌, length, if◌then◌else◌, arith, sym, refl, ap, subst, ◌∙◌, Result, Ok, Err, OnOk, OnErr}
use Rattle.std.specs.Prelude.{slice_index_or, slice_set}
use Rattle.std.proofs.lemmas.Bool.{eq-eqb}
use Rattle.std.proofs.lemmas.Bool.Decides.{eqb_tells}
use Rattle.doors.specs.declared.planned_door.PlannedDoor.{PlannedDoor}
use Rattle.doors.specs.declared.memory_connection.MemoryConnection.{MemoryConnection}
use Rattle.doors.specs.MemoryDoor.{MemoryVisits, empty_door, IsUnused, with_connection, with_failing}
use Rattle.doors.specs.MemoryListener.{IsPlaceOf, door_at, with_door}

abbrev Told : ℕ → ℕ → Type 0
Told a b = (((a == b) ≡ true) × (a ≡ b)) ⊎ (((a == b) ≡ false) × (a ≢ b))

pick : {T : Type 0} (b : Bool) (x y : T) → b ≡ true → (if b then x else y) ≡ x
pick b x y is = rw is refl

pub pass : {T : Type 0} (b : Bool) (x y : T) → b ≡ false → (if b then x else y) ≡ y
pass b x y is = rw is refl

pub unlike : (a b : ℕ) → Told a b → a ≢ b → (a == b) ≡ false
unlike a b (inl (t, e)) ne = absurd (ne e)
unlike a b (inr (f, n)) ne = f

-- the place behind the first door
behind : (p : PlannedDoor) (ps : List PlannedDoor) (number place : ℕ) → IsPlaceOf (p ∷ ps) number (suc place) → IsPlaceOf ps number place
behind p ps number place is = record {
  within = let w = is.within in omega (arith, w);
  there = λ other. is.there other;
  first = λ earlier other lt. is.first (suc earlier) other (omega (arith, lt));
}

-- the first door with a number is the door of that number
pub door_found : (ps : List PlannedDoor) (number place : ℕ) → IsPlaceOf ps number place → (other : PlannedDoor) → (slice_index_or ps place other).door ≡ door_at ps number
door_found [] number place is other = absurd (let w = is.within in omega (arith, w))
door_found (p ∷ ps) number zero is other = sym (pick (p.number == number) p.door (door_at ps number) (eq-eqb p.number number (is.there p)))
door_found (p ∷ ps) number (suc place) is other =
    door_found ps number place (behind p ps number place is) other
    ∙ sym (pass (p.number == number) p.door (door_at ps number) (unlike p.number number (eqb_tells p.number number) (is.first 0 p (omega arith))))

further : (p : PlannedDoor) (number n : ℕ) (door mine rest : MemoryVisits) → Told number n → p.number ≢ number → mine ≡ (if number == n then door else rest) →
    (if p.number == n then p.door else mine) ≡ (if number == n then door else (if p.number == n then p.door else rest))
further p number n door mine rest (inl (t, e)) ne is =
    pass (p.number == n) p.door mine (unlike p.number n (eqb_tells p.number n) (λ same. ne (same ∙ sym e)))
    ∙ is ∙ pick (number == n) door rest t ∙ sym (pick (number == n) door (if p.number == n then p.door else rest) t)
further p number n door mine rest (inr (f, other)) ne is =
    ap (λ (x : MemoryVisits). if p.number == n then p.door else x) (is ∙ pass (number == n) door rest f)
    ∙ sym (pass (number == n) door (if p.number == n then p.door else rest) f)

same_number : (p : PlannedDoor) (number n : ℕ) (door rest : MemoryVisits) → Told number n → p.number ≡ number →
    (if number == n then door else rest) ≡ (if number == n then door else (if p.number == n then p.door else rest))
same_number p number n door rest (inl (t, e)) same = pick (number == n) door rest t ∙ sym (pick (number == n) door (if p.number == n then p.door else rest) t)
same_number p number n door rest (inr (f, other)) same =
    pass (number == n) door rest f ∙ sym (pass (p.number == n) p.door rest (unlike p.number n (eqb_tells p.number n) (λ e. other (sym same ∙ e))))
    ∙ sym (pass (number == n) door (if p.number == n then p.door else rest) f)

-- the first door with a number is changed
pub door_set : (ps : List PlannedDoor) (number place : ℕ) → IsPlaceOf ps number place → (label : ℕ) → label ≡ number → (door : MemoryVisits) (n : ℕ) →
    door_at (slice_set ps place (record { number = label; door = door })) n ≡ with_door (door_at ps) number door n
door_set [] number place is label named door n = absurd (let w = is.within in omega (arith, w))
door_set (p ∷ ps) number zero is label named door n =
    ap (λ (x : ℕ). if x == n then door else door_at ps n) named ∙ same_number p number n door (door_at ps n) (eqb_tells number n) (is.there p)
door_set (p ∷ ps) number (suc place) is label named door n =
    further p number n door (door_at (slice_set ps place (record { number = label; door = door })) n) (door_at ps n) (eqb_tells number n) (is.first 0 p (omega arith))
    (door_set ps number place (behind p ps number place is) label named door n)

-- no door has the number
pub door_missing : (ps : List PlannedDoor) (number : ℕ) → ((j : ℕ) (d : PlannedDoor) → j < length ps → (slice_index_or ps j d).number ≢ number) → door_at ps number ≡ empty_door
door_missing [] number none = refl
door_missing (p ∷ ps) number none =
    pass (p.number == number) p.door (door_at ps number) (unlike p.number number (eqb_tells p.number number) (none 0 p (omega arith)))
    ∙ door_missing ps number (λ j d lt. none (suc j) d (omega (arith, lt)))

-- an empty door in the place of one to which nobody comes
pub same_empty : (doors : ℕ → MemoryVisits) (number n : ℕ) → Told number n → doors number ≡ empty_door → doors n ≡ with_door doors number empty_door n
same_empty doors number n (inl (t, e)) is = ap doors (sym e) ∙ is ∙ sym (pick (number == n) empty_door (doors n) t)
same_empty doors number n (inr (f, other)) is = sym (pass (number == n) empty_door (doors n) f)

pub stays_empty : (ps : List PlannedDoor) (number : ℕ) → door_at ps number ≡ empty_door → (n : ℕ) → door_at ps n ≡ with_door (door_at ps) number empty_door n
stays_empty ps number is n = same_empty (door_at ps) number n (eqb_tells number n) is

either_empty : (b : Bool) → (if b then empty_door else empty_door) ≡ empty_door
either_empty true = refl
either_empty false = refl

-- an empty door behind the others
pub door_pushed : (ps : List PlannedDoor) (number n : ℕ) → door_at (ps ++ record { number = number; door = empty_door } ∷ []) n ≡ door_at ps n
door_pushed [] number n = either_empty (number == n)
door_pushed (p ∷ ps) number n = ap (λ (x : MemoryVisits). if p.number == n then p.door else x) (door_pushed ps number n)

-- the same, where it may not have been put there
pub door_perhaps : (more : Bool) (ps : List PlannedDoor) (number n : ℕ) → door_at (if more then ps ++ record { number = number; door = empty_door } ∷ [] else ps) n ≡ door_at ps n
door_perhaps true ps number n = door_pushed ps number n
door_perhaps false ps number n = refl

same_with : (doors : ℕ → MemoryVisits) (number n : ℕ) → Told number n → with_door doors number (doors number) n ≡ doors n
same_with doors number n (inl (t, e)) = pick (number == n) (doors number) (doors n) t ∙ ap doors e
same_with doors number n (inr (f, other)) = pass (number == n) (doors number) (doors n) f

either_unused : (b : Bool) (x y : MemoryVisits) → IsUnused x → IsUnused y → IsUnused (if b then x else y)
either_unused true x y a b = a
either_unused false x y a b = b

-- a door stays unused, whatever came of a change of what is to come, or of the calls that fail
pub add_stays : {T E : Type 0} (r : Result T E) (old new : MemoryVisits) (c : MemoryConnection) → OnOk r (new ≡ with_connection old c) → OnErr r (new ≡ old) → IsUnused old → IsUnused new
add_stays (Ok x) old new c is same unused = subst IsUnused (sym is) (record { out = unused.out; back = unused.back; faults = unused.faults })
add_stays (Err e) old new c is same unused = subst IsUnused (sym same) unused

pub fail_stays : {T E : Type 0} (r : Result T E) (old new : MemoryVisits) (call : ℕ) → OnOk r (new ≡ with_failing old call) → OnErr r (new ≡ old) → IsUnused old → IsUnused new
fail_stays (Ok x) old new call is same unused = subst IsUnused (sym is) (record { out = unused.out; back = unused.back; faults = unused.faults })
fail_stays (Err e) old new call is same unused = subst IsUnused (sym same) unused

pub ok_maps : {T E A B : Type 0} (r : Result T E) → (A → B) → OnOk r A → OnOk r B
ok_maps (Ok x) f a = f a
ok_maps (Err e) f a = tt

-- A planned door is changed: the one in this place, where these doors stand as those do.
pub record ChangesPlace (doors mid : List PlannedDoor) (number place : ℕ) (item : PlannedDoor) (new : MemoryVisits) : Type 0 where
  pub found : IsPlaceOf mid number place
  pub item_is : item ≡ slice_index_or mid place item
  pub same : (n : ℕ) → door_at mid n ≡ door_at doors n

module _ (doors mid : List PlannedDoor) (number place : ℕ) (item : PlannedDoor) (new : MemoryVisits) (change : ChangesPlace doors mid number place item new) where
  pub the_door : item.door ≡ door_at doors number
  the_door = ap (λ (p : PlannedDoor). p.door) change.item_is ∙ door_found mid number place change.found item ∙ change.same number

  after_it : (n : ℕ) → door_at (slice_set mid place (record { number = item.number; door = new })) n ≡ with_door (door_at mid) number new n
  after_it n = door_set mid number place change.found item.number (ap (λ (p : PlannedDoor). p.number) change.item_is ∙ change.found.there item) new n

  pub change_is : (door : MemoryVisits) → new ≡ door → (n : ℕ) → door_at (slice_set mid place (record { number = item.number; door = new })) n ≡ with_door (door_at doors) number door n
  change_is door is n = after_it n ∙ (λ i. if number == n then is i else change.same n i)

  pub change_keeps : new ≡ item.door → (n : ℕ) → door_at (slice_set mid place (record { number = item.number; door = new })) n ≡ door_at doors n
  change_keeps is n = change_is (door_at doors number) (is ∙ the_door) n ∙ same_with (door_at doors) number n (eqb_tells number n)

  pub all_unused : ((n : ℕ) → IsUnused (door_at doors n)) → (IsUnused item.door → IsUnused new) → (n : ℕ) → IsUnused (door_at (slice_set mid place (record { number = item.number; door = new })) n)
  all_unused unused stays n =
      subst IsUnused (sym (change_is new refl n)) (either_unused (number == n) new (door_at doors n) (stays (subst IsUnused (sym the_door) (unused number))) (unused n))
