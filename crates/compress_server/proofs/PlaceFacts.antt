-- Places whose doors go back to their listener one after another.
use Rattle.std.proofs.Common.{◌≡◌, ◌∙◌, ◌⊎◌, inl, inr, refl, sym, subst, ap, ℕ, suc, ◌+◌, ◌<◌, ◌≤◌, Bool, true, false, List, [], ◌∷◌, length, map, Option, Some, None, arith}
use Rattle.std.specs.Prelude.{nat_lt, slice_index_or, ◌++◌, ◌||◌}
use Rattle.std.specs.List.{list_any}
use Rattle.std.proofs.lemmas.Bool.{ltb-true, ltb-false}
use Rattle.outside.specs.Faults.{Rose}
use Rattle.doors.specs.Visits.{Visits, Doors, Binds, IsLent, Lends, TakesBack}
use Rattle.seats.specs.declared.place.Place.{Place}
use Rattle.compress_server.specs.Runs.{ArePlanned, runs_of}
use Rattle.compress_server.specs.Serve.{SeatRun, LendsMany, AreLent, IsPlannedAt, HasGiven, HasGivenAt, HasGivenSince, HaveGiven, TakesBackAll}

-- a count that rose has risen later too
pub rose_stays : (before mid after : ℕ) → before ≤ mid → mid ≤ after → Rose before mid → Rose before after
rose_stays before mid after low up (inl rose) = inl (omega arith)
rose_stays before mid after low up (inr most) = at_most (nat_lt mid after) refl
  where
    at_most : (b : Bool) → nat_lt mid after ≡ b → Rose before after
    at_most true e = inl (omega (arith, ltb-true mid after e, low))
    at_most false e = inr (omega (arith, ltb-false mid after e, up, most))

-- the next of these doors is lent
next_lent : (n : ℕ) (doors : Option Doors) → AreLent (1 + n) doors → IsLent doors
next_lent n None lent = tt
next_lent n (Some d) lent = omega (arith, lent)

pub lent_now : {P : Type 0} (doors : Option Doors) (rest more : List P) (x : P) → rest ≡ x ∷ more → AreLent (length rest) doors → IsLent doors
lent_now {P = P} doors rest more x next lent = next_lent (length more) doors (subst (λ (n : ℕ). AreLent n doors) (omega arith) (subst (λ (l : List P). AreLent (length l) doors) next lent))

still_lent : (n : ℕ) (before after : Option Doors) (door : Option Visits) → TakesBack before after door → AreLent (1 + n) before → AreLent n after
still_lent n None after door takes lent = subst (AreLent n) (sym takes) tt
still_lent n (Some d) after (Some v) takes lent = subst (AreLent n) (sym takes) (omega (arith, lent))
still_lent n (Some d) after None (v, takes) lent = subst (AreLent n) (sym takes) (omega (arith, lent))

split_any : (b c : Bool) → (b || c) ≡ true → (b ≡ true) ⊎ (c ≡ true)
split_any true c e = inl refl
split_any false c e = inr e

abbrev doors_of : {D In Out : Type 0} → List (Place D In Out) → List D
doors_of {D = D} {In = In} {Out = Out} places = map (λ (place : Place D In Out). place.door) places

module _ {D In Out : Type 0} (visits : D → Option Visits) (faults : D → ℕ) where
  abbrev pub any_failed : List (Place D In Out) → Bool
  any_failed places = list_any (λ (place : Place D In Out). nat_lt 0 (faults place.door)) places

  -- Of all these places the rest are still to go back.
  pub record IsFrontBack (before now : Option Doors) (was is : ℕ) (all rest : List (Place D In Out)) : Type 0 where
    pub lent : AreLent (length rest) now
    pub returned : (final : Option Doors) → TakesBackAll visits now final (doors_of rest) → TakesBackAll visits before final (doors_of all)
    pub never_falls : was ≤ is
    pub counted : any_failed all ≡ true → (any_failed rest ≡ true) ⊎ Rose was is

  pub front_none : (before : Option Doors) (was : ℕ) (all : List (Place D In Out)) → AreLent (length all) before → IsFrontBack before before was was all all
  front_none before was all lent = record { lent = lent; returned = λ final takes. takes; never_falls = omega arith; counted = λ any. inl any }

  pub front_more : (before now after : Option Doors) (was is later : ℕ) (all rest more : List (Place D In Out)) (x : Place D In Out) → IsFrontBack before now was is all rest → rest ≡ x ∷ more → TakesBack now after (visits x.door) → is ≤ later
      → (0 < faults x.door → Rose is later) → IsFrontBack before after was later all more
  front_more before now after was is later all rest more x f next takes up failed =
      let lent : AreLent (1 + length more) now = subst (λ (n : ℕ). AreLent n now) (omega arith) (subst (λ (l : List (Place D In Out)). AreLent (length l) now) next f.lent) in
      record {
        lent = still_lent (length more) now after (visits x.door) takes lent;
        returned = λ final others. f.returned final (subst (λ (l : List (Place D In Out)). TakesBackAll visits now final (doors_of l)) (sym next) (after, takes, others));
        never_falls = omega (arith, f.never_falls, up);
        counted = λ any. counts (f.counted any);
      }
    where
      rose_here : Rose is later → Rose was later
      rose_here (inl rose) = inl (omega (arith, f.never_falls, rose))
      rose_here (inr most) = inr most

      counts_first : (nat_lt 0 (faults x.door) ≡ true) ⊎ (any_failed more ≡ true) → (any_failed more ≡ true) ⊎ Rose was later
      counts_first (inl here) = inr (rose_here (failed (ltb-true 0 (faults x.door) here)))
      counts_first (inr there) = inl there

      counts : (any_failed rest ≡ true) ⊎ Rose was is → (any_failed more ≡ true) ⊎ Rose was later
      counts (inl any) = counts_first (split_any (nat_lt 0 (faults x.door)) (any_failed more) (subst (λ (l : List (Place D In Out)). any_failed l ≡ true) next any))
      counts (inr rose) = inr (rose_stays was is later f.never_falls up rose)

  pub all_back : (before now : Option Doors) (was is : ℕ) (all rest : List (Place D In Out)) → IsFrontBack before now was is all rest → length rest ≡ 0 → TakesBackAll visits before now (doors_of all)
  all_back before now was is all [] f none = f.returned now refl
  all_back before now was is all (x ∷ rest) f none = absurd (omega (arith, none))

  pub all_counted : (before now : Option Doors) (was is : ℕ) (all rest : List (Place D In Out)) → IsFrontBack before now was is all rest → length rest ≡ 0 → any_failed all ≡ true → Rose was is
  all_counted before now was is all [] f none any = rose_of (f.counted any)
    where
      rose_of : (any_failed [] ≡ true) ⊎ Rose was is → Rose was is
      rose_of (inl none) = absurd cc
      rose_of (inr rose) = rose
  all_counted before now was is all (x ∷ rest) f none any = absurd (omega (arith, none))

one_behind : (d : Doors) (n : ℕ) → ◌≡◌ {A = ℕ → List (List ℕ)} (λ k. d.planned ((k + 1) + n)) (λ k. d.planned (k + (n + 1)))
one_behind d n = λ i k. ap d.planned (further k) i
  where
    further : (k : ℕ) → (k + 1) + n ≡ k + (n + 1)
    further k = omega arith

-- one more door was handed out
pub lends_more : (n : ℕ) (before mid after : Option Doors) (door : Option Visits) → LendsMany n before mid → Lends mid after door → LendsMany (n + 1) before after
lends_more n None mid after door many one = none_of mid many one
  where
    none_of : (mid : Option Doors) → mid ≡ None → Lends mid after door → after ≡ None
    none_of None e one = one
    none_of (Some d) e one = absurd cc
lends_more n (Some d) mid after door many one =
    subst (λ (m : Option Doors). Lends m after door → LendsMany (n + 1) (Some d) after) (sym many)
    (λ lends. lends.0 ∙ (λ i. Some (record d { planned = one_behind d n i; lent = more i }))) one
  where
    more : (d.lent + n) + 1 ≡ d.lent + (n + 1)
    more = omega arith

-- it has what was to come to it
pub lends_planned : (n : ℕ) (before mid after : Option Doors) (door : Option Visits) → LendsMany n before mid → Lends mid after door → IsPlannedAt before (0 + n) door
lends_planned n None mid after door many one = tt
lends_planned n (Some d) mid after door many one = subst (λ (m : Option Doors). Lends m after door → IsPlannedAt (Some d) (0 + n) door) (sym many) (λ lends. lends.1) one

-- a door gave of what was to come to it, where it gave of what was to come to it as it was
given_here : (doors : Option Doors) (k : ℕ) (old new : Option Visits) → IsPlannedAt doors k old → HasGivenSince old new → HasGivenAt doors k new
given_here None k old new is since = tt
given_here (Some d) k None new is since = subst (λ (v : Option Visits). HasGiven (d.planned k) v) (sym since) tt
given_here (Some d) k (Some v) new is since = subst (λ (inputs : List (List ℕ)). HasGiven inputs new) is since

module _ {D In Out : Type 0} (visits : D → Option Visits) (doors : Option Doors) where
  -- one more place whose door has what was to come to it
  pub planned_more : (k : ℕ) (places : List (Place D In Out)) (place : Place D In Out) → ArePlanned visits doors k places → IsPlannedAt doors (k + length places) (visits place.door) → ArePlanned visits doors k (places ++ place ∷ [])
  planned_more k [] place are is = (subst (λ n. IsPlannedAt doors n (visits place.door)) (omega arith) is, tt)
  planned_more k (first ∷ places) place are is = (are.0, planned_more (k + 1) places place are.1 (subst (λ n. IsPlannedAt doors n (visits place.door)) (omega arith) is))

  -- each seat's door gave of what was to come to it
  pub have_given : (k : ℕ) (old new : List (Place D In Out)) → length new ≡ length old → ArePlanned visits doors k old →
      ((j : ℕ) (other : Place D In Out) → j < length old → HasGivenSince (visits (slice_index_or old j other).door) (visits (slice_index_or new j other).door)) → HaveGiven visits doors k (runs_of new)
  have_given k old [] same are each = tt
  have_given k [] (n ∷ new) same are each = absurd (omega (arith, same))
  have_given k (o ∷ old) (n ∷ new) same are each = (
    given_here doors k (visits o.door) (visits n.door) are.0 (each 0 o (omega arith)),
    have_given (k + 1) old new (omega (arith, same)) are.1 (λ j other lt. each (suc j) other (omega (arith, lt))),
  )

module _ {D : Type 0} (visits : D → Option Visits) (doors : Option Doors) where
  -- what was to come to a listener's doors is so whatever address it listens at
  pub bound_given : (address : List ℕ) (bound : Option Doors) → Binds address doors bound → (k : ℕ) (seats : List (SeatRun D)) → HaveGiven visits bound k seats → HaveGiven visits doors k seats
  bound_given address bound binds k [] have = tt
  bound_given address bound binds k (seat ∷ seats) have = (at_here doors bound binds have.0, bound_given address bound binds (k + 1) seats have.1)
    where
      at_here : (doors bound : Option Doors) → Binds address doors bound → HasGivenAt bound k (visits seat.door) → HasGivenAt doors k (visits seat.door)
      at_here None bound binds given = tt
      at_here (Some d) bound binds given = subst (λ (b : Option Doors). HasGivenAt b k (visits seat.door) → HasGivenAt (Some d) k (visits seat.door)) (sym binds) (λ g. g) given

-- as many are lent as were handed out
pub lent_of : (n : ℕ) (before after : Option Doors) → LendsMany n before after → AreLent n after
lent_of n None after many = subst (AreLent n) (sym many) tt
lent_of n (Some d) after many = subst (AreLent n) (sym many) (omega arith)
