-- What a service comes to over a house that was just opened.
use Rattle.std.proofs.Common.{◌≡◌, ◌∙◌, ◌⊎◌, inl, inr, refl, sym, subst, ap, ℕ, suc, ◌<◌, Bool, true, false, List, [], ◌∷◌, ◌++◌, take, drop, length, map, Option, All, arith}
use Rattle.std.specs.Prelude.{nat_lt, ◌||◌}
use Rattle.std.specs.List.{list_any}
use Rattle.std.proofs.lemmas.List.{length-map}
use Rattle.std.proofs.Math.Seq.{take-append_seam}
use Rattle.std.proofs.lemmas.Simd.{map-map}
use Rattle.std.proofs.lemmas.List.Elements.{All-map}
use Rattle.outside.specs.Faults.{Rose}
use Rattle.outside.specs.declared.trouble.Trouble.{Trouble}
use Rattle.outside.specs.declared.trouble.Trouble.TheVariants as trouble
use Rattle.doors.specs.Visits.{Visits, Doors, Binds, IsNew}
use Rattle.house.specs.House.{HouseView}
use Rattle.seats.specs.declared.place.Place.{Place}
use Rattle.seats.specs.declared.seat.SeatEnd.{SeatEnd}
use Rattle.seats.specs.declared.seat.SeatEnd.TheVariants as seat_end
use Rattle.compress_server.specs.declared.serve.ServiceEnd.{ServiceEnd}
use Rattle.compress_server.specs.declared.serve.ServiceEnd.TheVariants.{ListenerFault, Memory}
use Rattle.compress_server.specs.Seen.{OutputState, ListenerState}
use Rattle.compress_server.specs.Runs.{run_of, runs_of}
use Rattle.compress_server.specs.Serve.{SeatRun, LendsMany, TakesBackAll, Returned, IsUnasked, IsUnbegun, had_door_fault, trouble_end}

-- a vector whose elements were all written anew has the new ones
pub written_anew : {P : Type 0} (n : ℕ) (new old : List P) → length new ≡ n → take n (new ++ drop (length new) old) ≡ new
written_anew n new old many = ap (λ k. take k (new ++ drop (length new) old)) (sym many) ∙ take-append_seam new (drop (length new) old)

-- why a service did not begin, where its listener was in trouble
pub why_trouble : (t : Trouble) (end : ServiceEnd) (rose : Type 0) → end ≡ trouble_end t → (t ≡ trouble.Failed → rose) → (end ≡ Memory) ⊎ ((end ≡ ListenerFault) × rose)
why_trouble trouble.Failed end rose is failed = inr (is, failed refl)
why_trouble trouble.Memory end rose is failed = inl is

-- no door was handed out
pub none_asked : {D : Type 0} (visits : D → Option Visits) (address : List ℕ) (before after : Option Doors) → after ≡ before → IsUnasked visits address before after
none_asked visits address before after same = record { doors = []; returned = inl (refl, same); unserved = λ k other lt. absurd (omega (arith, lt)) }

pub unbegun_at_once : {D : Type 0} (visits : D → Option Visits) (address : List ℕ) (v : HouseView) (output : OutputState) (listener listener' : ListenerState) (end : ServiceEnd) → listener'.doors ≡ listener.doors →
    (end ≡ Memory) ⊎ ((end ≡ ListenerFault) × Rose listener.faults listener'.faults) → IsUnbegun visits address v v output output listener listener' end
unbegun_at_once visits address v output listener listener' end same why =
    record { same = refl; none_written = refl; unasked = none_asked visits address listener.doors listener'.doors same; why = why }

fault_end : (end : SeatEnd) → had_door_fault end ≡ true → end ≡ seat_end.DoorFault
fault_end seat_end.Over e = absurd cc
fault_end seat_end.Most e = absurd cc
fault_end seat_end.DoorFault e = refl
fault_end seat_end.Memory e = absurd cc

lt_true : (n : ℕ) → 0 < n → nat_lt 0 n ≡ true
lt_true n some = grind arith

or_either : (a b c d : Bool) → (a || b) ≡ true → (a ≡ true → c ≡ true) → (b ≡ true → d ≡ true) → (c || d) ≡ true
or_either true b c d e first second = subst (λ x. (x || d) ≡ true) (sym (first refl)) refl
or_either false b true d e first second = refl
or_either false b false d e first second = second e

module _ {D In Out : Type 0} (visits : D → Option Visits) where
  door_of : Place D In Out → D
  door_of place = place.door

  -- the doors at these places were handed out, and went back
  pub unbegun_back : (address : List ℕ) (v w : HouseView) (output : OutputState) (listener listener' : ListenerState) (bound mid : Option Doors) (places : List (Place D In Out)) (end : ServiceEnd) → w ≡ v → Binds address listener.doors bound → LendsMany (length places) bound mid →
      TakesBackAll visits mid listener'.doors (map (λ (place : Place D In Out). place.door) places) → All (λ (place : Place D In Out). IsNew (visits place.door)) places →
      (end ≡ Memory) ⊎ ((end ≡ ListenerFault) × Rose listener.faults listener'.faults) → IsUnbegun visits address v w output output listener listener' end
  unbegun_back address v w output listener listener' bound mid places end same binds lends takes fresh why = record {
    same = same;
    none_written = refl;
    unasked = record {
      doors = map (λ (place : Place D In Out). place.door) places;
      returned = inr (bound, mid, binds, subst (λ n. LendsMany n bound mid) (sym (length-map places (λ (place : Place D In Out). place.door))) lends, takes);
      unserved = All-map (λ (door : D). IsNew (visits door)) (λ (place : Place D In Out). place.door) places fresh;
    };
    why = why;
  }

  -- the doors of the seats are those of their places
  same_doors : (places : List (Place D In Out)) → map (λ (seat : SeatRun D). seat.door) (runs_of places) ≡ map (λ (place : Place D In Out). place.door) places
  same_doors places = map-map (λ (seat : SeatRun D). seat.door) (λ (place : Place D In Out). run_of place) places

  pub seats_returned : (address : List ℕ) (before bound mid after : Option Doors) (n : ℕ) (places : List (Place D In Out)) → length places ≡ n → Binds address before bound → LendsMany n bound mid → TakesBackAll visits mid after (map (λ (place : Place D In Out). place.door) places) →
      Returned visits address before after (map (λ (seat : SeatRun D). seat.door) (runs_of places))
  seats_returned address before bound mid after n places many binds lends takes = (
    bound,
    mid,
    binds,
    subst (λ k. LendsMany k bound mid) (sym (ap length (same_doors places) ∙ (length-map places (λ (place : Place D In Out). place.door) ∙ many))) lends,
    subst (λ (ds : List D). TakesBackAll visits mid after ds) (sym (same_doors places)) takes,
  )

  -- what holds of some seat holds of some place
  pub any_run : (test : SeatEnd → Bool) (places : List (Place D In Out)) → list_any (λ (place : Place D In Out). test place.end) places ≡ list_any (λ (seat : SeatRun D). test seat.end) (runs_of places)
  any_run test [] = refl
  any_run test (place ∷ places) = ap (λ b. test place.end || b) (any_run test places)

  -- a seat ended for its door's fault: some door has a fault
  pub some_failed : (faults : D → ℕ) (places : List (Place D In Out)) → All (λ (place : Place D In Out). place.end ≡ seat_end.DoorFault → 0 < faults place.door) places →
      list_any (λ (place : Place D In Out). had_door_fault place.end) places ≡ true → list_any (λ (place : Place D In Out). nat_lt 0 (faults place.door)) places ≡ true
  some_failed faults [] each any = absurd cc
  some_failed faults (place ∷ places) each any =
      or_either (had_door_fault place.end) (list_any (λ (p : Place D In Out). had_door_fault p.end) places) (nat_lt 0 (faults place.door)) (list_any (λ (p : Place D In Out). nat_lt 0 (faults p.door)) places) any
      (λ e. lt_true (faults place.door) (each 0 place (omega arith) (fault_end place.end e)))
      (some_failed faults places (λ k other lt. each (suc k) other (omega (arith, lt))))
