-- What a service says of its seats, and of the line that it writes.
use Rattle.std.proofs.Common.{◌≡◌, ◌∙◌, refl, sym, subst, ap, ℕ, suc, ◌+◌, ◌<◌, ◌≤◌, Bool, true, false, List, [], ◌∷◌, ◌++◌, length, map, slice_index_or, Option, Some, None, arith}
use Rattle.std.specs.Prelude.{codes, decimal, OnOk, OnErr, Result, Ok, Err}
use Rattle.std.specs.Result.{is_ok, is_err}
use Rattle.outside.specs.Faults.{Rose}
use Rattle.outside.specs.Flow.{Takes, TakesFront}
use Rattle.doors.specs.Visits.{Visit, Visits, IsNew}
use Rattle.command_types.specs.History.{end_of}
use Rattle.cycle_lock.specs.declared.pass.Pass.{Pass}
use Rattle.cycle_lock.specs.Passes as passes
use Rattle.house.specs.House.{HouseView, figures_of}
use Rattle.session.specs.Serving.{Sight, of_pass}
use Rattle.session.proofs.PendingFacts.{says_then_flushed, says_whole, front_waiting, front_more}
use Rattle.seats.specs.declared.place.Place.{Place}
use Rattle.seats.specs.declared.seat.SeatEnd.{SeatEnd}
use Rattle.seats.specs.Final.{Final, AreServed, HasServed, seated}
use Rattle.seats.specs.Sessions.{input_of}
use Rattle.compress_server.specs.Serve.{seat_at, final_of, IsSeatAt, AreSeats, HasGivenSince, history_line, IsWritten}
use Rattle.compress_server.specs.Seen.{OutputState}
use Rattle.compress_server.specs.Runs.{runs_of}

-- ---- two pieces, one after the other

pub takes_both : (begun mid after : Option (List ℕ)) (first second : List ℕ) → Takes begun mid first → Takes mid after second → Takes begun after (first ++ second)
takes_both begun mid after first second one two =
    says_whole begun after first [] second refl (says_then_flushed begun mid after first second second (record { written = first; took = one; order = refl }) two)

pub takes_then_front : (begun mid after : Option (List ℕ)) (first second : List ℕ) → Takes begun mid first → TakesFront mid after second → TakesFront begun after (first ++ second)
takes_then_front begun mid after first second one two = front_waiting begun mid after first second second (record { written = first; took = one; order = refl }) two

-- ---- a seat

-- what a seat with this number has seen at first
abbrev pub first_seen : passes.LockId → HouseView → ℕ → Sight
first_seen lock v number = record { seat = seat_at lock v number; history = v.history; stopped = false }

-- a pass that has seen a house that was just opened
pub seated_at : (v : HouseView) (pass : Pass) (number : ℕ) → passes.figures_of pass ≡ figures_of v → passes.seen pass ≡ v.history → passes.saw_stop pass ≡ false → seated (of_pass pass) number ≡ first_seen (passes.lock_of pass) v number
seated_at v pass number figures history stop = λ i. record { seat = record { lock = passes.lock_of pass; figures = figures i; number = number; splits = 0 }; history = history i; stopped = stop i }

module _ (most_visits : ℕ) (lock : passes.LockId) (v w : HouseView) (number : ℕ) where
  stands : (clock : ℕ → Bool) (old new : Option Visits) (end : SeatEnd) → IsNew old → HasServed clock (final_of w) (first_seen lock v number) old new most_visits end → IsSeatAt clock most_visits lock v w number new end
  stands clock None new end fresh none = subst (λ d. IsSeatAt clock most_visits lock v w number d end) (sym none) tt
  stands clock (Some o) None end fresh served = absurd served
  stands clock (Some o) (Some n) end fresh (visits, next, served) =
      let back : n.back ≡ visits = next.back ∙ ap (λ (vs : List Visit). vs ++ visits) fresh.1 in
      record {
        none_out = next.none_out ∙ fresh.0;
        few = subst (λ (vs : List Visit). length vs ≤ most_visits) (sym back) next.few;
        most = λ is. ap length back ∙ next.all is;
        over = next.over;
        served = subst (λ (vs : List Visit). AreServed clock (final_of w) (seat_at lock v number) (end_of v.history) false vs end) (sym back) served;
      }

  pub seat_stands : (clock : ℕ → Bool) (start : Sight) (old new : Option Visits) (end : SeatEnd) → start ≡ first_seen lock v number → IsNew old → HasServed clock (final_of w) start old new most_visits end → IsSeatAt clock most_visits lock v w number new end
  seat_stands clock start old new end is fresh served = stands clock old new end fresh (subst (λ (s : Sight). HasServed clock (final_of w) s old new most_visits end) is served)

-- a new door that a seat worked at gave of what was to come to it
pub given_since : (clock : ℕ → Bool) (final : Final) (start : Sight) (old new : Option Visits) (most_visits : ℕ) (end : SeatEnd) → IsNew old → HasServed clock final start old new most_visits end → HasGivenSince old new
given_since clock final start None new most_visits end fresh served = served
given_since clock final start (Some o) None most_visits end fresh served = absurd served
given_since clock final start (Some o) (Some n) most_visits end fresh (visits, next, served) =
    let back : n.back ≡ visits = next.back ∙ ap (λ (vs : List Visit). vs ++ visits) fresh.1 in
    subst (λ (vs : List Visit). o.coming ≡ map input_of vs ++ n.coming) (sym back) next.given

none_more : (n : ℕ) → 0 + n ≡ n
none_more n = omega arith

-- the seats at these places, the first with this number
pub seats_of : {D In Out : Type 0} (clock : ℕ → Bool) (visits : D → Option Visits) (most_visits : ℕ) (lock : passes.LockId) (v w : HouseView) (n : ℕ) (places : List (Place D In Out)) →
    ((k : ℕ) (other : Place D In Out) → k < length places → IsSeatAt clock most_visits lock v w (k + n) (visits (slice_index_or places k other).door) (slice_index_or places k other).end) → AreSeats clock visits most_visits lock v w n (runs_of places)
seats_of clock visits most_visits lock v w n [] each = tt
seats_of clock visits most_visits lock v w n (place ∷ places) each = (
  subst (λ m. IsSeatAt clock most_visits lock v w m (visits place.door) place.end) (none_more n) (each 0 place (omega arith)),
  seats_of clock visits most_visits lock v w (n + 1) places (λ k other lt.
      let up : suc k + n ≡ k + (n + 1) = omega arith in
      subst (λ m. IsSeatAt clock most_visits lock v w m (visits (slice_index_or places k other).door) (slice_index_or places k other).end) up (each (suc k) other (omega (arith, lt)))),
)

-- ---- the line of the history's length, in three pieces

pub line_cut_second : (before mid after : OutputState) (n : ℕ) → Takes before.taken mid.taken (codes "history ") → TakesFront mid.taken after.taken (decimal n) → Rose before.faults after.faults → IsWritten before after (history_line n) false
line_cut_second before mid after n first front rose =
    (takes_then_front before.taken mid.taken after.taken (codes "history ") (decimal n ++ codes "\n") first (front_more mid.taken after.taken (decimal n) (codes "\n") front), rose)

module _ (before mid late after : OutputState) (n : ℕ) (first : Takes before.taken mid.taken (codes "history ")) (second : Takes mid.taken late.taken (decimal n)) where
  line_cut_third : TakesFront late.taken after.taken (codes "\n") → TakesFront before.taken after.taken (history_line n)
  line_cut_third front =
      takes_then_front before.taken mid.taken after.taken (codes "history ") (decimal n ++ codes "\n") first (takes_then_front mid.taken late.taken after.taken (decimal n) (codes "\n") second front)

  line_whole : Takes late.taken after.taken (codes "\n") → Takes before.taken after.taken (history_line n)
  line_whole third = takes_both before.taken mid.taken after.taken (codes "history ") (decimal n ++ codes "\n") first (takes_both mid.taken late.taken after.taken (decimal n) (codes "\n") second third)

  -- by whether the last piece was taken
  pub line_told : {E : Type 0} (r : Result (Unit {0}) E) (b : Bool) → b ≡ is_ok r → OnOk r (Takes late.taken after.taken (codes "\n")) → OnErr r (TakesFront late.taken after.taken (codes "\n")) → OnErr r (Rose before.faults after.faults) → IsWritten before after (history_line n) b
  line_told (Ok u) b is takes front rose = subst (IsWritten before after (history_line n)) (sym is) (line_whole takes)
  line_told (Err e) b is takes front rose = subst (IsWritten before after (history_line n)) (sym is) (line_cut_third front, rose)

-- ---- what holds of a result that was looked at

true≢false : true ≡ false → ⊥
true≢false e = absurd cc

pub ok_holds : {A E : Type 0} (r : Result A E) (b : Bool) (P : Type 0) → b ≡ is_err r → b ≡ false → OnOk r P → P
ok_holds (Ok a) b P is e h = h
ok_holds (Err x) b P is e h = absurd (true≢false (sym is ∙ e))

pub err_holds : {A E : Type 0} (r : Result A E) (b : Bool) (P : Type 0) → b ≡ is_err r → b ≡ true → OnErr r P → P
err_holds (Ok a) b P is e h = absurd (true≢false (sym e ∙ is))
err_holds (Err x) b P is e h = h

pub err_more : {A E : Type 0} (r : Result A E) (P Q : Type 0) → (P → Q) → OnErr r P → OnErr r Q
err_more (Ok a) P Q f h = tt
err_more (Err x) P Q f h = f h
