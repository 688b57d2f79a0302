-- Connections that a seat serves: what each gave and took, and the session that it was.
use Rattle.std.specs.Prelude.{◌≡◌, ℕ, ◌≤◌, ◌<◌, Bool, List, [], ◌∷◌, ◌++◌, length, map, Option, Some, None}
use Rattle.doors.specs.Visits.{Visit, Visits}
use Rattle.session.specs.declared.serve.SessionEnd.{SessionEnd}
use Rattle.session.specs.declared.serve.SessionEnd.TheVariants as session_end
use Rattle.session.specs.Serving.{Sight}
use Rattle.session.specs.Ending.{Ends}
use Rattle.seats.specs.declared.seat.SeatEnd.{SeatEnd}
use Rattle.seats.specs.declared.seat.SeatEnd.TheVariants as seat_end

-- the bytes of a connection's input
abbrev pub input_of : Visit → List ℕ
input_of visit = visit.gave ++ visit.left

-- The connection was one session by this clock, from what the seat had seen before it to what it had seen after it. A fault ended it only where that stream had one.
pub record IsVisit (clock : ℕ → Bool) (old new : Sight) (visit : Visit) : Type 0 where
  pub end : SessionEnd
  pub ends : Ends clock old (Some (record { given = []; left = input_of visit })) (Some (record { given = visit.gave; left = visit.left })) (Some []) (Some visit.took) new end
  pub source_fault : end ≡ session_end.SourceFault → 0 < visit.input_faults
  pub sink_fault : end ≡ session_end.SinkFault → 0 < visit.output_faults

-- A session that had no memory at its start is the seat's last, and the seat ended for that.
abbrev pub MayGoOn : SessionEnd → List Visit → SeatEnd → Type 0
MayGoOn end others out = end ≡ session_end.Memory → (others ≡ []) × (out ≡ seat_end.Memory)

-- The connections were sessions, one after another, and then the seat's work ended so.
abbrev pub AreVisits : (ℕ → Bool) → Sight → List Visit → Sight → SeatEnd → Type 0
AreVisits clock old [] new out = new ≡ old
AreVisits clock old (visit ∷ visits) new out = (mid : Sight) × (first : IsVisit clock old mid visit) × MayGoOn first.end visits out × AreVisits clock mid visits new out

-- A door's next connections, at most so many, were given, and each was given back, in order; then the seat's work ended so: it is over only where none is to come, and at the most only where as many as that were served.
pub record AreNext (v w : Visits) (most : ℕ) (out : SeatEnd) (visits : List Visit) : Type 0 where
  pub given : v.coming ≡ map input_of visits ++ w.coming
  pub back : w.back ≡ v.back ++ visits
  pub none_out : w.out ≡ v.out
  pub few : length visits ≤ most
  pub all : out ≡ seat_end.Most → length visits ≡ most
  pub over : out ≡ seat_end.Over → w.coming ≡ []

-- What a seat did at a door, by what the door tells: it served the door's next connections.
abbrev pub SeatServes : (ℕ → Bool) → Sight → Sight → Option Visits → Option Visits → ℕ → SeatEnd → Type 0
SeatServes clock old new None after most out = after ≡ None
SeatServes clock old new (Some v) None most out = ⊥
SeatServes clock old new (Some v) (Some w) most out = (visits : List Visit) × AreNext v w most out visits × AreVisits clock old visits new out
