-- Seats that go on by one more connection.
use Rattle.std.proofs.Common.{◌≡◌, ℕ, ◌+◌, ◌-◌, ◌≤◌, ◌<◌, Bool, List, [], ◌∷◌, ◌++◌, length, map, Option, Some, None, IfSome, refl, sym, subst, ap, ◌∙◌, inl, inr, append_assoc, arith}
use Rattle.std.proofs.lemmas.List.{append-nil, length-append}
use Rattle.outside.specs.Flow.{Flow, Gives, Takes}
use Rattle.outside.specs.Faults.{Rose}
use Rattle.command_types.specs.declared.ask.Entry.{Entry}
use Rattle.doors.specs.Visits.{Visit, Visits, IsOver, Opens, Returns}
use Rattle.session.specs.declared.serve.SessionEnd.{SessionEnd}
use Rattle.session.specs.declared.serve.SessionEnd.TheVariants.{Ended, SourceFault, SinkFault, Limit, Memory}
use Rattle.session.specs.declared.serve.SessionEnd.TheVariants as session_end
use Rattle.session.specs.Serving.{Sight, Grows}
use Rattle.session.specs.Ending.{Ends}
use Rattle.session.proofs.GrowthFacts.{grows_none}
use Rattle.seats.specs.declared.seat.SeatEnd.{SeatEnd}
use Rattle.seats.specs.declared.seat.SeatEnd.TheVariants as seat_end
use Rattle.seats.specs.Sessions.{input_of, IsVisit, AreVisits, SeatServes}

-- what a session saw has grown
pub ends_grow : (clock : ℕ → Bool) (start : Sight) (opened flow : Option Flow) (begun taken : Option (List ℕ)) (now : Sight) (end : SessionEnd) → Ends clock start opened flow begun taken now end → (made : List Entry) × Grows start now made
ends_grow clock start opened flow begun taken now Ended (bytes, gives, inl (at_end, short, w)) = (w.made, w.grows)
ends_grow clock start opened flow begun taken now Ended (bytes, gives, inr (short, l)) = (l.written.made, l.written.grows)
ends_grow clock start opened flow begun taken now SourceFault (bytes, gives, short, (w, still)) = (w.made, w.grows)
ends_grow clock start opened flow begun taken now Limit (bytes, gives, size, (w, still)) = (w.made, w.grows)
ends_grow clock start opened flow begun taken now SinkFault (bytes, gives, inl (size, w)) = (w.cut.made, w.cut.grows)
ends_grow clock start opened flow begun taken now SinkFault (bytes, gives, inr (at_end, short, w)) = (w.cut.made, w.cut.grows)
ends_grow clock start opened flow begun taken now Memory (same, none_taken, desk) = let P : Sight → Type 0 = λ s. Grows start s [] in ([], subst P (sym desk) (grows_none start))

-- streams that tell their bytes before a session tell them after it
record Told (f : Flow) (flow : Option Flow) (taken : Option (List ℕ)) : Type 0 where
  gave : List ℕ
  left : List ℕ
  took : List ℕ
  flow_is : flow ≡ Some (record { given = f.given ++ gave; left = left })
  all : f.left ≡ gave ++ left
  taken_is : taken ≡ Some took

by_bytes : (f : Flow) (flow : Option Flow) (t : List ℕ) (taken : Option (List ℕ)) (bytes text : List ℕ) → Gives (Some f) flow bytes → Takes (Some t) taken text → Told f flow taken
by_bytes f None t taken bytes text gives takes = absurd gives
by_bytes f (Some after) t None bytes text gives takes = absurd takes
by_bytes f (Some after) t (Some took) bytes text gives takes =
    record { gave = bytes; left = after.left; took = took; flow_is = λ i. Some (record { given = gives.0 i; left = after.left }); all = gives.1; taken_is = refl }

told_after : (clock : ℕ → Bool) (start : Sight) (f : Flow) (flow : Option Flow) (t : List ℕ) (taken : Option (List ℕ)) (now : Sight) (end : SessionEnd) → Ends clock start (Some f) flow (Some t) taken now end → Told f flow taken
told_after clock start f flow t taken now Ended (bytes, gives, inl (at_end, short, w)) = by_bytes f flow t taken bytes w.text gives w.took
told_after clock start f flow t taken now Ended (bytes, gives, inr (short, l)) = by_bytes f flow t taken bytes l.written.text gives l.written.took
told_after clock start f flow t taken now SourceFault (bytes, gives, short, (w, still)) = by_bytes f flow t taken bytes w.text gives w.took
told_after clock start f flow t taken now Limit (bytes, gives, size, (w, still)) = by_bytes f flow t taken bytes w.text gives w.took
told_after clock start f flow t taken now SinkFault (bytes, gives, inl (size, w)) = by_bytes f flow t taken bytes _ gives w.cut.took.2
told_after clock start f flow t taken now SinkFault (bytes, gives, inr (at_end, short, w)) = by_bytes f flow t taken bytes _ gives w.cut.took.2
told_after clock start f flow t taken now Memory (same, none_taken, desk) =
    record { gave = []; left = f.left; took = t; flow_is = same ∙ (λ i. Some (record { given = sym (append-nil f.given) i; left = f.left })); all = refl; taken_is = none_taken }

pub rose_from_none : (before after : ℕ) → before ≡ 0 → Rose before after → 0 < after
rose_from_none before after none (inl lt) = omega (arith, none, lt)
rose_from_none before after none (inr e) = subst (λ (n : ℕ). 0 < n) (sym e) (omega arith)

-- a seat's work ends in one way
not_memory : {T : Type 0} → seat_end.Most ≡ seat_end.Memory → T
not_memory e = absurd cc

pub not_over : seat_end.Most ≡ seat_end.Over → ⊥
not_over e = absurd cc

-- as long as the seat goes on, its work may end in any way
pub visits_end : (clock : ℕ → Bool) (old : Sight) (visits : List Visit) (new : Sight) (out : SeatEnd) → AreVisits clock old visits new seat_end.Most → AreVisits clock old visits new out
visits_end clock old [] new out same = same
visits_end clock old (visit ∷ visits) new out (mid, first, may, rest) = (mid, first, (λ e. not_memory (may e).1), visits_end clock mid visits new out rest)

-- one visit more
visits_on : {clock : ℕ → Bool} (old : Sight) (visits : List Visit) (mid new : Sight) (visit : Visit) (out : SeatEnd) → AreVisits clock old visits mid seat_end.Most → (one : IsVisit clock mid new visit) → (one.end ≡ session_end.Memory → out ≡ seat_end.Memory) →
    AreVisits clock old (visits ++ visit ∷ []) new out
visits_on {clock = clock} old [] mid new visit out same one ends = let P : Sight → Type 0 = λ s. (v : IsVisit clock s new visit) × (v.end ≡ session_end.Memory → out ≡ seat_end.Memory) in
    let here = subst P same (one, ends) in (new, here.0, (λ e. (refl, here.1 e)), refl)
visits_on old (first ∷ visits) mid new visit out (next, is_first, may, more) one ends =
    (next, is_first, (λ e. not_memory (may e).1), visits_on next visits mid new visit out more one ends)

-- the seat's work ends, though fewer were served than may be
pub serves_end : (clock : ℕ → Bool) (old new : Sight) (v w w' : Option Visits) (count most : ℕ) (out : SeatEnd) → w' ≡ w → count ≤ most → (out ≡ seat_end.Most → count ≡ most) → (out ≡ seat_end.Over → IsOver w) →
    SeatServes clock old new v w count seat_end.Most → SeatServes clock old new v w' most out
serves_end clock old new v w w' count most out same few all over serves =
    let P : Option Visits → Type 0 = λ x. SeatServes clock old new v x most out in subst P (sym same) (ended v w over serves)
  where
    ended : (v w : Option Visits) → (out ≡ seat_end.Over → IsOver w) → SeatServes clock old new v w count seat_end.Most → SeatServes clock old new v w most out
    ended None w over serves = serves
    ended (Some v) None over serves = absurd serves
    ended (Some v) (Some w) over (visits, next, are) =
        (visits, (record { given = next.given; back = next.back; none_out = next.none_out; few = omega (arith, next.few, few); all = λ e. next.all refl ∙ all e; over = over }), visits_end clock old visits new out are)

map_on : (visits : List Visit) (visit : Visit) (rest : List (List ℕ)) → map input_of visits ++ (input_of visit ∷ rest) ≡ map input_of (visits ++ visit ∷ []) ++ rest
map_on [] visit rest = refl
map_on (first ∷ visits) visit rest = ap (λ xs. input_of first ∷ xs) (map_on visits visit rest)

-- a connection that a door gave, that was served, and that was given back
pub record IsRound (clock : ℕ → Bool) (now new : Sight) (w after returned : Option Visits) (end : SessionEnd) : Type 0 where
  pub opened : Option Flow
  pub flow : Option Flow
  pub begun : Option (List ℕ)
  pub taken : Option (List ℕ)
  pub input_faults : ℕ
  pub output_faults : ℕ
  pub opens : Opens w after opened begun
  pub ends : Ends clock now opened flow begun taken new end
  pub source_fault : end ≡ session_end.SourceFault → 0 < input_faults
  pub sink_fault : end ≡ session_end.SinkFault → 0 < output_faults
  pub returns : Returns after returned flow taken input_faults output_faults

-- a round, by streams none of whose calls had failed when they were given
pub round_of : {clock : ℕ → Bool} (now new : Sight) (w after returned : Option Visits) (opened flow : Option Flow) (begun taken : Option (List ℕ)) (end : SessionEnd) (first_in last_in first_out last_out : ℕ) → Opens w after opened begun → (first_in ≡ 0) × (first_out ≡ 0) →
    Ends clock now opened flow begun taken new end → (end ≡ session_end.SourceFault → Rose first_in last_in) → (end ≡ session_end.SinkFault → Rose first_out last_out) → Returns after returned flow taken last_in last_out → IsRound clock now new w after returned end
round_of now new w after returned opened flow begun taken end first_in last_in first_out last_out opens fresh ends source_fault sink_fault returns = record {
  opened = opened;
  flow = flow;
  begun = begun;
  taken = taken;
  input_faults = last_in;
  output_faults = last_out;
  opens = opens;
  ends = ends;
  source_fault = λ e. rose_from_none first_in last_in fresh.0 (source_fault e);
  sink_fault = λ e. rose_from_none first_out last_out fresh.1 (sink_fault e);
  returns = returns;
}

-- a visit, by streams that were opened for it
visit_of : (clock : ℕ → Bool) (now new : Sight) (opened flow : Option Flow) (begun taken : Option (List ℕ)) (end : SessionEnd) (input gave left took : List ℕ) → opened ≡ Some (record { given = []; left = input }) → begun ≡ Some [] →
    flow ≡ Some (record { given = gave; left = left }) → input ≡ gave ++ left → taken ≡ Some took → Ends clock now opened flow begun taken new end →
    Ends clock now (Some (record { given = []; left = gave ++ left })) (Some (record { given = gave; left = left })) (Some []) (Some took) new end
visit_of clock now new opened flow begun taken end input gave left took opens begins flows all takes ends =
    let P : Option Flow × Option Flow × Option (List ℕ) × Option (List ℕ) → Type 0 = λ x. Ends clock now x.0 x.1 x.2 x.3 new end in
    let from : opened ≡ Some (record { given = []; left = gave ++ left }) = opens ∙ ap (λ l. Some (record { given = []; left = l })) all in
    subst P (λ i. (from i, flows i, begins i, takes i)) ends

one_back : (n : ℕ) → n + 1 - 1 ≡ n
one_back n = omega arith

gone_on : {clock : ℕ → Bool} (start now new : Sight) (v w : Visits) (after returned : Option Visits) (end : SessionEnd) (count most : ℕ) (out : SeatEnd) → SeatServes clock start now (Some v) (Some w) count seat_end.Most → IsRound clock now new (Some w) after returned end →
    count + 1 ≤ most → (out ≡ seat_end.Most → count + 1 ≡ most) → (out ≡ seat_end.Over → ⊥) → (end ≡ session_end.Memory → out ≡ seat_end.Memory) → SeatServes clock start new (Some v) returned most out
gone_on {clock = clock} start now new v w after returned end count most out (visits, next, are) round few all over ends =
    let o = round.opens in
    let input : List ℕ = o.0 in
    let rest : List (List ℕ) = o.1 in
    let S : Option Flow × Option (List ℕ) → Type 0 = λ x. Ends clock now x.0 round.flow x.1 round.taken new end in
    let told = told_after clock now (record { given = []; left = input }) round.flow [] round.taken new end (subst S (λ i. (o.4 i, o.5 i)) round.ends) in
    let visit : Visit = record { gave = told.gave; left = told.left; took = told.took; input_faults = round.input_faults; output_faults = round.output_faults } in
    let R : Option Visits × Option Flow × Option (List ℕ) → Type 0 = λ x. Returns x.0 returned x.1 x.2 round.input_faults round.output_faults in
    let given : returned ≡ Some (record { coming = rest; out = w.out; back = w.back ++ visit ∷ [] }) =
    subst R (λ i. (o.3 i, told.flow_is i, told.taken_is i)) round.returns ∙ ap (λ n. Some (record { coming = rest; out = n; back = w.back ++ visit ∷ [] })) (one_back w.out) in
    let one : IsVisit clock now new visit = record {
      end = end;
      ends = visit_of clock now new round.opened round.flow round.begun round.taken end input told.gave told.left told.took o.4 o.5 told.flow_is told.all told.taken_is round.ends;
      source_fault = round.source_fault;
      sink_fault = round.sink_fault;
    } in
    let Q : Option Visits → Type 0 = λ x. SeatServes clock start new (Some v) x most out in
    let size : length (visits ++ visit ∷ []) ≡ count + 1 = length-append visits (visit ∷ []) ∙ ap (λ n. n + 1) (next.all refl) in
    subst Q (sym given) (
      visits ++ visit ∷ [],
      record {
        given = next.given ∙ (ap (λ xs. map input_of visits ++ xs) (o.2 ∙ ap (λ x. x ∷ rest) told.all) ∙ map_on visits visit rest);
        back = ap (λ xs. xs ++ visit ∷ []) next.back ∙ append_assoc v.back visits (visit ∷ []);
        none_out = next.none_out;
        few = omega (arith, size, few);
        all = λ e. size ∙ all e;
        over = λ e. absurd (over e);
      },
      visits_on start visits now new visit out are one ends,
    )

-- one connection more
pub serves_on : {clock : ℕ → Bool} (start now new : Sight) (v w after returned : Option Visits) (end : SessionEnd) (count most : ℕ) (out : SeatEnd) → SeatServes clock start now v w count seat_end.Most → IsRound clock now new w after returned end →
    count + 1 ≤ most → (out ≡ seat_end.Most → count + 1 ≡ most) → (out ≡ seat_end.Over → ⊥) → (end ≡ session_end.Memory → out ≡ seat_end.Memory) → SeatServes clock start new v returned most out
serves_on start now new None w after returned end count most out serves round few all over ends =
    let gone : after ≡ None = subst (λ (x : Option Visits). Opens x after round.opened round.begun) serves round.opens in
    subst (λ (x : Option Visits). Returns x returned round.flow round.taken round.input_faults round.output_faults) gone round.returns
serves_on start now new (Some v) None after returned end count most out serves round few all over ends = absurd serves
serves_on start now new (Some v) (Some w) after returned end count most out serves round few all over ends = gone_on start now new v w after returned end count most out serves round few all over ends

-- the value of an option that is known
pub some_holds : {T : Type 0} (P : T → Type 0) (o : Option T) (x : T) → o ≡ Some x → IfSome o P → P x
some_holds {T = T} P o x is holds = let Q : Option T → Type 0 = λ v. IfSome v P in subst Q is holds
