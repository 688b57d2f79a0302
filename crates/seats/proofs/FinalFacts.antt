-- What seats did, in a history that goes on.
use Rattle.std.proofs.Common.{◌≡◌, ℕ, ◌-◌, ◌≤◌, Bool, true, Option, Some, None, List, [], ◌∷◌, ◌++◌, length, take, drop, refl, sym, subst, ap, ◌∙◌, append_assoc, arith}
use Rattle.std.proofs.lemmas.List.{append-nil, length-append, take-append-le, take_all}
use Rattle.command_types.specs.declared.ask.Entry.{Entry}
use Rattle.command_types.specs.History.{History, end_of, longer, cut_after, entries_of_seat}
use Rattle.command_types.specs.declared.figures.Figures.{Figures}
use Rattle.cycle_lock.specs.declared.pass.Pass.{Pass}
use Rattle.cycle_lock.specs.declared.turns.Turns.{Turns}
use Rattle.cycle_lock.specs.Accounts.{opening_count, by}
use Rattle.cycle_lock.specs.Passes.{seat_of, figures_of, seen, saw_stop, StandsFor, made_by, Continues, Includes}
use Rattle.cycle_lock.proofs.Joins.{made_later}
use Rattle.doors.specs.Visits.{Visit, Visits}
use Rattle.session.specs.Serving.{Seat, Sight, of_pass, Grows}
use Rattle.session.proofs.GrowthFacts.{grows_none, grows_both}
use Rattle.seats.specs.declared.seat.SeatEnd.{SeatEnd}
use Rattle.seats.specs.Sessions.{input_of, IsVisit, MayGoOn, AreVisits, SeatServes}
use Rattle.seats.specs.Final.{Final, sight_at, AreServed, HasServed}
use Rattle.seats.specs.Places.{HasPass, Belongs, TakesIn, GoesOn, PassServes}
use Rattle.seats.proofs.VisitFacts.{ends_grow}

-- the history h begins with g
abbrev Begins : History → History → Type 0
Begins h g = (more : List Entry) × (h ≡ longer g more)

-- what came by one connection, and by all
visit_grows : {clock : ℕ → Bool} (old new : Sight) (visit : Visit) → IsVisit clock old new visit → (made : List Entry) × Grows old new made
visit_grows {clock} old new visit v = ends_grow clock old (Some (record { given = []; left = input_of visit })) (Some (record { given = visit.gave; left = visit.left })) (Some []) (Some visit.took) new v.end v.ends

pub visits_grow : (clock : ℕ → Bool) (old new : Sight) (visits : List Visit) (out : SeatEnd) → AreVisits clock old visits new out → (made : List Entry) × Grows old new made
visits_grow clock old new [] out same = let P : Sight → Type 0 = λ s. Grows old s [] in ([], subst P (sym same) (grows_none old))
visits_grow clock old new (visit ∷ visits) out (mid, first, may, rest) =
    let a = visit_grows old mid visit first in
    let b = visits_grow clock mid new visits out rest in
    (a.0 ++ b.0, grows_both old mid new a.0 b.0 a.1 b.1)

-- what a sight has seen is the history up to its end
cut_there : (h g : History) → Begins h g → cut_after h (end_of g) ≡ g
cut_there h g (more, is) =
    let size : end_of g - g.base.position ≡ length g.entries = omega arith in
    ap (λ (x : History). cut_after x (end_of g)) is
    ∙ ap (λ n. record g { entries = take n (g.entries ++ more) }) size
    ∙ ap (λ es. record g { entries = es }) (take-append-le (length g.entries) g.entries more (omega arith) ∙ take_all (length g.entries) g.entries (omega arith))

pub goes_through : (h g f : History) → Begins h g → Begins g f → Begins h f
goes_through h g f (more, is) (rest, was) = (rest ++ more, is ∙ ap (λ (x : History). longer x more) was ∙ ap (λ es. record f { entries = es }) (append_assoc f.entries rest more))

end_grows : (h g : History) → Begins h g → end_of g ≤ end_of h
end_grows h g (more, is) = let e : end_of h ≡ end_of (longer g more) = ap (λ (x : History). end_of x) is in omega (arith, e, length-append g.entries more)

seen_at : (seat : Seat) (h : History) (s : Sight) → s.seat ≡ seat → Begins h s.history → s ≡ sight_at seat h (end_of s.history) s.stopped
seen_at seat h s same on = λ i. record { seat = same i; history = sym (cut_there h s.history on) i; stopped = s.stopped }

-- The sessions of a seat stand in the final history, at positions that never fall.
pub are_served : (clock : ℕ → Bool) (final : Final) (seat : Seat) (old new : Sight) (visits : List Visit) (out : SeatEnd) → old.seat ≡ seat → Begins final.history new.history → entries_of_seat final.history seat.number (end_of new.history) ≡ [] →
    (new.stopped ≡ true → final.stopped ≡ true) → AreVisits clock old visits new out → AreServed clock final seat (end_of old.history) old.stopped visits out
are_served clock final seat old new [] out same on none stops is =
    let P : Sight → Type 0 = λ s. (entries_of_seat final.history seat.number (end_of s.history) ≡ []) × (s.stopped ≡ true → final.stopped ≡ true) in subst P is (none, stops)
are_served clock final seat old new (visit ∷ visits) out same on none stops (mid, first, may, rest) =
    let h : History = final.history in
    let a = visit_grows old mid visit first in
    let b = visits_grow clock mid new visits out rest in
    let here : mid.seat ≡ seat = a.1.seat ∙ same in
    let there : Begins h mid.history = goes_through h new.history mid.history on (b.1.more, b.1.grown) in
    let before : Begins h old.history = goes_through h mid.history old.history there (a.1.more, a.1.grown) in
    let P : Sight → Sight → Type 0 = λ x y. (v : IsVisit clock x y visit) × (MayGoOn v.end visits out) in
    let told = subst (λ x. P x (sight_at seat h (end_of mid.history) mid.stopped)) (seen_at seat h old same before) (subst (P old) (seen_at seat h mid here there) (first, may)) in (
      end_of mid.history,
      mid.stopped,
      end_grows mid.history old.history (a.1.more, a.1.grown),
      end_grows h mid.history there,
      told.0,
      told.1,
      are_served clock final seat mid new visits out here on none stops rest,
    )

-- behind what a pass had seen, its seat has no entry in the history of a pass that took it in
behind_main : (main q : Pass) (more : List Entry) → Includes main q → figures_of main ≡ figures_of q →
    ((n : ℕ) → StandsFor main n → entries_of_seat (longer (seen main) more) n (figures_of main).opening ≡ made_by n main) → entries_of_seat (longer (seen main) more) (seat_of q) (end_of (seen q)) ≡ []
behind_main main q more includes same made =
    let n : ℕ = seat_of q in
    let mine : StandsFor q n = q.mine in
    let on : Begins (longer (seen main) more) (seen q) = goes_through (longer (seen main) more) (seen main) (seen q) (more, refl) includes.seen_too in
    let all : by n (drop (opening_count (figures_of main)) (longer (seen main) more).entries) ≡ by n (drop (opening_count (figures_of q)) (seen q).entries) ++ [] =
    made n (includes.stands_too n mine) ∙ includes.same_entries n mine ∙ sym (append-nil _) in
    made_later (figures_of q) (figures_of main) n (seen q).entries (longer (seen main) more).entries [] same (omega (arith, q.opened, q.place)) (on.0, ap (λ (h : History). h.entries) on.1) all

pub none_behind : (main q : Pass) (h : History) → Continues h (seen main) → Includes main q → figures_of main ≡ figures_of q →
    ((n : ℕ) → StandsFor main n → entries_of_seat h n (figures_of main).opening ≡ made_by n main) → entries_of_seat h (seat_of q) (end_of (seen q)) ≡ []
none_behind main q h (more, is) includes same made =
    let P : History → Type 0 = λ x. entries_of_seat x (seat_of q) (end_of (seen q)) ≡ [] in
    let M : History → Type 0 = λ x. (n : ℕ) → StandsFor main n → entries_of_seat x n (figures_of main).opening ≡ made_by n main in
    subst P (sym is) (behind_main main q more includes same (subst M is made))

served_told : (clock : ℕ → Bool) (final : Final) (p q : Pass) (v w : Option Visits) (most : ℕ) (out : SeatEnd) (made : List Entry) → Grows (of_pass p) (of_pass q) made → Begins final.history (seen q) → entries_of_seat final.history (seat_of q) (end_of (seen q)) ≡ [] →
    (saw_stop q ≡ true → final.stopped ≡ true) → SeatServes clock (of_pass p) (of_pass q) v w most out → HasServed clock final (of_pass p) v w most out
served_told clock final p q None w most out made g on none stops serves = serves
served_told clock final p q (Some v) None most out made g on none stops serves = absurd serves
served_told clock final p q (Some v) (Some w) most out made g on none stops (visits, next, are) =
    let N : ℕ → Type 0 = λ n. entries_of_seat final.history n (end_of (seen q)) ≡ [] in
    (visits, next, are_served clock final (of_pass p).seat (of_pass p) (of_pass q) visits out refl on (subst N (ap (λ (s : Seat). s.number) g.seat) none) stops are)

-- what a seat did stands in the final history
pub served_finally : {T : Type 0} (clock : ℕ → Bool) (turns : Turns T) (final : Final) (main : Pass) (start : Sight) (before after : Option Pass) (v w : Option Visits) (most : ℕ) (out : SeatEnd) → Continues final.history (seen main) →
    ((n : ℕ) → StandsFor main n → entries_of_seat final.history n (figures_of main).opening ≡ made_by n main) → (saw_stop main ≡ true → final.stopped ≡ true) →
    ((q : Pass) → after ≡ Some q → Includes main q × (figures_of main ≡ figures_of q)) → HasPass turns start before → GoesOn turns before after → PassServes clock before after v w most out → HasServed clock final start v w most out
served_finally clock turns final main start None after v w most out on made stops taken has goes serves = absurd has
served_finally clock turns final main start (Some p) None v w most out on made stops taken has goes serves = absurd goes
served_finally clock turns final main start (Some p) (Some q) v w most out on made stops taken (own, sight) (mine, (fresh, grows)) serves =
    let t = taken q refl in
    let P : Sight → Type 0 = λ s. HasServed clock final s v w most out in
    subst P sight (served_told clock final p q v w most out fresh grows (goes_through final.history (seen main) (seen q) on t.0.seen_too) (none_behind main q final.history on t.0 t.1 made) (λ e. stops (t.0.stop_too e)) serves)

-- what a pass has taken in, it has taken in where a later one stands for it
pub taken_through : (p q : Pass) (other : Option Pass) → Includes p q → TakesIn q other → TakesIn p other
taken_through p q None includes taken = tt
taken_through p q (Some r) includes taken = record {
  seen_too = goes_through (seen p) (seen q) (seen r) includes.seen_too taken.seen_too;
  stands_too = λ n h. includes.stands_too n (taken.stands_too n h);
  same_entries = λ n h. includes.same_entries n (taken.stands_too n h) ∙ taken.same_entries n h;
  stop_too = λ e. includes.stop_too (taken.stop_too e);
}

pub through : (p q r : Pass) → Includes p q → Includes q r → Includes p r
through p q r a b = taken_through p q (Some r) a b

-- after its work a seat's pass still belongs to the lock and its desk
pub belongs_after : {T : Type 0} (turns : Turns T) (figures : Figures) (start : Sight) (p q : Option Pass) → start.seat.figures ≡ figures → HasPass turns start p → GoesOn turns p q → Belongs turns figures q
belongs_after turns figures start None q is has goes = absurd has
belongs_after turns figures start (Some p) None is has goes = absurd goes
belongs_after turns figures start (Some p) (Some q) is has (own, (made, grows)) = (own, ap (λ (s : Seat). s.figures) grows.seat ∙ (ap (λ (s : Sight). s.seat.figures) has.1 ∙ is))
