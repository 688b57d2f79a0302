use Rattle.std.proofs.Common.{◌≡◌, ◌+◌, ◌≤◌, ◌<◌, ◌∙◌, ℕ, length, Option, refl, sym, subst, ap, arith}
use Rattle.std.specs.Prelude.{slice_index_or}
use Rattle.command_types.specs.declared.figures.Figures.{Figures}
use Rattle.command_types.specs.History.{entries_of_seat}
use Rattle.cycle_lock.specs.Accounts.{times}
use Rattle.cycle_lock.specs.Passes.{seat_of, figures_of, seen, StandsFor, made_by, Continues}
use Rattle.doors.specs.Visits.{Visits}
use Rattle.session.specs.Serving.{Sight, of_pass}
use Rattle.seats.specs.declared.seat.SeatEnd.{SeatEnd}
use Rattle.seats.specs.Final.{Final, seated, HasServed}
use Rattle.seats.specs.Places.{Belongs, TakesIn, CountsFaults}
use Rattle.seats.proofs.FinalFacts.{goes_through, served_finally, belongs_after}
use Rattle.seats.proofs.seat.Service.serve.Goals as goal

pub returns-clause-figures : goal.returns-clause-figures
returns-clause-figures g c = c.close.ensures.figures ∙ (c.take_in_all.ensures.figures ∙ ap (λ (s : Sight). s.seat.figures) c.seat_all.ensures.main.1)

pub returns-clause-seen : goal.returns-clause-seen
returns-clause-seen g c =
    let main = c.take_in_all.new.pass in
    let first = c.seat_all.new.pass in
    let h = g.T.Desk.history c.close.result in
    subst (Continues h) (ap (λ (s : Sight). s.history) c.seat_all.ensures.main.1) (goes_through h (seen main) (seen first) c.close.ensures.seen c.take_in_all.ensures.old.seen_too)

pub returns-clause-own : goal.returns-clause-own
returns-clause-own g c =
    let n = seat_of c.args.pass in
    let mine : StandsFor c.args.pass n = c.args.pass.mine in
    let still : StandsFor c.seat_all.new.pass n = subst (λ ns. 1 ≤ times n ns) (sym c.seat_all.ensures.main.0) mine in
    c.close.ensures.made n (c.take_in_all.ensures.old.stands_too n still)
    ∙ (c.take_in_all.ensures.old.same_entries n still ∙ ap (λ (s : Sight). entries_of_seat s.history n s.seat.figures.opening) c.seat_all.ensures.main.1)

pub returns-clause-others : goal.returns-clause-others
returns-clause-others g c = λ n past. c.close.ensures.numbers n (omega (arith, past, c.take_in_all.ensures.left, c.seat_all.ensures.left, c.requires.first))

pub returns-clause-stop : goal.returns-clause-stop
returns-clause-stop g c = λ e. c.close.ensures.stop (c.take_in_all.ensures.old.stop_too (ap (λ (s : Sight). s.stopped) c.seat_all.ensures.main.1 ∙ e))

pub returns-clause-seats : goal.returns-clause-seats
returns-clause-seats g c = λ k d lt.
    let taken_place = slice_index_or c.seat_all.new.places k d in
    let mid = slice_index_or c.serve_places.new.places k d in
    let main = c.take_in_all.new.pass in
    let figures = figures_of c.args.pass in
    let start = seated (of_pass c.args.pass) (k + 1) in
    let visits = g.D.Door.visits in
    let faults = g.D.Door.faults in
    let most = c.args.self.now.most in
    let final : Final = record { history = g.T.Desk.history c.close.result; stopped = g.T.Desk.stopped c.close.result } in
    let first : k < length c.seat_all.new.places = omega (arith, lt, c.seat_all.auto.places) in
    let second : k < length c.serve_places.new.places = omega (arith, first, c.serve_places.auto.places) in
    let has = c.seat_all.ensures.seats k d lt in
    let works = c.serve_places.ensures k d first in
    let same : figures_of main ≡ figures = c.take_in_all.ensures.figures ∙ ap (λ (s : Sight). s.seat.figures) c.seat_all.ensures.main.1 in
    let belongs = belongs_after c.args.turns figures start taken_place.pass mid.pass refl has works.goes_on in
    let F : Figures → Type 0 = λ f. (n : ℕ) → StandsFor main n → entries_of_seat final.history n f.opening ≡ made_by n main in
    let served = served_finally (g.C.Clock.tells c.args.self.now.host.clock.now) c.args.turns final main start taken_place.pass mid.pass (visits taken_place.door) (visits mid.door) most mid.end c.close.ensures.seen (subst F c.close.ensures.figures c.close.ensures.made) c.close.ensures.stop
    (λ q is. (
      subst (TakesIn main) is (c.take_in_all.ensures.taken k d second),
      same ∙ sym (subst (Belongs c.args.turns figures) is belongs).1,
    )) has works.goes_on works.serves in
    let begins = c.seat_all.ensures.doors k d lt in
    let door = sym (c.take_in_all.ensures.doors k d second) in
    let end = sym (c.take_in_all.ensures.ends k d second) in
    let S : Option Visits × Option Visits × SeatEnd → Type 0 = λ x. HasServed (g.C.Clock.tells c.args.self.now.host.clock.now) final start x.0 x.1 most x.2 in
    let C : ℕ × ℕ × SeatEnd → Type 0 = λ x. CountsFaults x.0 x.1 x.2 in
    record {
      served = subst S (λ i. (visits (begins i), visits (door i), end i)) served;
      counts = subst C (λ i. (faults (begins i), faults (door i), end i)) works.counts;
    }
