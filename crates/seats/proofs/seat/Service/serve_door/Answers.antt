use Rattle.std.proofs.Common.{◌++◌, ◌∙◌, Ok, refl, sym, ap, arith}
use Rattle.std.proofs.lemmas.Bool.{false≢true}
use denote.Enum.Bare.{sameb}
use Rattle.session.specs.contracts.serve.SessionEnd.{the_type}
use Rattle.session.specs.Serving.{of_pass}
use Rattle.session.proofs.GrowthFacts.{grows_both, same_roster}
use Rattle.session.specs.declared.serve.SessionEnd.TheVariants as session_end
use Rattle.seats.specs.declared.seat.SeatEnd.TheVariants as seat_end
use Rattle.seats.proofs.VisitFacts.{round_of, serves_on, serves_end, not_over, ends_grow, some_holds}
use Rattle.seats.proofs.seat.Service.serve_door.Goals as goal

pub returns-then-eq-clause-serves : goal.returns-then-eq-clause-serves
returns-then-eq-clause-serves g c =
    let visits = g.D.Door.visits in
    let given = c.in-Ok-Some in
    let s = c.serve-end in
    let round = round_of {clock = g.C.Clock.tells c.args.self.now.host.clock.now} (of_pass c.loop.pass) (of_pass s.result.1) (visits c.loop.door) (visits c.accept.new.self) (visits c.give_back.new.self) _ _ _ _ s.result.0 _ _ _ _ (some_holds _ _ _ given.field-0-is given.ensures.opens)
    (some_holds _ _ _ given.field-0-is given.ensures.fresh) s.ensures.ends s.ensures.source_fault s.ensures.sink_fault c.give_back.ensures.returns in
    serves_on _ _ _ _ _ _ _ _ c.loop.counter _ seat_end.Memory c.loop.invariant.serves round (omega (arith, c.loop-test.true)) (λ e. absurd cc) (λ e. absurd cc) (λ e. refl)

pub loop-preserved : goal.loop-preserved
loop-preserved g c =
    let before = c.loop.invariant in
    let visits = g.D.Door.visits in
    let given = c.in-Ok-Some in
    let s = c.serve-end in
    let round = round_of {clock = g.C.Clock.tells c.args.self.now.host.clock.now} (of_pass c.loop.pass) (of_pass s.result.1) (visits c.loop.door) (visits c.accept.new.self) (visits c.give_back.new.self) _ _ _ _ s.result.0 _ _ _ _ (some_holds _ _ _ given.field-0-is given.ensures.opens)
    (some_holds _ _ _ given.field-0-is given.ensures.fresh) s.ensures.ends s.ensures.source_fault s.ensures.sink_fault c.give_back.ensures.returns in
    let came = ends_grow (g.C.Clock.tells c.args.self.now.host.clock.now) (of_pass c.loop.pass) _ _ _ _ (of_pass c.serve-end.result.1) c.serve-end.result.0 c.serve-end.ensures.ends in
    record {
      own = c.serve-end.ensures.own;
      roster = before.roster ∙ sym (same_roster _ _ came.0 came.1);
      grows = (before.grows.0 ++ came.0, grows_both _ _ _ before.grows.0 came.0 before.grows.1 came.1);
      serves = serves_on _ _ _ _ _ _ _ _ c.loop.counter _ seat_end.Most before.serves round (omega arith) (λ e. refl) not_over (λ e. absurd (false≢true (sym c.if-eq.false ∙ (c.eq.ensures ∙ ap (λ x. sameb the_type x session_end.Memory) e))));
      faults = omega (arith, before.faults, c.accept.ensures.counts.0, c.give_back.ensures.same);
    }

pub returns-in-Ok-None-clause-serves : goal.returns-in-Ok-None-clause-serves
returns-in-Ok-None-clause-serves g c =
    let none = ap (λ o. Ok o) c.in-Ok-None.field-0-is in
    serves_end (g.C.Clock.tells c.args.self.now.host.clock.now) _ _ _ _ _ _ _ seat_end.Over (c.in-Ok-None.ensures.same none) (omega (arith, c.loop-test.true)) (λ e. absurd cc) (λ e. c.in-Ok-None.ensures.over none) c.loop.invariant.serves

pub returns-in-Err-Failed-clause-serves : goal.returns-in-Err-Failed-clause-serves
returns-in-Err-Failed-clause-serves g c =
    serves_end (g.C.Clock.tells c.args.self.now.host.clock.now) _ _ _ _ _ _ _ seat_end.DoorFault c.in-Err-Failed.ensures.nothing (omega (arith, c.loop-test.true)) (λ e. absurd cc) (λ e. absurd cc) c.loop.invariant.serves

pub returns-in-Err-Memory-clause-serves : goal.returns-in-Err-Memory-clause-serves
returns-in-Err-Memory-clause-serves g c =
    serves_end (g.C.Clock.tells c.args.self.now.host.clock.now) _ _ _ _ _ _ _ seat_end.Memory c.in-Err-Memory.ensures.nothing (omega (arith, c.loop-test.true)) (λ e. absurd cc) (λ e. absurd cc) c.loop.invariant.serves
