use Rattle.std.proofs.Common.{◌≡◌, [], take, drop, sym, subst, arith}
use Rattle.std.proofs.lemmas.List.{drop_all, take-append-drop}
use Rattle.session.specs.AskedRun.{RunsOn}
use Rattle.session.specs.Standing.{Stand, stand_of, IsCut}
use Rattle.session.proofs.AskedRunFacts.{runs_none, runs_both, runs_cut, runs_all}
use Rattle.session.proofs.RunFacts.{run_numbers, run_times, cut_more}
use Rattle.session.proofs.ServedFacts.{at_error}
use Rattle.session.proofs.session.Session.take_run.Goals as goal

pub loop-at-init : goal.loop-at-init
loop-at-init g c =
    let clock = g.C.Clock.tells c.args.clock.now in
    let old = stand_of c.args.self.now in
    let taken = g.K.Sink.taken c.args.sink.now in
    let run = take c.gather-end.result c.args.piece.now in
    let items = c.gather-end.new.self.run.commands.items in
    let P : Stand → Type 0 = λ s. RunsOn clock old s taken taken run items in
    record {
      within = omega arith;
      runs = subst P (sym c.gather-end.ensures.stays) (runs_none clock old taken run items c.gather-end.ensures.run);
      never_falls = omega arith;
    }

pub ask_run-requires-clause-seats : goal.ask_run-requires-clause-seats
ask_run-requires-clause-seats g c κs within =
    run_numbers (g.C.Clock.tells c.args.clock.now) _ _ _ c.loop-at.invariant.runs.rest (drop c.loop-at.at c.loop-at.self.run.commands.items) c.loop-at.invariant.runs.still

pub ask_run-requires-clause-times : goal.ask_run-requires-clause-times
ask_run-requires-clause-times g c κs within = (
  g.C.Clock.tells c.args.clock.now,
  run_times (g.C.Clock.tells c.args.clock.now) _ _ _ c.loop-at.invariant.runs.rest (drop c.loop-at.at c.loop-at.self.run.commands.items) c.loop-at.invariant.runs.still,
)

pub returns-in_err-at-clause-cut_off : goal.returns-in_err-at-clause-cut_off
returns-in_err-at-clause-cut_off g c =
    let clock = g.C.Clock.tells c.args.clock.now in
    let old = stand_of c.args.self.now in
    let new = stand_of c.ask_run.new.self in
    let taken = g.K.Sink.taken c.args.sink.now in
    let then_taken = g.K.Sink.taken c.ask_run.new.sink in
    let piece = c.args.piece.now in
    let end = c.gather-end.result in
    let runs = c.loop-at.invariant.runs in
    let part = runs_cut clock old (stand_of c.loop-at.self) new taken (g.K.Sink.taken c.loop-at.sink) then_taken (take end piece) (drop c.loop-at.at c.loop-at.self.run.commands.items) runs (c.in_err-at.ensures.cut_off clock runs.rest runs.still) in
    let cut : IsCut clock old new [] taken then_taken piece =
    subst (IsCut clock old new [] taken then_taken) (take-append-drop end piece) (cut_more clock old new [] taken then_taken (take end piece) (drop end piece) part) in
    at_error _ cut

pub loop-at-preserved : goal.loop-at-preserved
loop-at-preserved g c =
    let clock = g.C.Clock.tells c.args.clock.now in
    let runs = c.loop-at.invariant.runs in
    record {
      within = c.in_ok-at.ensures.within.1;
      runs = runs_both clock (stand_of c.args.self.now) (stand_of c.loop-at.self) (stand_of c.ask_run.new.self) (g.K.Sink.taken c.args.sink.now) (g.K.Sink.taken c.loop-at.sink) (g.K.Sink.taken c.ask_run.new.sink) (take c.gather-end.result c.args.piece.now)
          (drop c.loop-at.at c.loop-at.self.run.commands.items) _ runs (c.in_ok-at.ensures.on clock runs.rest runs.still);
      never_falls = omega (arith, c.loop-at.invariant.never_falls, c.in_ok-at.ensures.counts.0);
    }

pub returns-clause-on : goal.returns-clause-on
returns-clause-on g c =
    let items = c.loop-at.self.run.commands.items in
    let none : drop c.loop-at.at items ≡ [] = drop_all c.loop-at.at items (omega (arith, c.loop-at-test.false, c.len.ensures)) in
    runs_all (g.C.Clock.tells c.args.clock.now) (stand_of c.args.self.now) (stand_of c.loop-at.self) (g.K.Sink.taken c.args.sink.now) (g.K.Sink.taken c.loop-at.sink) (take c.gather-end.result c.args.piece.now) (drop c.loop-at.at items) none c.loop-at.invariant.runs
