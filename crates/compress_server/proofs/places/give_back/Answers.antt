use Rattle.std.proofs.Common.{◌∙◌, refl, sym, subst}
use Rattle.compress_server.proofs.PlaceFacts.{IsFrontBack, front_none, front_more, lent_now, all_back, all_counted}
use Rattle.compress_server.proofs.places.give_back.Goals as goal

pub loop-place-init : goal.loop-place-init
loop-place-init g c =
    let doors = g.L.Listener.doors c.args.listener.now in
    let faults = g.L.Listener.faults c.args.listener.now in
    let all = c.args.places.items in (
      subst (λ rest. IsFrontBack g.L.Door.Door.visits g.L.Door.Door.faults doors doors faults faults all rest) (sym c.into_iter-place-iterator.ensures.into_iter_gives.0)
          (front_none g.L.Door.Door.visits g.L.Door.Door.faults doors faults all c.requires.lent),
      refl,
    )

pub take_back-requires : goal.take_back-requires
take_back-requires g c = record {
  lent = lent_now (g.L.Listener.doors c.loop-place.listener) c.loop-place.place-iterator.rest.items c.next.new.self.rest.items c.in-Some.place c.in-Some.ensures.steps.0 c.loop-place.invariant.0.lent;
}

pub loop-place-preserved : goal.loop-place-preserved
loop-place-preserved g c = (
  front_more g.L.Door.Door.visits g.L.Door.Door.faults (g.L.Listener.doors c.args.listener.now) (g.L.Listener.doors c.loop-place.listener) (g.L.Listener.doors c.take_back.new.self) (g.L.Listener.faults c.args.listener.now) (g.L.Listener.faults c.loop-place.listener)
      (g.L.Listener.faults c.take_back.new.self) c.args.places.items c.loop-place.place-iterator.rest.items c.next.new.self.rest.items c.in-Some.place c.loop-place.invariant.0 c.in-Some.ensures.steps.0 c.take_back.ensures.returns c.take_back.ensures.counts.0 c.take_back.ensures.counts.1,
  c.take_back.ensures.waits ∙ c.loop-place.invariant.1,
)

pub returns-clause-returned : goal.returns-clause-returned
returns-clause-returned g c =
    let rest = c.loop-place.place-iterator.rest in
    all_back g.L.Door.Door.visits g.L.Door.Door.faults _ _ _ _ c.args.places.items rest.items c.loop-place.invariant.0 (sym rest.ok.0 ∙ c.in-None.ensures.steps.0)

pub returns-clause-never_falls : goal.returns-clause-never_falls
returns-clause-never_falls g c = c.loop-place.invariant.0.never_falls

pub returns-clause-failed : goal.returns-clause-failed
returns-clause-failed g c =
    let rest = c.loop-place.place-iterator.rest in
    all_counted g.L.Door.Door.visits g.L.Door.Door.faults _ _ _ _ c.args.places.items rest.items c.loop-place.invariant.0 (sym rest.ok.0 ∙ c.in-None.ensures.steps.0)

pub returns-clause-waits : goal.returns-clause-waits
returns-clause-waits g c = c.loop-place.invariant.1
