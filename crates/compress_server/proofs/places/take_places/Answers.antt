use Rattle.std.proofs.Common.{rules, arith, ◌≡◌, ◌∙◌, sym, subst, ap, ◌+◌, [], ◌∷◌, ◌++◌, length, All, length-append}
use Rattle.std.proofs.lemmas.List.Elements.{All-push}
use Rattle.doors.specs.Visits.{IsNew}
use Rattle.compress_server.specs.Serve.{LendsMany, IsPlannedAt}
use Rattle.compress_server.specs.Runs.{ArePlanned}
use Rattle.compress_server.proofs.PlaceFacts.{lends_more, lends_planned, planned_more}
use Rattle.compress_server.proofs.places.take_places.Goals as goal

pub loop-init : goal.loop-init
loop-init g c = search rules

pub returns-in_err-door-clause-lends : goal.returns-in_err-door-clause-lends
returns-in_err-door-clause-lends g c = search rules

pub returns-in_err-door-clause-new : goal.returns-in_err-door-clause-new
returns-in_err-door-clause-new g c = search rules

pub returns-in_err-door-clause-never_falls : goal.returns-in_err-door-clause-never_falls
returns-in_err-door-clause-never_falls g c = search rules

pub returns-in_err-door-clause-failed : goal.returns-in_err-door-clause-failed
returns-in_err-door-clause-failed g c = search rules

pub returns-in_err-door-clause-waits : goal.returns-in_err-door-clause-waits
returns-in_err-door-clause-waits g c = c.door.ensures.waits ∙ c.loop.invariant.waits

pub push_reserved-requires : goal.push_reserved-requires
push_reserved-requires g c = search rules

pub loop-preserved : goal.loop-preserved
loop-preserved g c =
    let places = c.loop.places.items in
    let place = c.new.result in
    let pushed : c.push_reserved.new.self.items ≡ places ++ place ∷ [] = c.push_reserved.ensures.items in
    let longer : length c.push_reserved.new.self.items ≡ length places + 1 = ap length pushed ∙ length-append places (place ∷ []) in
    let fresh : IsNew (g.L.Door.Door.visits place.door) × (g.L.Door.Door.faults place.door ≡ 0) = subst (λ d. IsNew (g.L.Door.Door.visits d) × (g.L.Door.Door.faults d ≡ 0)) (sym c.new.ensures) c.in_ok-door.ensures.new in
    let inv = c.loop.invariant in
    record {
      counted = longer ∙ ap (λ n. n + 1) inv.counted;
      room = search rules;
      lends = subst (λ n. LendsMany n (g.L.Listener.doors c.args.listener.now) (g.L.Listener.doors c.door.new.self)) (sym longer)
          (lends_more (length places) (g.L.Listener.doors c.args.listener.now) (g.L.Listener.doors c.loop.listener) (g.L.Listener.doors c.door.new.self) (g.L.Door.Door.visits c.in_ok-door.door) inv.lends c.in_ok-door.ensures.lends);
      planned = subst (λ ps. ArePlanned g.L.Door.Door.visits (g.L.Listener.doors c.args.listener.now) 0 ps) (sym pushed)
          (planned_more g.L.Door.Door.visits (g.L.Listener.doors c.args.listener.now) 0 places place inv.planned
          (subst (λ d. IsPlannedAt (g.L.Listener.doors c.args.listener.now) (0 + length places) (g.L.Door.Door.visits d)) (sym c.new.ensures)
          (lends_planned (length places) (g.L.Listener.doors c.args.listener.now) (g.L.Listener.doors c.loop.listener) (g.L.Listener.doors c.door.new.self) (g.L.Door.Door.visits c.in_ok-door.door) inv.lends c.in_ok-door.ensures.lends)));
      new = subst (λ ps. All (λ p. IsNew (g.L.Door.Door.visits p.door) × (g.L.Door.Door.faults p.door ≡ 0)) ps) (sym pushed)
          (All-push (λ p. IsNew (g.L.Door.Door.visits p.door) × (g.L.Door.Door.faults p.door ≡ 0)) places place inv.new fresh);
      faults = omega (arith, inv.faults, c.door.ensures.counts.0);
      waits = c.door.ensures.waits ∙ inv.waits;
    }

pub returns-clause-lends : goal.returns-clause-lends
returns-clause-lends g c = search rules

pub returns-clause-new : goal.returns-clause-new
returns-clause-new g c = search rules

pub returns-clause-all : goal.returns-clause-all
returns-clause-all g c = search rules

pub returns-clause-never_falls : goal.returns-clause-never_falls
returns-clause-never_falls g c = search rules
