use Rattle.std.proofs.Common.{refl, ap, ◌∙◌}
use Rattle.doors.specs.MemoryDoor.{with_connection}
use Rattle.doors.proofs.PlanFacts.{ChangesPlace, the_door, change_is, all_unused, add_stays, ok_maps}
use Rattle.doors.proofs.memory_listener.MemoryListener.add.Goals as goal

pub invariant_of-self-2 : goal.invariant_of-self-2
invariant_of-self-2 c =
    let change : ChangesPlace c.self.inside.planned.items c.ready_place.new.planned.items c.args.door c.in_ok-k.k c.index_mut.result.now c.add.new.self =
    record { found = rw c.from.ensures at c.in_ok-k.ensures.found; item_is = c.index_mut.ensures.value; same = c.ready_place.ensures.same } in
    (c.self.invariant.0, all_unused _ _ _ _ _ _ change c.self.invariant.1 (add_stays c.add.result _ _ c.args.connection c.add.ensures.there c.add.ensures.refused))

pub returns-clause-there : goal.returns-clause-there
returns-clause-there c =
    let change : ChangesPlace c.self.inside.planned.items c.ready_place.new.planned.items c.args.door c.in_ok-k.k c.index_mut.result.now c.add.new.self =
    record { found = rw c.from.ensures at c.in_ok-k.ensures.found; item_is = c.index_mut.ensures.value; same = c.ready_place.ensures.same } in
    let door = ap (λ d. with_connection d c.args.connection) (the_door _ _ _ _ _ _ change) in
    rw (← c.self.view_is) (ok_maps c.add.result (λ is. record { doors = change_is _ _ _ _ _ _ change _ (is ∙ door); others = refl }) c.add.ensures.there)
