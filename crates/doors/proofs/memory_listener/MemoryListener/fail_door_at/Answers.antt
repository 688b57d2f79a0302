use Rattle.std.proofs.Common.{refl, ap, ◌∙◌}
use Rattle.doors.specs.MemoryDoor.{with_failing}
use Rattle.doors.proofs.PlanFacts.{ChangesPlace, the_door, change_is, all_unused, fail_stays, ok_maps}
use Rattle.doors.proofs.memory_listener.MemoryListener.fail_door_at.Goals as goal

pub invariant_of-self-2 : goal.invariant_of-self-2
invariant_of-self-2 c =
    let change : ChangesPlace c.self.inside.planned.items c.ready_place.new.planned.items c.args.door c.in_ok-k.k c.index_mut.result.now c.fail_at.new.self =
    record { found = rw c.from.ensures at c.in_ok-k.ensures.found; item_is = c.index_mut.ensures.value; same = c.ready_place.ensures.same } in
    (c.self.invariant.0, all_unused _ _ _ _ _ _ change c.self.invariant.1 (fail_stays c.fail_at.result _ _ c.args.call c.fail_at.ensures.listed c.fail_at.ensures.refused))

pub returns-clause-listed : goal.returns-clause-listed
returns-clause-listed c =
    let change : ChangesPlace c.self.inside.planned.items c.ready_place.new.planned.items c.args.door c.in_ok-k.k c.index_mut.result.now c.fail_at.new.self =
    record { found = rw c.from.ensures at c.in_ok-k.ensures.found; item_is = c.index_mut.ensures.value; same = c.ready_place.ensures.same } in
    let door = ap (λ d. with_failing d c.args.call) (the_door _ _ _ _ _ _ change) in
    rw (← c.self.view_is) (ok_maps c.fail_at.result (λ is. record { doors = change_is _ _ _ _ _ _ change _ (is ∙ door); others = refl }) c.fail_at.ensures.listed)
