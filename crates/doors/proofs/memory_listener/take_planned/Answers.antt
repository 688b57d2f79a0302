use Rattle.std.proofs.Common.{ap, sym, ◌∙◌}
use Rattle.doors.proofs.PlanFacts.{door_found, door_set, door_missing, stays_empty}
use Rattle.doors.proofs.memory_listener.take_planned.Goals as goal

pub returns-in-Some-clause-door : goal.returns-in-Some-clause-door
returns-in-Some-clause-door c =
    let found = rw c.deref.ensures.value at c.in-Some.ensures.found in
    c.replace.ensures.value ∙ ap (λ p. p.door) c.index_mut.ensures.value ∙ door_found c.args.planned.now.items c.args.number c.in-Some.k found c.index_mut.result.now

pub returns-in-Some-clause-left : goal.returns-in-Some-clause-left
returns-in-Some-clause-left c = λ n.
    let found = rw c.deref.ensures.value at c.in-Some.ensures.found in
    let named = ap (λ p. p.number) c.index_mut.ensures.value ∙ found.there c.index_mut.result.now in
    rw (c.replace.ensures.after, c.new.ensures) (door_set c.args.planned.now.items c.args.number c.in-Some.k found c.index_mut.result.now.number named _ n)

pub returns-in-None-clause-door : goal.returns-in-None-clause-door
returns-in-None-clause-door c =
    let none = rw c.deref.ensures.value at (c.in-None.ensures.none cc) in
    c.new-in-None.ensures ∙ sym (door_missing c.args.planned.now.items c.args.number none)

pub returns-in-None-clause-left : goal.returns-in-None-clause-left
returns-in-None-clause-left c =
    let none = rw c.deref.ensures.value at (c.in-None.ensures.none cc) in
    stays_empty c.args.planned.now.items c.args.number (door_missing c.args.planned.now.items c.args.number none)
