use Rattle.std.proofs.Common.{rules, ◌≡◌, ◌+◌, false}
use Rattle.outside.specs.Faults.{one_more, is_listed}
use Rattle.doors.specs.contracts.memory_listener.MemoryListener.{the_view}
use Rattle.doors.proofs.PlannedFacts.{lends_next}
use Rattle.doors.proofs.memory_listener.MemoryListenerListener.door.Goals as goal

pub returns-then-is_err-clause-fails : goal.returns-then-is_err-clause-fails
returns-then-is_err-clause-fails c =
    let listed : is_listed (one_more c.self.inside.calls) c.self.inside.failing.items ≡ false = search rules in
    rw (← c.self.view_is) (λ e. absurd cc, λ f. absurd (let no = rw listed at f in cc))

pub returns-clause-fails : goal.returns-clause-fails
returns-clause-fails c =
    let listed : is_listed (one_more c.self.inside.calls) c.self.inside.failing.items ≡ false = search rules in
    rw (← c.self.view_is) (λ e. absurd cc, λ f. absurd (let no = rw listed at f in cc))

pub returns-in_default-checked_add-clause-fails : goal.returns-in_default-checked_add-clause-fails
returns-in_default-checked_add-clause-fails c =
    let listed : is_listed (one_more c.self.inside.calls) c.self.inside.failing.items ≡ false = search rules in
    rw (← c.self.view_is) (λ e. absurd cc, λ f. absurd (let no = rw listed at f in cc))

pub returns-clause-lends : goal.returns-clause-lends
returns-clause-lends c =
    let next : c.in-Some-checked_add.handed ≡ c.self.inside.handed + 1 = search rules in
    let more : c.in-Some.lent ≡ c.self.inside.lent + 1 = search rules in
    let taken = c.take_planned-door.ensures in
    rw (← c.self.view_is) (lends_next (the_view c.self.inside) c.take_planned-door.new.planned.items c.in-Some-checked_add.handed c.in-Some.lent c.reserve.new.self.items c.take_planned-door.result next more c.reserve.ensures.items taken.door taken.left)
