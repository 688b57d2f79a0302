use Rattle.std.proofs.Common.{is_ok, ap, ◌∙◌}
use Rattle.doors.specs.MemoryListener.{door_at}
use Rattle.doors.proofs.PlanFacts.{door_perhaps}
use Rattle.doors.proofs.memory_listener.ready_place.Goals as goal

pub returns-clause-same : goal.returns-clause-same
returns-clause-same c = λ n.
    ap (λ ps. door_at ps n) (rw c.new.ensures at c.push.ensures.items) ∙ door_perhaps (is_ok c.push.result) c.args.planned.now.items c.args.number n
