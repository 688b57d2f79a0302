use Rattle.std.proofs.Common.{rules, ◌≡◌, false}
use Rattle.outside.specs.Faults.{one_more, is_listed}
use Rattle.doors.proofs.memory_listener.MemoryListenerListener.bind.Goals as goal

pub returns-in_default-clause-fails : goal.returns-in_default-clause-fails
returns-in_default-clause-fails c =
    let listed : is_listed (one_more c.self.inside.calls) c.self.inside.failing.items ≡ false = search rules in
    rw (← c.self.view_is) (λ e. absurd cc, λ f. absurd (let no = rw listed at f in cc))

pub returns-clause-fails : goal.returns-clause-fails
returns-clause-fails c =
    let listed : is_listed (one_more c.self.inside.calls) c.self.inside.failing.items ≡ false = search rules in
    rw (← c.self.view_is) (λ e. absurd cc, λ f. absurd (let no = rw listed at f in cc))
