use Rattle.std.proofs.Common.{IsTrue}
use Rattle.command_types.specs.Cycles.{has_limits}
use Rattle.cycle_states.proofs.CycleFacts.{limits_break}
use Rattle.cycle_states.proofs.machine.Machine.keep_frozen.Goals as goal

pub of-requires : goal.of-requires
of-requires c =
    let m = c.self.inside in
    let on : IsTrue (has_limits m.cycle.phase) = rw (← c.self.view_is) at c.requires in
    c.self.invariant.0.unbroken (limits_break m.cycle.phase on)

pub invariant_of-self : goal.invariant_of-self
invariant_of-self c = (c.self.invariant.0, c.self.invariant.1, c.self.invariant.2, λ may. c.in_ok-self-inside.ensures, c.self.invariant.4)
