use Rattle.std.proofs.Common.{ap}
use Rattle.command_types.specs.declared.figures.State.{State}
use Rattle.cycle_states.specs.Machine.{MachineView}
use Rattle.cycle_states.proofs.DeskFacts.{plain_new}
use Rattle.cycle_states.proofs.plain_desk.PlainDesk.new.Goals as goal

pub invariant_of-result : goal.invariant_of-result
invariant_of-result c =
    plain_new c.args.machine.state c.of.result.value.state c.new.result.items (ap (λ (m : MachineView). m.state) c.of.ensures) c.new.ensures.items
    (ap (λ (s : State). s.cycle) c.requires)
