use Rattle.std.proofs.Common.{◌∙◌, ap, sym, subst}
use Rattle.command_types.specs.declared.figures.Cycle.{Cycle}
use Rattle.cycle_states.specs.Machine.{MachineView, IsWhole}
use Rattle.cycle_states.proofs.machine.Machine.keep_made.Goals as goal

pub keep_problems-requires : goal.keep_problems-requires
keep_problems-requires c = c.in_ok-problems.ensures ∙ ap (λ (view : MachineView). view.state.cycle.begun) (sym c.self.view_is)

pub invariant_of-self : goal.invariant_of-self
invariant_of-self c =
    let m = c.self.inside in
    subst (λ (cycle : Cycle). IsWhole m.roster m.book m.tolerances cycle m.ballot m.frozen) (sym c.keep_problems.ensures) c.self.invariant
