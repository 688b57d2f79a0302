use Rattle.std.proofs.Common.{◌∙◌, ◌<◌, ℕ, List, length, IsTrue, ap, arith}
use Rattle.command_types.specs.Cycles.{is_proposed}
use Rattle.command_types.specs.CycleRefusals.{has_voted}
use Rattle.command_types.specs.Plans.{is_touched}
use Rattle.acceptance.proofs.FlagFacts.{voted_within}
use Rattle.cycle_states.specs.Machine.{MachineView}
use Rattle.cycle_states.proofs.machine.Machine.touches.Goals as goal

pub needs-requires : goal.needs-requires
needs-requires c =
    let m = c.self.inside in
    let there : c.args.member < length m.roster.members = rw (← c.self.view_is) at c.requires.there in
    omega (arith, there, c.self.invariant.0.few_members)

pub returns : goal.returns
returns c =
    let m = c.self.inside in
    let on : IsTrue (is_proposed m.cycle.phase) = rw (← c.self.view_is) at c.requires.proposed in
    let there : c.args.member < length m.roster.members = rw (← c.self.view_is) at c.requires.there in
    c.needs.ensures
    ∙ ap (λ (needed : List ℕ). has_voted needed c.args.member) (c.self.invariant.1.needed on)
    ∙ voted_within (is_touched m.book.rows m.cycle.plan) (length m.roster.members) c.args.member there
    ∙ ap (λ (view : MachineView). is_touched view.state.trades view.state.cycle.plan c.args.member) c.self.view_is
