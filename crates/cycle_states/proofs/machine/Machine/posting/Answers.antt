use Rattle.std.proofs.Common.{◌∙◌, ap, sym}
use Rattle.cycle_states.specs.Machine.{MachineView}
use Rattle.cycle_states.proofs.CycleFacts.{limits_break, solving_limits}
use Rattle.cycle_states.proofs.SettledFacts.{few_problems}
use Rattle.cycle_states.proofs.machine.Machine.posting.Goals as goal

pub problems-requires : goal.problems-requires
problems-requires c = solving_limits c.args.self.now.state.cycle.phase c.requires.solving

pub plan_posted-requires-clause-problems : goal.plan_posted-requires-clause-problems
plan_posted-requires-clause-problems c = c.as_slice.ensures.value ∙ c.in_ok-problems.ensures ∙ ap (λ (view : MachineView). view.state.cycle.begun) (sym c.self.view_is)

pub plan_posted-requires-clause-few : goal.plan_posted-requires-clause-few
plan_posted-requires-clause-few c =
    let m = c.self.inside in
    few_problems m.roster m.book.members m.book.products m.book.rows m.cycle c.self.invariant.0 (solving_limits m.cycle.phase (rw (← c.self.view_is) at c.requires.solving))

pub plan_posted-requires-clause-free : goal.plan_posted-requires-clause-free
plan_posted-requires-clause-free c =
    let m = c.self.inside in
    let may = limits_break m.cycle.phase (solving_limits m.cycle.phase (rw (← c.self.view_is) at c.requires.solving)) in
    (c.self.invariant.3 may).free
