use Rattle.std.proofs.Common.{◌∙◌, rules, ap, subst, sym}
use Rattle.command_types.specs.declared.figures.Cycle.{Cycle}
use Rattle.command_types.specs.declared.figures.State.{State}
use Rattle.cycle_states.specs.Machine.{IsYoung}
use Rattle.book_tests.proofs.machine.taking_back.+go_back.Goals as goal

-- a change that goes back leaves the cycle as it is
pub go_back-requires : goal.go_back-requires
go_back-requires t c =
    let back = rw c.in-Some.is at c.undo_of.ensures.back in
    let cycle : State → Cycle = λ s. s.cycle in
    let young = subst IsYoung (sym (ap cycle c.commit-made.ensures.state ∙ ap cycle back.0 ∙ ap cycle c.decide.ensures.state)) c.requires in
    search rules
