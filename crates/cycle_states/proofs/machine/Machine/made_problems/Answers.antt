use Rattle.std.proofs.Common.{◌≡◌, ◌∙◌, IfOk, IsTrue, List, is_some, ap, sym, subst}
use Rattle.std.proofs.lemmas.Option.{none-some, same_Some}
use Rattle.network_laws.specs.Solutions.{ProblemData}
use Rattle.command_types.specs.declared.cycle.Mode.{Mode}
use Rattle.command_types.specs.declared.tolerance.ToleranceRow.{ToleranceRow}
use Rattle.command_types.specs.Cycles.{has_limits, problems_of}
use Rattle.cycle_states.specs.Machine.{MachineView}
use Rattle.cycle_states.proofs.CycleFacts.{limits_break}
use Rattle.cycle_states.proofs.machine.Machine.made_problems.Goals as goal

pub unreachable-requires : goal.unreachable-requires
unreachable-requires c =
    let m = c.self.inside in
    let on : IsTrue (has_limits m.cycle.phase) = rw (← c.self.view_is) at c.requires in
    let version = c.self.invariant.0.cycle_kept.begun on in
    none-some version.in_which (sym c.in_default.is ∙ c.mode.ensures ∙ version.in_mode)

pub problems_now-requires-clause-live : goal.problems_now-requires-clause-live
problems_now-requires-clause-live c =
    let m = c.self.inside in
    let on : IsTrue (has_limits m.cycle.phase) = rw (← c.self.view_is) at c.requires in
    c.self.invariant.0.unbroken (limits_break m.cycle.phase on)

pub problems_now-requires-clause-kept : goal.problems_now-requires-clause-kept
problems_now-requires-clause-kept c =
    let m = c.self.inside in
    let on : IsTrue (has_limits m.cycle.phase) = rw (← c.self.view_is) at c.requires in
    (c.self.invariant.3 (limits_break m.cycle.phase on)).networks

pub returns : goal.returns
returns c =
    let m = c.self.inside in
    let on : IsTrue (has_limits m.cycle.phase) = rw (← c.self.view_is) at c.requires in
    let version = c.self.invariant.0.cycle_kept.begun on in
    let mode : c.in-Some.mode ≡ version.in_which = same_Some c.in-Some.mode version.in_which (sym c.in-Some.is ∙ c.mode.ensures ∙ version.in_mode) in
    let taken : m.tolerances.taken ≡ m.cycle.settings = c.self.invariant.2 (ap is_some (sym c.mode.ensures ∙ c.in-Some.is)) in
    let same : problems_of m.roster m.book.rows m.tolerances.taken c.in-Some.mode ≡ c.args.self.now.state.cycle.begun =
    ap (λ (settings : List ToleranceRow). problems_of m.roster m.book.rows settings c.in-Some.mode) taken
    ∙ ap (λ (in_mode : Mode). problems_of m.roster m.book.rows m.cycle.settings in_mode) mode
    ∙ sym version.same
    ∙ ap (λ (view : MachineView). view.state.cycle.begun) c.self.view_is in
    let Gives : List ProblemData → Type 0 = λ told. IfOk c.problems_now.result (λ problems. problems.items ≡ told) in
    subst Gives same c.problems_now.ensures
