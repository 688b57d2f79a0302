use Rattle.std.proofs.Common.{◌≡◌, ◌∙◌, Bool, IfOk, List, if◌then◌else◌, ap, sym, subst}
use Rattle.std.specs.Prelude.{filter}
use Rattle.command_types.specs.declared.plan.PlanRow.{PlanRow}
use Rattle.command_types.specs.Machine.{member_of}
use Rattle.command_types.specs.Plans.{is_in_step}
use Rattle.cycle_states.specs.Machine.{MachineView}
use Rattle.cycle_states.proofs.machine.Machine.shown_plan.Goals as goal

pub returns-then-is_operator : goal.returns-then-is_operator
returns-then-is_operator c =
    let s = c.args.self.now.state in
    let plan = s.cycle.plan in
    let member = member_of s c.args.caller.now.name in
    let Tells : List PlanRow → Type 0 = λ told. IfOk c.plan_copy.result (λ steps. steps.items ≡ told) in
    subst Tells
    (ap (λ (view : MachineView). view.state.cycle.plan) c.self.view_is
    ∙ ap (λ (t : Bool). if t then plan else filter (is_in_step s.trades member) plan) (sym (sym c.is_operator.ensures ∙ c.if-is_operator.true)))
    c.plan_copy.ensures

pub returns : goal.returns
returns c =
    let m = c.self.inside in
    let s = c.args.self.now.state in
    let member = member_of s c.args.caller.now.name in
    let asker = c.place_of-member.result in
    let Tells : List PlanRow → Type 0 = λ told. IfOk c.steps_of.result (λ steps. steps.items ≡ told) in
    subst Tells
    (ap (λ trades. filter (is_in_step trades asker) c.plan.result.now) c.rows.ensures.rows
    ∙ ap (λ steps. filter (is_in_step m.book.rows asker) steps) c.plan.ensures
    ∙ ap (λ (view : MachineView). filter (is_in_step view.state.trades asker) view.state.cycle.plan) c.self.view_is
    ∙ ap (λ n. filter (is_in_step s.trades n) s.cycle.plan) c.place_of-member.ensures
    ∙ ap (λ (t : Bool). if t then s.cycle.plan else filter (is_in_step s.trades member) s.cycle.plan) (sym (sym c.is_operator.ensures ∙ c.if-is_operator.false)))
    c.steps_of.ensures
