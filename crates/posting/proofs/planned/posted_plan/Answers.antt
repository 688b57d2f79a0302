use Rattle.std.proofs.Common.{◌≡◌, IfOk, List, subst}
use Rattle.command_types.specs.declared.plan.PlanRow.{PlanRow}
use Rattle.command_types.specs.Cycles.{old_networks, new_networks}
use Rattle.posting.proofs.planned.posted_plan.Goals as goal

pub returns : goal.returns
returns c =
    let Tells : List PlanRow → Type 0 = λ told. IfOk c.plan_from_free.result (λ plan. plan.items ≡ told) in
    subst Tells (c.in_ok-free.ensures (old_networks c.args.problems.now) (new_networks c.args.solutions.now) c.args.day) c.plan_from_free.ensures
