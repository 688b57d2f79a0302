use Rattle.std.proofs.Common.{◌≡◌, ◌++◌, ◌∙◌, List, Result, Ok, Err, OnOk, is_ok, cond, ap}
use Rattle.command_types.specs.declared.plan.PlanRow.{PlanRow}
use Rattle.command_types.specs.Plans.{product_plan}
use Rattle.acceptance.proofs.planning.add_change.Goals as goal

-- a list that was put behind another
appended : {T E : Type 0} (r : Result T E) (before after steps due : List PlanRow) → after ≡ cond (is_ok r) (before ++ steps) before → steps ≡ due → OnOk r (after ≡ before ++ due)
appended (Ok x) before after steps due h e = h ∙ ap (λ (more : List PlanRow). before ++ more) e
appended (Err x) before after steps due h e = tt

pub returns-clause-added : goal.returns-clause-added
returns-clause-added c =
    let change = c.args.change.now in
    let made = ap (λ (none : List PlanRow). none ++ product_plan c.args.free.now change.day change.product change.old.now change.new.now) c.new-steps.ensures.items in
    appended c.append.result c.args.plan.now.items c.append.new.self.items c.add_product.new.plan.items _ c.append.ensures.items (c.in_ok-add_product.ensures ∙ made)
