use Rattle.std.proofs.Common.{Bool, ◌||◌, take, sym, ap, ◌∙◌}
use Rattle.std.specs.List.{list_any}
use Rattle.std.proofs.lemmas.List.Folds.{list_any_more}
use Rattle.command_types.specs.Plans.{is_in_step}
use Rattle.acceptance.proofs.PartyFacts.{all_found}
use Rattle.acceptance.proofs.parties.all_parties.Goals as goal

pub returns-then-are : goal.returns-then-are
returns-then-are c =
    let found = c.loop-step.found.words in
    all_found found c.args.trades.now c.args.plan.now c.args.members c.loop-step.step-index c.requires.below (λ m. c.are.ensures c.if-are.true m ∙ c.below-everyone.ensures m) c.loop-step.invariant

pub loop-step-preserved : goal.loop-step-preserved
loop-step-preserved c = λ m.
    let test = is_in_step c.args.trades.now m in
    let plan = c.args.plan.now in
    let i = c.loop-step.step-index in
    c.add_parties.ensures m
    ∙ ap (λ (t : Bool). t || test c.step-item.result) (c.loop-step.invariant m)
    ∙ ap (λ step. list_any test (take i plan) || test step) c.step-item.is
    ∙ sym (list_any_more test plan i c.step-item.result c.loop-step-test.true)
