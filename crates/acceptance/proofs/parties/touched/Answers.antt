use Rattle.std.proofs.Common.{ℕ, List, ap, ◌∙◌}
use Rattle.command_types.specs.CycleRefusals.{has_voted}
use Rattle.acceptance.proofs.PartyFacts.{plan_below, flagged_touched, voted_touched}
use Rattle.acceptance.proofs.parties.touched.Goals as goal

pub returns-clause-touched : goal.returns-clause-touched
returns-clause-touched c = λ m.
    ap (λ (needed : List ℕ). has_voted needed m) c.of.ensures.needed
    ∙ voted_touched c.all_parties.result.words c.args.trades.now c.args.plan.now c.all_parties.ensures (plan_below c.args.trades.now c.args.members 256 c.args.plan.now c.requires.few c.requires.below) m

pub returns-clause-needed : goal.returns-clause-needed
returns-clause-needed c = λ n le below.
    c.of.ensures.needed ∙ flagged_touched c.all_parties.result.words c.args.trades.now c.args.plan.now n c.all_parties.ensures le below
