use Rattle.std.proofs.Common.{◌∙◌, ℕ, List, length, sym, ap}
use Rattle.std.proofs.lemmas.List.Elements.{All-same}
use Rattle.network_laws.specs.Networks.{NetworkData}
use Rattle.network_laws.specs.Solutions.{IsPotential}
use Rattle.command_types.specs.Session.{draft_potential, potentials_for}
use Rattle.session.specs.Kept.{kept_potentials}
use Rattle.session.proofs.SolutionFacts.{potentials_all, potentials_length}
use Rattle.session.proofs.solutions.product_solution.Goals as goal

pub new-requires-clause-one_each : goal.new-requires-clause-one_each
new-requires-clause-one_each c =
    ap length c.in_ok-potentials.ensures ∙ potentials_length (λ member. draft_potential c.args.product member (kept_potentials c.potentials.result.now)) c.members.result.now
    ∙ ap length c.members.ensures.rows ∙ sym (ap (λ (y : NetworkData). y.members) c.in_ok-network.ensures)

pub new-requires-clause-in_range : goal.new-requires-clause-in_range
new-requires-clause-in_range c =
    let value_of = λ (member : List ℕ). draft_potential c.args.product member (kept_potentials c.potentials.result.now) in
    All-same IsPotential c.in_ok-potentials.potentials.items (potentials_for value_of c.members.result.now) c.in_ok-potentials.ensures
    (potentials_all value_of (λ name. c.potentials.result.now.in_range c.args.product name) c.members.result.now)
