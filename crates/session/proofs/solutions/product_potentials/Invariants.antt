use Rattle.std.proofs.Common.{◌≡◌, ◌++◌, drop}
use Rattle.command_types.specs.Session.{draft_potential, potentials_for}
use Rattle.session.specs.Kept.{kept_potentials}
use Rattle.session.proofs.solutions.product_potentials.Given as goal

abbrev pub invariant-loop-row : goal.invariant-loop-row
invariant-loop-row l =
    l.potentials.items ++ potentials_for (λ member. draft_potential l.product member (kept_potentials l.draft)) (drop l.row-index l.members)
    ≡ potentials_for (λ member. draft_potential l.product member (kept_potentials l.draft)) l.members
