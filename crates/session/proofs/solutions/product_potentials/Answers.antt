use Rattle.std.proofs.Common.{◌∙◌, ◌<◌, ◌++◌, ◌∷◌, [], length, sym, ap, arith}
use Rattle.command_types.specs.Session.{draft_potential}
use Rattle.session.specs.Kept.{kept_potentials}
use Rattle.std.proofs.lemmas.Int.{to_z-of_z}
use Rattle.session.proofs.PotentialFacts.{potential_fits}
use Rattle.session.proofs.SolutionFacts.{potentials_step}
use Rattle.session.proofs.solutions.product_potentials.Goals as goal
use mir.Syntax.{w32}

pub loop-row-preserved : goal.loop-row-preserved
loop-row-preserved c =
    let k = c.loop-row.row-index in
    let within : k < length c.args.members.now = omega arith in
    potentials_step (λ member. draft_potential c.args.product member (kept_potentials c.args.draft.now)) k c.args.members.now c.row-item.result c.loop-row.potentials.items c.push.new.self.items _ within (sym c.row-item.is)
    (c.in_ok-push.ensures.items ∙ ap (λ v. c.loop-row.potentials.items ++ v ∷ []) (to_z-of_z w32 c.value.result (potential_fits c.value.result c.value.ensures.in_range) ∙ c.value.ensures.value)) c.loop-row.invariant
