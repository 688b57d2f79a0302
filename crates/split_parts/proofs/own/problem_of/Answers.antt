use Rattle.std.proofs.Common.{◌<◌, sym, subst, arith}
use Rattle.std.specs.Prelude.{All}
use Rattle.network_laws.specs.Networks.{NetworkData}
use Rattle.network_laws.specs.Limits.{LimitsData, IsWithinLimits}
use Rattle.split_parts.specs.Own.{own_limits}
use Rattle.split_parts.proofs.Numbers.{part_short}
use Rattle.split_parts.proofs.OwnFacts.{own_within}
use Rattle.split_parts.proofs.own.problem_of.Goals as goal

pub part_limits-requires-clause-short : goal.part_limits-requires-clause-short
part_limits-requires-clause-short c = omega (arith, part_short c.args.part.members.now c.args.limits.now.members c.requires.rising c.requires.inside, c.rows.ensures.limits.few)

pub part_rows-requires-clause-short : goal.part_rows-requires-clause-short
part_rows-requires-clause-short c = omega (arith, part_short c.args.part.members.now c.args.limits.now.members c.requires.rising c.requires.inside, c.rows.ensures.limits.few)

pub new-requires-clause-within : goal.new-requires-clause-within
new-requires-clause-within c =
    let limits = c.args.limits.now in
    let y = c.args.network.now in
    let part = c.args.part.members.now in
    let within = subst (λ n. All (λ m. m < n) part) c.requires.same_members c.requires.inside in
    subst (λ (l : LimitsData). IsWithinLimits l c.network_of.result) (sym c.limits_of.ensures)
    (subst (λ (z : NetworkData). IsWithinLimits (own_limits limits part) z) (sym c.network_of.ensures) (own_within limits y part c.requires.within c.requires.rising within))
