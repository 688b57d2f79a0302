use Rattle.std.proofs.Common.{◌∙◌, sym, ap, subst, [], get_or, arith}
use Rattle.network_laws.specs.Limits.{IsWithinLimits}
use Rattle.command_types.specs.declared.cycle.Mode.TheVariants.{Free}
use Rattle.tolerance_sets.proofs.PairLimits.{network_is_within}
use Rattle.file_market.specs.Market.{empty_network}
use Rattle.file_market.proofs.FreeLimits.{free_limits_same}
use Rattle.file_market.proofs.solving.free_problems.Goals as goal

pub problems_in-requires-after_bounds : goal.problems_in-requires-after_bounds
problems_in-requires-after_bounds g c κs within = λ k d l good.
    let rows = c.args.roster.now in
    let network = get_or c.args.networks.now k d in
    let members = c.requires.members k d l in
    let same = c.in_ok-limits.ensures.limits ∙ free_limits_same rows 0 k c.index-networks-0.result network c.members-members.ensures.network good in (
      ap (λ limits. limits.members) same ∙ sym members,
      subst (λ limits. IsWithinLimits limits network) (sym same) (network_is_within Free rows.members [] k network (empty_network rows) members),
    )

pub returns : goal.returns
returns g c =
    let rows = c.args.roster.now in
    record {
      count = omega (arith, c.in_ok-problems.ensures.count);
      each = λ k d e l.
          let own = c.in_ok-problems.ensures.each k e l d in
          let network = get_or c.args.networks.now k d in
          let limits = own.limits ∙ c.in_ok-limits.ensures.limits ∙ free_limits_same rows 0 k c.index-networks-0.result network c.members-members.ensures.network own.good in
          λ i. record { limits = limits i; network = own.network i };
    }
