-- Where a check says yes, each part is least.
use Rattle.std.proofs.Common.{◌∙◌, sym, subst, ◌<◌, List, [], length, get_or, arith}
use Rattle.network_laws.specs.Networks.{NetworkData, AreInRange}
use Rattle.network_laws.proofs.Duality.{certified_is_least}
use Rattle.command_types.specs.Roster.{Rows}
use Rattle.trade_file.specs.declared.file_trade.FileTrade.{FileTrade}
use Rattle.trade_file.specs.Networks.{AreNetworksOf}
use Rattle.dual_certificate.specs.Writing.{HaveMembers}
use Rattle.file_market.specs.Market.{market_limits}
use Rattle.file_market.specs.Laws.{IsPassed, YesWhereAllAreLeast}
use Rattle.file_market.proofs.OneNetwork.{one_network}
use Rattle.file_market.proofs.PassFacts.{nothing_fails_where_all_pass}

members_of : (rows : Rows) (trades : List FileTrade) (networks : List NetworkData) → AreNetworksOf rows trades networks → HaveMembers rows networks
members_of rows trades networks market = λ k d l. (market.each k d l).members

no_network : NetworkData
no_network = record { members = 0; rows = [] }

pub yes_where_all_are_least : YesWhereAllAreLeast
yes_where_all_are_least rows mode trades parts found given checked =
    let networks = checked.networks in
    let law = nothing_fails_where_all_pass rows mode networks parts checked.market.count (members_of rows trades networks checked.market) given in (
      (λ h product e l.
          let in_networks : product < length networks = omega (arith, checked.market.count) in
          let in_parts : product < length parts = omega (arith, given.count) in
          let network = get_or networks product no_network in
          let part = get_or parts product e in
          let passed = law.0 (sym checked.first ∙ h) product no_network e l in
          let in_range : AreInRange part.solution.network.members part.solution.network.rows = λ k d l'. (let good = (given.good product e in_parts).network.rows.good k d l' in (good.seller, good.buyer)) in
          record {
            network = network;
            market = checked.market.each product no_network in_networks;
            passed = passed;
            least = certified_is_least (market_limits rows mode product network) network part.solution.network part.solution.potentials in_range passed.certified;
          }),
      (λ all. checked.first ∙ law.1 (λ product d e l.
          let in_networks : product < length networks = omega (arith, checked.market.count) in
          let is = all product e l in
          subst (λ (y : NetworkData). IsPassed rows mode product y (get_or parts product e)) (one_network rows trades product is.network (get_or networks product d) is.market (checked.market.each product d in_networks)) is.passed)),
    )
