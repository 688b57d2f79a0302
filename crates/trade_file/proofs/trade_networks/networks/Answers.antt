use Rattle.std.proofs.Common.{◌≡◌, ◌+◌, sym, ◌∙◌, subst}
use Rattle.std.specs.Prelude.{filter}
use Rattle.trade_file.specs.TradeFile.{AreFileTrades}
use Rattle.trade_file.specs.Piles.{is_of}
use Rattle.trade_file.proofs.PileFacts.{pile_trades, network_whole, AreFirst, one_more_network}
use Rattle.trade_file.proofs.trade_networks.networks.Goals as goal

pub network_of-requires-clause-trades : goal.network_of-requires-clause-trades
network_of-requires-clause-trades c =
    let rows = c.args.roster.now in
    let trades = c.args.trades.now in
    let product = c.loop-product.product in
    let same : c.pile.result.now ≡ filter (is_of product) trades = c.pile.ensures ∙ c.in_ok-piles.ensures.each product c.loop-product-test.true in
    subst (AreFileTrades rows) (sym same) (pile_trades rows trades product c.requires)

pub loop-product-preserved : goal.loop-product-preserved
loop-product-preserved c =
    let rows = c.args.roster.now in
    let trades = c.args.trades.now in
    let product = c.loop-product.product in
    let network = c.in_ok-network.network in
    let same : c.pile.result.now ≡ filter (is_of product) trades = c.pile.ensures ∙ c.in_ok-piles.ensures.each product c.loop-product-test.true in
    let new = network_whole rows trades c.pile.result.now product network same c.in_ok-network.ensures.network in
    let inv = c.loop-product.invariant in
    let more = subst (AreFirst rows trades (product + 1)) (sym c.in_ok-push.ensures.items) (one_more_network rows trades product c.loop-product.networks.items network (inv.count, inv.each) new) in
    record { count = more.0; each = more.1; members = c.network_of.ensures.members ∙ inv.members }
