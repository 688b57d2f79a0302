use Rattle.std.proofs.Common.{◌<◌, length, arith}
use Rattle.file_market.proofs.FailingFacts.{due}
use Rattle.file_market.proofs.checking.failure_at.Goals as goal

pub returns : goal.returns
returns c =
    let in_parts : c.args.product < length c.args.parts.now = omega (arith, c.requires.within, c.requires.count, c.requires.parts.count) in
    due c.args.terms.now.roster.now c.args.terms.now.mode c.args.networks.now c.args.parts.now c.args.product c.index-networks-product.result c.index-parts-product.result c.in_ok-failure.failure
    c.requires.within in_parts c.index-networks-product.is c.index-parts-product.is c.in_ok-failure.ensures
