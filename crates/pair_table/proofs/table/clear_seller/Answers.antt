use Rattle.std.proofs.Common.{◌<◌, ◌+◌, ◌*◌, length, refl, arith}
use Rattle.pair_table.proofs.Listed.{dropped}
use Rattle.pair_table.proofs.Cleared.{clearing_none, clearing_more, cleared_seller}
use Rattle.pair_table.proofs.table.clear_seller.Goals as goal

pub loop-buyer-init : goal.loop-buyer-init
loop-buyer-init c = clearing_none c.args.members c.args.seller c.args.sums.now c.args.buyers c.requires.buyers

pub loop-buyer-smaller : goal.loop-buyer-smaller
loop-buyer-smaller c =
    dropped c.args.members c.loop-buyer.left c.drop_member.new.self c.in-Some.buyer c.in-Some.ensures.member (c.loop-buyer.invariant.inside c.in-Some.buyer c.in-Some.ensures.member) c.drop_member.ensures

pub loop-buyer-preserved : goal.loop-buyer-preserved
loop-buyer-preserved c =
    let inv = c.loop-buyer.invariant in
    let buyer = c.in-Some.buyer in
    let in_b = inv.inside c.in-Some.buyer c.in-Some.ensures.member in
    let inside : c.args.seller * 256 + c.in-Some.buyer < length c.loop-buyer.sums = omega (arith, in_b, inv.same_length, c.requires.size, c.requires.seller, c.requires.few) in
    clearing_more c.args.members c.args.seller c.args.sums.now c.loop-buyer.sums c.loop-buyer.left c.drop_member.new.self buyer inside inv c.in-Some.ensures.member c.drop_member.ensures

pub returns : goal.returns
returns c = cleared_seller c.args.members c.args.seller c.args.sums.now c.loop-buyer.sums c.loop-buyer.left c.loop-buyer.invariant (c.in_default.ensures.none.0 refl)
