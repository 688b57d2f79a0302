use Rattle.std.proofs.Common.{◌++◌, List, get_or, refl, ◌*◌, ◌+◌, sym, ap, ◌∙◌, arith}
use Rattle.network_laws.specs.declared.rows.Row.{Row}
use Rattle.std.proofs.lemmas.List.{append-nil}
use Rattle.pair_table.proofs.Listed.{dropped, listed_none, listed_more, listed_all, some_row, no_row}
use Rattle.pair_table.proofs.table.add_seller.Goals as goal

pub loop-buyer-init : goal.loop-buyer-init
loop-buyer-init c = listed_none c.args.members c.args.sums.now c.args.seller c.args.rows.now.items c.args.buyers c.requires.buyers

pub loop-buyer-smaller-in-Continue-1 : goal.loop-buyer-smaller-in-Continue-1
loop-buyer-smaller-in-Continue-1 c =
    dropped c.args.members c.loop-buyer.left c.drop_member.new.self c.in-Some.buyer c.in-Some.ensures.member (c.loop-buyer.invariant.ahead c.in-Some.buyer c.in-Some.ensures.member).1 c.drop_member.ensures

pub loop-buyer-preserved-in-Continue-1 : goal.loop-buyer-preserved-in-Continue-1
loop-buyer-preserved-in-Continue-1 c =
    let sum = get_or c.args.sums.now (c.args.seller * 256 + c.in-Some.buyer) 0 in
    listed_more c.args.members c.args.sums.now c.args.seller c.args.rows.now.items c.loop-buyer.rows.items c.push.new.self.items c.loop-buyer.left c.drop_member.new.self c.in-Some.buyer c.loop-buyer.invariant c.in-Some.ensures.member c.in-Some.ensures.least c.drop_member.ensures
    (c.in_ok-push.ensures.items ∙ ap (λ (xs : List Row). c.loop-buyer.rows.items ++ xs) (sym (some_row c.args.seller c.in-Some.buyer sum c.if-amount-gt0.true)))

pub loop-buyer-smaller : goal.loop-buyer-smaller
loop-buyer-smaller c =
    dropped c.args.members c.loop-buyer.left c.drop_member.new.self c.in-Some.buyer c.in-Some.ensures.member (c.loop-buyer.invariant.ahead c.in-Some.buyer c.in-Some.ensures.member).1 c.drop_member.ensures

pub loop-buyer-preserved : goal.loop-buyer-preserved
loop-buyer-preserved c =
    let sum = get_or c.args.sums.now (c.args.seller * 256 + c.in-Some.buyer) 0 in
    listed_more c.args.members c.args.sums.now c.args.seller c.args.rows.now.items c.loop-buyer.rows.items c.loop-buyer.rows.items c.loop-buyer.left c.drop_member.new.self c.in-Some.buyer c.loop-buyer.invariant c.in-Some.ensures.member c.in-Some.ensures.least c.drop_member.ensures
    (sym (ap (λ (xs : List Row). c.loop-buyer.rows.items ++ xs) (no_row c.args.seller c.in-Some.buyer sum (omega (arith, c.if-amount-gt0.false))) ∙ append-nil c.loop-buyer.rows.items))

pub returns : goal.returns
returns c =
    listed_all c.args.members c.args.sums.now c.args.seller c.args.rows.now.items c.loop-buyer.rows.items c.loop-buyer.left c.loop-buyer.invariant (c.in_default.ensures.none.0 refl)
