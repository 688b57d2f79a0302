use Rattle.std.proofs.Common.{◌+◌, ◌++◌, ap, ◌∙◌, subst, arith}
use Rattle.tolerance_sets.specs.Market.{HaveNone, market_limit}
use Rattle.tolerance_sets.proofs.Passed.{up_to_first, up_to_next, grows_where_same}
use Rattle.tolerance_sets.proofs.limits.add_seller.Goals as goal

pub loop-pair-init : goal.loop-pair-init
loop-pair-init c = record {
  rows = up_to_first c.args.rows.now.items c.args.market.now c.args.seller c.first-pair.result.buyer c.first-pair.ensures.passed;
  pair = c.first-pair.ensures.pair;
  growing = c.first-pair.ensures.growing;
  ahead = c.first-pair.ensures.ahead;
  seller = c.first-pair.ensures.seller;
}

pub add_pair-requires-clause-grows : goal.add_pair-requires-clause-grows
add_pair-requires-clause-grows c =
    let walk = c.loop-pair.invariant in
    grows_where_same c.args.market.now c.loop-pair.pair walk.pair walk.growing walk.ahead (omega (arith, c.loop-pair-test.true, c.requires.members))

pub loop-pair-preserved : goal.loop-pair-preserved
loop-pair-preserved c =
    let market = c.args.market.now in
    let pair = c.loop-pair.pair in
    let seller = c.loop-pair.invariant.seller in
    let before = c.loop-pair.rows.items in
    let next = c.next-pair.result.buyer in
    record {
      rows = up_to_next c.args.rows.now.items before c.add_pair.new.rows.items market c.args.seller pair.buyer next c.loop-pair.invariant.rows (c.in_ok-add_pair.ensures ∙ ap (λ i. before ++ market_limit market i pair.buyer) seller) c.next-pair.ensures.behind (subst (λ i. HaveNone market i (pair.buyer + 1) next) seller c.next-pair.ensures.passed);
      pair = c.next-pair.ensures.pair;
      growing = c.next-pair.ensures.growing;
      ahead = c.next-pair.ensures.ahead;
      seller = c.next-pair.ensures.seller ∙ seller;
    }
