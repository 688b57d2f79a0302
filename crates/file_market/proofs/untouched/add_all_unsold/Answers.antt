use Rattle.std.proofs.Common.{[], arith}
use Rattle.file_market.specs.Untouched.{seller_row}
use Rattle.file_market.proofs.UntouchedLimits.{past_unsold}
use Rattle.file_market.proofs.UntouchedWalk.{one_from, start_from, up_to}
use Rattle.file_market.proofs.untouched.add_all_unsold.Goals as goal

pub loop-buyer-init : goal.loop-buyer-init
loop-buyer-init c = record {
  from = omega arith;
  to = c.requires.to;
  rows = start_from c.args.rows.now.items (seller_row c.args.buyers.now [] c.args.from.seller) c.args.from.buyer;
}

pub loop-buyer-preserved : goal.loop-buyer-preserved
loop-buyer-preserved c =
    let walk = c.loop-buyer.invariant in
    record {
      from = omega (arith, walk.from);
      to = omega (arith, walk.to);
      rows = one_from c.args.rows.now.items c.loop-buyer.rows.items c.add_unsold.new.rows.items (seller_row c.args.buyers.now [] c.args.from.seller) c.args.from.buyer c.loop-buyer.buyer walk.from walk.rows c.in_ok-add_unsold.ensures;
    }

pub returns : goal.returns
returns c =
    let walk = c.loop-buyer.invariant in
    up_to c.args.rows.now.items c.loop-buyer.rows.items (seller_row c.args.buyers.now [] c.args.from.seller) c.args.from.buyer c.loop-buyer.buyer c.args.to walk.from walk.to
    (λ k lk l. past_unsold c.args.buyers.now c.args.from.seller k (omega (arith, lk, l)))
    walk.rows
