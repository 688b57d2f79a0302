use Rattle.std.proofs.Common.{◌≢◌, ◌+◌, ◌-◌, ◌*◌, ◌<◌, ◌++◌, [], length, get_or, sym, ap, ◌∙◌, subst, arith}
use Rattle.network_laws.specs.declared.rows.Row.{Row}
use Rattle.network_laws.specs.Networks.{IsCursor, IsGoodRow}
use Rattle.tolerance_sets.specs.OpenPairs.{listed_from}
use Rattle.file_market.specs.Untouched.{seller_row}
use Rattle.file_market.proofs.UntouchedWalk.{at_row, not_behind, past_all, past_row, unsold_up_to, up_to_row}
use Rattle.file_market.proofs.untouched.add_seller.Goals as goal

pub loop-row-preserved : goal.loop-row-preserved
loop-row-preserved c =
    let network = c.args.network.now in
    let buyers = c.args.buyers.now in
    let n = c.args.members in
    let sales = c.requires.sales in
    let i = c.args.seller in
    let at = c.loop-row.at in
    let m = at.row_at in
    let row = c.in-Some.row in
    let walk = c.loop-row.invariant in
    let next = c.in-Some.ensures.next in
    let seller = next.seller ∙ walk.seller in
    let cursor = subst (λ s. IsCursor network m (s * 65536 + at.buyer)) walk.seller walk.place.row in
    let behind = not_behind n network sales i m row next.within next.is seller at.buyer cursor in
    let here = at_row n network sales i m row next.within next.is seller at.buyer cursor behind in
    let before = c.loop-row.rows.items in
    let between = c.in_ok-add_all_unsold.ensures ∙ ap (λ s. before ++ listed_from at.buyer (row.buyer - at.buyer) (seller_row buyers [] s)) walk.seller in
    record {
      seller = walk.seller;
      end = omega (arith, (sales.good m row next.within).buyer, ap (λ (r : Row). r.buyer) next.is);
      place = record {
        row_end = omega (arith, next.within);
        row = subst (λ s. IsCursor network (m + 1) (s * 65536 + (row.buyer + 1))) (sym walk.seller) (past_row n network sales i m row next.within next.is seller here);
      };
      rows = up_to_row n network sales i m row next.within next.is seller buyers c.args.rows.now.items before c.add_all_unsold.new.rows.items c.add_sold.new.rows.items at.buyer cursor walk.rows between c.in_ok-add_sold.ensures;
    }

pub add_sold-requires : goal.add_sold-requires
add_sold-requires c =
    let next = c.in-Some.ensures.next in
    let good = subst (IsGoodRow c.args.members) (sym next.is) (c.requires.sales.good c.loop-row.at.row_at c.in-Some.row next.within) in
    record {
      seller = omega (arith, good.seller, c.requires.few);
      buyer = omega (arith, good.buyer, c.requires.few);
      different = good.different;
      positive = good.positive;
    }

pub returns : goal.returns
returns c =
    let network = c.args.network.now in
    let buyers = c.args.buyers.now in
    let n = c.args.members in
    let sales = c.requires.sales in
    let i = c.args.seller in
    let at = c.loop-row.at in
    let m = at.row_at in
    let walk = c.loop-row.invariant in
    let cursor = subst (λ s. IsCursor network m (s * 65536 + at.buyer)) walk.seller walk.place.row in
    let other = λ (d : Row) (l : m < length network). subst (λ s. (get_or network m d).seller ≢ s) walk.seller (c.next_sold.ensures.none c.in_default.is d l) in
    let end = past_all n network sales i m at.buyer c.requires.few cursor walk.end other in
    let before = c.loop-row.rows.items in
    let after = c.in_ok-add_all_unsold-2.ensures ∙ ap (λ s. before ++ listed_from at.buyer (n - at.buyer) (seller_row buyers [] s)) walk.seller in
    unsold_up_to n network sales i m buyers c.args.rows.now.items before c.add_all_unsold-2.new.rows.items at.buyer n cursor end walk.end walk.rows after
