use Rattle.std.proofs.Common.{◌++◌, ◌<◌, length, ap, sym, subst, ◌∙◌}
use Rattle.linked_rows.specs.Rows.{list_of}
use Rattle.product_book.specs.OpenLists.{numbers_in}
use Rattle.product_book.specs.Walks.{rows_at}
use Rattle.product_book.proofs.WalkFacts.{rest, place_in, walk_live, passed_there, passed_walk, passed_rest, passed_shorter, passed_rows, live_passed, other_passed}
use Rattle.product_book.proofs.picks.live_in.Goals as goal
use Rattle.product_book.proofs.picks.live_in.Goals.{then-is_live+in_ok-push, else-is_live}

pub number_at-requires : goal.number_at-requires
number_at-requires c = walk_live c.args.lists.now.lists c.args.list c.in-Some.node.place (rw c.in-Some.is at c.loop-at.invariant.walk)

pub row_at-trade-requires : goal.row_at-trade-requires
row_at-trade-requires c =
    passed_there c.args.lists.now.lists c.args.list c.args.trades.now c.in-Some.node.place c.number_at.result (rw c.in-Some.is at c.loop-at.invariant.walk) (rw c.in-Some.is at c.loop-at.invariant.there) c.number_at.ensures

pub loop-at-smaller : goal.loop-at-smaller
loop-at-smaller c =
    let lists = c.args.lists.now.lists in
    let less = passed_shorter lists c.args.list c.args.trades.now c.in-Some.node.place c.number_at.result (rw c.in-Some.is at c.loop-at.invariant.walk) (rw c.in-Some.is at c.loop-at.invariant.there) c.number_at.ensures (place_in c.next-at.result) c.next-at.ensures.node in
    subst (λ o. length (rest (list_of lists c.args.list) (place_in c.next-at.result)) < length (rest (list_of lists c.args.list) (place_in o))) (sym c.in-Some.is) less

pub loop-at-preserved : goal.loop-at-preserved
loop-at-preserved c =
    let lists = c.args.lists.now.lists in
    let trades = c.args.trades.now in
    let walk = rw c.in-Some.is at c.loop-at.invariant.walk in
    let there = rw c.in-Some.is at c.loop-at.invariant.there in
    let rows = passed_rows lists c.args.list trades c.in-Some.node.place c.number_at.result walk there c.number_at.ensures (place_in c.next-at.result) c.next-at.ensures.node c.row_at-trade.result c.row_at-trade.ensures in
    let left = rows_at trades (numbers_in (rest (list_of lists c.args.list) (place_in c.next-at.result))) in
    let before = rw (c.in-Some.is, rows) at c.loop-at.invariant.rows in
    record {
      walk = passed_walk lists c.args.list trades c.in-Some.node.place c.number_at.result walk there c.number_at.ensures (place_in c.next-at.result) c.next-at.ensures.node;
      there = passed_rest lists c.args.list trades c.in-Some.node.place c.number_at.result walk there c.number_at.ensures (place_in c.next-at.result) c.next-at.ensures.node;
      rows =
          elim c.if-is_live.branch [
            | then-is_live+in_ok-push w ↦ rw (w.rows-is, w.in_ok-push.ensures.items) (live_passed c.loop-at.rows.items left c.row_at-trade.result (sym w.if-is_live.ensures) ∙ before)
            | else-is_live w ↦ rw w.rows-is (ap (λ xs. c.loop-at.rows.items ++ xs) (other_passed left c.row_at-trade.result (sym w.if-is_live.ensures)) ∙ before)
          ];
    }
