use Rattle.std.proofs.Common.{◌≡◌, ◌++◌, length, refl, sym, ap, ◌∙◌, arith}
use Rattle.std.proofs.lemmas.List.{append-nil}
use Rattle.command_types.specs.Books.{listed_below}
use Rattle.tolerance_sets.specs.Market.{market_limit}
use Rattle.tolerance_sets.specs.OpenPairs.{open_row}
use Rattle.tolerance_sets.proofs.OpenPairs.{open_limit, open_up_to}
use Rattle.tolerance_sets.proofs.Passed.{none_between}
use Rattle.tolerance_sets.proofs.Walk.{one_more}
use Rattle.tolerance_sets.proofs.open_pairs.add_open_seller.Goals as goal

pub loop-from-init : goal.loop-from-init
loop-from-init c = record {
  rows = sym (append-nil c.args.rows.now.items);
  within = omega arith;
  row_end = c.first_row-row_at.ensures.end;
  row = c.first_row-row_at.ensures.cursor;
}

pub add_to-requires-clause-from : goal.add_to-requires-clause-from
add_to-requires-clause-from c = c.buyer_at-buyer.ensures.from c.loop-from.from c.loop-from.invariant.within c.loop-from.invariant.row

pub returns-then-buyer-members : goal.returns-then-buyer-members
returns-then-buyer-members c =
    let market = c.args.market.now in
    let i = c.args.template.now.seller in
    let from = c.loop-from.from in
    let to = c.buyer_at-buyer.result in
    let f = market_limit market i in
    let last = c.buyer_at-buyer.ensures.cursor from c.loop-from.invariant.within c.loop-from.invariant.row in
    open_up_to c.args.rows.now.items c.loop-from.rows.items c.add_to.new.rows.items f (open_row i) from to (c.buyer_at-buyer.ensures.from from c.loop-from.invariant.within c.loop-from.invariant.row)
    (λ j le l. open_limit market i j c.requires.unbounded (none_between market.network.now c.loop-from.row_at i from to j c.loop-from.invariant.row last le l))
    c.loop-from.invariant.rows c.in_ok-add_to.ensures ∙ ap (λ n. c.args.rows.now.items ++ listed_below n f) c.if-buyer-members.true

pub add_pair-requires-clause-pair : goal.add_pair-requires-clause-pair
add_pair-requires-clause-pair c = record {
  end = omega (arith, c.buyer_at-buyer.ensures.end, c.requires.members);
  row_end = c.loop-from.invariant.row_end;
  row = c.buyer_at-buyer.ensures.cursor c.loop-from.from c.loop-from.invariant.within c.loop-from.invariant.row;
  held_end = c.first_row.ensures.end;
  held = c.first_row.ensures.cursor;
  growing = λ j le l. absurd (omega (arith, le, l));
}

pub next_row-row_at-requires-clause-end : goal.next_row-row_at-requires-clause-end
next_row-row_at-requires-clause-end c = c.loop-from.invariant.row_end

pub next_row-row_at-requires-clause-cursor : goal.next_row-row_at-requires-clause-cursor
next_row-row_at-requires-clause-cursor c = c.buyer_at-buyer.ensures.cursor c.loop-from.from c.loop-from.invariant.within c.loop-from.invariant.row

pub loop-from-preserved : goal.loop-from-preserved
loop-from-preserved c =
    let market = c.args.market.now in
    let i = c.args.template.now.seller in
    let from = c.loop-from.from in
    let to = c.buyer_at-buyer.result in
    let f = market_limit market i in
    let last = c.buyer_at-buyer.ensures.cursor from c.loop-from.invariant.within c.loop-from.invariant.row in
    let up = open_up_to c.args.rows.now.items c.loop-from.rows.items c.add_to.new.rows.items f (open_row i) from to (c.buyer_at-buyer.ensures.from from c.loop-from.invariant.within c.loop-from.invariant.row)
    (λ j le l. open_limit market i j c.requires.unbounded (none_between market.network.now c.loop-from.row_at i from to j c.loop-from.invariant.row last le l))
    c.loop-from.invariant.rows c.in_ok-add_to.ensures in
    record {
      rows = one_more to f c.args.rows.now.items c.add_to.new.rows.items c.add_pair.new.rows.items (f to) up c.in_ok-add_pair.ensures refl;
      within = omega (arith, c.buyer_at-buyer.ensures.end, c.if-buyer-members.false);
      row_end = c.next_row-row_at.ensures.end;
      row = c.next_row-row_at.ensures.cursor;
    }

pub returns : goal.returns
returns c =
    let e : c.loop-from.from ≡ length c.args.market.now.members.now = omega (arith, c.loop-from.invariant.within, c.loop-from-test.false) in
    c.loop-from.invariant.rows ∙ ap (λ n. c.args.rows.now.items ++ listed_below n (market_limit c.args.market.now c.args.template.now.seller)) e
