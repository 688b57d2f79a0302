use Rattle.std.proofs.Common.{◌≡◌, ◌<◌, ◌∙◌, true, refl, length, ap, sym, subst, arith}
use Rattle.std.proofs.lemmas.List.Elements.{All-head, All-tail, All-filter, filter_passes}
use Rattle.std.proofs.lemmas.Result.{IfOk-weaker}
use Rattle.linked_rows.specs.Rows.{list_of, next_of}
use Rattle.network_laws.specs.Networks.{NetworkData}
use Rattle.command_types.specs.Books.{network_by}
use Rattle.pair_table.specs.PairSums.{sum_in}
use Rattle.product_book.specs.Links.{is_open_at}
use Rattle.product_book.specs.Networks.{network_of, HasParties}
use Rattle.product_book.specs.OpenLists.{numbers_in}
use Rattle.product_book.specs.Walks.{rows_at}
use Rattle.product_book.proofs.NetworkFacts.{HoldsRest, holds_all, fits, holds_added, holds_left, network_by-table}
use Rattle.product_book.proofs.WalkFacts.{IsWalk, rest, place_in, if_there, walk_begins, walk_live, passed_there, passed_walk, passed_rest, passed_shorter, passed_rows}
use Rattle.product_book.proofs.networks.network_of.Goals as goal
use Rattle.product_book.proofs.networks.network_of.Goals.{then-is_among, else-is_among}

pub loop-at-init : goal.loop-at-init
loop-at-init c =
    let lists = c.args.lists.now.lists in
    let list = list_of lists c.args.product in
    let start : IsWalk lists c.args.product (place_in c.first-at.result) × (rest list (place_in c.first-at.result) ≡ list) =
    walk_begins lists c.args.product (place_in c.first-at.result) (rw c.index.ensures at c.first-at.ensures.node) (if_there c.first-at.result (rw c.index.ensures at c.first-at.ensures.low)) (if_there c.first-at.result c.first-at.ensures.once) in
    let open_rows = c.requires.open in
    record {
      walk = start.0;
      there = rw start.1 c.requires.there;
      open_ones = rw (start.1, c.requires.open) (filter_passes (is_open_at (λ r. r.product) c.args.product) c.args.trades.now);
      parties = rw (start.1, c.requires.open) (All-filter (is_open_at (λ r. r.product) c.args.product) (HasParties c.args.members) c.args.trades.now c.requires.parties);
      holds = holds_all c.args.which c.args.members c.args.product (rows_at c.args.trades.now (numbers_in (rest list (place_in c.first-at.result)))) c.args.trades.now c.in_ok-table.table
          (ap (λ es. rows_at c.args.trades.now (numbers_in es)) start.1 ∙ c.requires.open) c.requires.count c.in_ok-table.ensures.members c.in_ok-table.ensures.sums c.in_ok-table.ensures.gross;
    }

pub number_at-requires : goal.number_at-requires
number_at-requires c = walk_live c.args.lists.now.lists c.args.product c.in-Some.node.place (rw c.in-Some.is at c.loop-at.invariant.walk)

pub row_at-trade-requires : goal.row_at-trade-requires
row_at-trade-requires c =
    passed_there c.args.lists.now.lists c.args.product c.args.trades.now c.in-Some.node.place c.number_at.result (rw c.in-Some.is at c.loop-at.invariant.walk) (rw c.in-Some.is at c.loop-at.invariant.there) c.number_at.ensures

pub loop-at-smaller : goal.loop-at-smaller
loop-at-smaller c =
    let lists = c.args.lists.now.lists in
    let less = passed_shorter lists c.args.product c.args.trades.now c.in-Some.node.place c.number_at.result (rw c.in-Some.is at c.loop-at.invariant.walk) (rw c.in-Some.is at c.loop-at.invariant.there) c.number_at.ensures (place_in c.next-at.result) c.next-at.ensures.node in
    subst (λ o. length (rest (list_of lists c.args.product) (place_in c.next-at.result)) < length (rest (list_of lists c.args.product) (place_in o))) (sym c.in-Some.is) less

pub add-requires-clause-seller : goal.add-requires-clause-seller
add-requires-clause-seller c =
    let lists = c.args.lists.now.lists in
    let trades = c.args.trades.now in
    let row = c.row_at-trade.result in
    let walk = rw c.in-Some.is at c.loop-at.invariant.walk in
    let there = rw c.in-Some.is at c.loop-at.invariant.there in
    let o = next_of lists c.in-Some.node.place in
    let rows = passed_rows lists c.args.product trades c.in-Some.node.place c.number_at.result walk there c.number_at.ensures o refl row c.row_at-trade.ensures in
    let left = rows_at trades (numbers_in (rest (list_of lists c.args.product) o)) in
    let party = All-head (HasParties c.args.members) row left (rw (c.in-Some.is, rows) at c.loop-at.invariant.parties) in
    omega (arith, party.seller, c.loop-at.invariant.holds.members)

pub add-requires-clause-buyer : goal.add-requires-clause-buyer
add-requires-clause-buyer c =
    let lists = c.args.lists.now.lists in
    let trades = c.args.trades.now in
    let row = c.row_at-trade.result in
    let walk = rw c.in-Some.is at c.loop-at.invariant.walk in
    let there = rw c.in-Some.is at c.loop-at.invariant.there in
    let o = next_of lists c.in-Some.node.place in
    let rows = passed_rows lists c.args.product trades c.in-Some.node.place c.number_at.result walk there c.number_at.ensures o refl row c.row_at-trade.ensures in
    let left = rows_at trades (numbers_in (rest (list_of lists c.args.product) o)) in
    let party = All-head (HasParties c.args.members) row left (rw (c.in-Some.is, rows) at c.loop-at.invariant.parties) in
    omega (arith, party.buyer, c.loop-at.invariant.holds.members)

pub add-requires-clause-different : goal.add-requires-clause-different
add-requires-clause-different c =
    let lists = c.args.lists.now.lists in
    let trades = c.args.trades.now in
    let row = c.row_at-trade.result in
    let walk = rw c.in-Some.is at c.loop-at.invariant.walk in
    let there = rw c.in-Some.is at c.loop-at.invariant.there in
    let o = next_of lists c.in-Some.node.place in
    let rows = passed_rows lists c.args.product trades c.in-Some.node.place c.number_at.result walk there c.number_at.ensures o refl row c.row_at-trade.ensures in
    let left = rows_at trades (numbers_in (rest (list_of lists c.args.product) o)) in
    let party = All-head (HasParties c.args.members) row left (rw (c.in-Some.is, rows) at c.loop-at.invariant.parties) in
    party.different

pub add-requires-clause-bound : goal.add-requires-clause-bound
add-requires-clause-bound c =
    let lists = c.args.lists.now.lists in
    let trades = c.args.trades.now in
    let row = c.row_at-trade.result in
    let walk = rw c.in-Some.is at c.loop-at.invariant.walk in
    let there = rw c.in-Some.is at c.loop-at.invariant.there in
    let o = next_of lists c.in-Some.node.place in
    let rows = passed_rows lists c.args.product trades c.in-Some.node.place c.number_at.result walk there c.number_at.ensures o refl row c.row_at-trade.ensures in
    let left = rows_at trades (numbers_in (rest (list_of lists c.args.product) o)) in
    let own = All-head (λ r. is_open_at (λ r. r.product) c.args.product r ≡ true) row left (rw (c.in-Some.is, rows) at c.loop-at.invariant.open_ones) in
    omega (arith, fits c.args.which c.args.members c.args.product row left trades c.loop-at.table own (rw (c.in-Some.is, rows) at c.loop-at.invariant.holds) c.requires.bound, c.get.ensures.value)

pub loop-at-preserved : goal.loop-at-preserved
loop-at-preserved c =
    let lists = c.args.lists.now.lists in
    let trades = c.args.trades.now in
    let row = c.row_at-trade.result in
    let walk = rw c.in-Some.is at c.loop-at.invariant.walk in
    let there = rw c.in-Some.is at c.loop-at.invariant.there in
    let o = place_in c.next-at.result in
    let rows = passed_rows lists c.args.product trades c.in-Some.node.place c.number_at.result walk there c.number_at.ensures o c.next-at.ensures.node row c.row_at-trade.ensures in
    let left = rows_at trades (numbers_in (rest (list_of lists c.args.product) o)) in
    let open_ones = rw (c.in-Some.is, rows) at c.loop-at.invariant.open_ones in
    let own = All-head (λ r. is_open_at (λ r. r.product) c.args.product r ≡ true) row left open_ones in
    let before = rw (c.in-Some.is, rows) at c.loop-at.invariant.holds in
    record {
      walk = passed_walk lists c.args.product trades c.in-Some.node.place c.number_at.result walk there c.number_at.ensures o c.next-at.ensures.node;
      there = passed_rest lists c.args.product trades c.in-Some.node.place c.number_at.result walk there c.number_at.ensures o c.next-at.ensures.node;
      open_ones = All-tail (λ r. is_open_at (λ r. r.product) c.args.product r ≡ true) row left open_ones;
      parties = All-tail (HasParties c.args.members) row left (rw (c.in-Some.is, rows) at c.loop-at.invariant.parties);
      holds =
          elim c.if-is_among.branch [
            | then-is_among w ↦ subst (HoldsRest c.args.which c.args.members c.args.product left trades) (sym w.table-is) (holds_added c.args.which c.args.members c.args.product row left trades c.loop-at.table own before w.add.new.self w.get.result (sym w.if-is_among.ensures) w.get.ensures.value w.add.ensures.members w.add.ensures.sums w.add.ensures.gross)
            | else-is_among w ↦ subst (HoldsRest c.args.which c.args.members c.args.product left trades) (sym w.table-is) (holds_left c.args.which c.args.members c.args.product row left trades c.loop-at.table own before (sym w.if-is_among.ensures))
          ];
    }

pub returns : goal.returns
returns c =
    let trades = c.args.trades.now in
    let holds = rw c.in_default.is at c.loop-at.invariant.holds in
    let same = network_by-table c.args.which c.args.members c.args.product trades c.loop-at.table holds in
    IfOk-weaker c.network.result (λ (network : NetworkData). network ≡ network_by c.loop-at.table.members (sum_in c.loop-at.table)) (λ network. network ≡ network_of c.args.which c.args.members c.args.product trades) (λ network e. (rw c.loop-at.invariant.holds.members at e) ∙ same) c.network.ensures.value
