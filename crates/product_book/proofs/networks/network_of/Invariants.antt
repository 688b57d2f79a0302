use Rattle.std.proofs.Common.{◌≡◌, true, length}
use Rattle.std.specs.Prelude.{All}
use Rattle.linked_rows.specs.Rows.{list_of}
use Rattle.product_book.specs.OpenLists.{numbers_in}
use Rattle.product_book.specs.Links.{is_open_at}
use Rattle.product_book.specs.Networks.{HasParties}
use Rattle.product_book.specs.Walks.{rows_at, EachThere}
use Rattle.product_book.proofs.NetworkFacts.{HoldsRest}
use Rattle.product_book.proofs.WalkFacts.{IsWalk, rest, place_in}
use Rattle.product_book.proofs.networks.network_of.Given as goal

abbrev pub invariant-loop-at : goal.invariant-loop-at
invariant-loop-at l = record {
  walk : IsWalk l.fn.lists.lists l.fn.product (place_in l.at);
  there : EachThere l.fn.trades (numbers_in (rest (list_of l.fn.lists.lists l.fn.product) (place_in l.at)));
  open_ones : All (λ row. is_open_at (λ r. r.product) l.fn.product row ≡ true) (rows_at l.fn.trades (numbers_in (rest (list_of l.fn.lists.lists l.fn.product) (place_in l.at))));
  parties : All (HasParties l.fn.members) (rows_at l.fn.trades (numbers_in (rest (list_of l.fn.lists.lists l.fn.product) (place_in l.at))));
  holds : HoldsRest l.fn.which l.fn.members l.fn.product (rows_at l.fn.trades (numbers_in (rest (list_of l.fn.lists.lists l.fn.product) (place_in l.at)))) l.fn.trades l.table;
}

abbrev pub decreases-loop-at : goal.decreases-loop-at
decreases-loop-at l = length (rest (list_of l.fn.lists.lists l.fn.product) (place_in l.at))
