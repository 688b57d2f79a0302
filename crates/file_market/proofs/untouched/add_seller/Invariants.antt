use Rattle.std.proofs.Common.{◌≡◌, ◌-◌, ◌≤◌, ◌++◌, length}
use Rattle.command_types.specs.Books.{listed_below}
use Rattle.file_market.specs.Untouched.{IsAtPlace, seller_row}
use Rattle.file_market.proofs.untouched.add_seller.Given as goal

abbrev pub invariant-loop-row : goal.invariant-loop-row
invariant-loop-row l = record {
  seller : l.at.seller ≡ l.fn.seller;
  end : l.at.buyer ≤ l.fn.members;
  place : IsAtPlace l.fn.network l.at;
  rows : l.rows.items ≡ l.initial.rows.items ++ listed_below l.at.buyer (seller_row l.fn.buyers l.fn.network l.fn.seller);
}

abbrev pub decreases-loop-row : goal.decreases-loop-row
decreases-loop-row l = length l.fn.network - l.at.row_at
