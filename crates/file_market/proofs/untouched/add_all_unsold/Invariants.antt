use Rattle.std.proofs.Common.{◌≡◌, ◌-◌, ◌≤◌, ◌++◌, []}
use Rattle.tolerance_sets.specs.OpenPairs.{listed_from}
use Rattle.file_market.specs.Untouched.{seller_row}
use Rattle.file_market.proofs.untouched.add_all_unsold.Given as goal

abbrev pub invariant-loop-buyer : goal.invariant-loop-buyer
invariant-loop-buyer l = record {
  from : l.fn.from.buyer ≤ l.buyer;
  to : l.buyer ≤ l.fn.to;
  rows : l.rows.items ≡ l.initial.rows.items ++ listed_from l.fn.from.buyer (l.buyer - l.fn.from.buyer) (seller_row l.fn.buyers [] l.fn.from.seller);
}
