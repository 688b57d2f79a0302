use Rattle.std.proofs.Common.{◌≡◌, ℕ, ◌<◌, length, get_or}
use Rattle.network_laws.specs.declared.rows.LimitRow.{LimitRow}
use Rattle.tolerance_sets.specs.OpenPairs.{boundless}
use Rattle.tolerance_sets.proofs.open_rows.OpenRows.of.Given as goal

abbrev pub invariant-loop-buyer : goal.invariant-loop-buyer
invariant-loop-buyer l = record {
  rows : (b : ℕ) (d : LimitRow) → b < length l.rows.items → get_or l.rows.items b d ≡ boundless 0 b;
  members : length l.rows.items ≡ l.buyer;
}
