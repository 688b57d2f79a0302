use Rattle.std.proofs.Common.{◌≡◌, ℕ, ◌<◌, ◌≤◌, length, get_or, take, sum_by}
use Rattle.network_laws.specs.declared.rows.Row.{Row}
use Rattle.net_positions.specs.Tables.{unmatched_part}
use Rattle.net_positions.specs.Cursors.{AreCursors}
use Rattle.net_positions.proofs.bilateral.bilateral_gross.Given as goal

abbrev pub invariant-loop-row : goal.invariant-loop-row
invariant-loop-row l = record {
  sum : l.sum ≡ sum_by (unmatched_part l.network) (take l.row-index l.network.rows);
  cursors : (k : ℕ) (d : Row) → l.row-index ≤ k → k < length l.rows → AreCursors l.rows l.cursors (get_or l.rows k d).seller;
}
