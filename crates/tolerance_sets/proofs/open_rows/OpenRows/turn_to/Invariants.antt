use Rattle.std.proofs.Common.{◌≡◌, ℕ, ◌<◌, ◌≤◌, length, get_or}
use Rattle.network_laws.specs.declared.rows.LimitRow.{LimitRow}
use Rattle.tolerance_sets.specs.OpenPairs.{boundless}
use Rattle.tolerance_sets.proofs.open_rows.OpenRows.turn_to.Given as goal

-- the rows so far are the new seller's, and those that are left the old one's
abbrev pub invariant-loop-row : goal.invariant-loop-row
invariant-loop-row l = record {
  turned : (b : ℕ) (d : LimitRow) → b < l.row-index → get_or l.row-items b d ≡ boundless l.seller b;
  left : (b : ℕ) (d : LimitRow) → l.row-index ≤ b → b < length l.row-items → get_or l.row-items b d ≡ boundless l.fn.self.seller b;
}
