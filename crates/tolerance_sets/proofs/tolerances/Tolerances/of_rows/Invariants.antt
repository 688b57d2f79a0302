use Rattle.std.proofs.Common.{◌≡◌, take}
use Rattle.tolerance_sets.proofs.tolerances.Tolerances.of_rows.Given as goal

abbrev pub invariant-loop-row : goal.invariant-loop-row
invariant-loop-row l = l.taken.settings ≡ take l.row-index l.rows
