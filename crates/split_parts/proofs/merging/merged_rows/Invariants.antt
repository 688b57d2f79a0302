use Rattle.std.proofs.Common.{◌≡◌, ◌++◌, drop}
use Rattle.split_parts.specs.Merged.{rows_of}
use Rattle.split_parts.proofs.merging.merged_rows.Given as goal

abbrev pub invariant-loop-at : goal.invariant-loop-at
invariant-loop-at l = l.rows.items ++ rows_of (drop l.at l.parts) (drop l.at l.solutions) ≡ rows_of l.parts l.solutions
