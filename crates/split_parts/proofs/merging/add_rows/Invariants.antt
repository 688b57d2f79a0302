use Rattle.std.proofs.Common.{◌≡◌, ◌++◌, map, take}
use Rattle.split_parts.specs.Merged.{named}
use Rattle.split_parts.proofs.merging.add_rows.Given as goal

abbrev pub invariant-loop-row : goal.invariant-loop-row
invariant-loop-row l = l.rows.items ≡ l.initial.rows.items ++ map (named l.part) (take l.row-index l.own)
