use Rattle.std.proofs.Common.{◌≡◌, ◌++◌, take}
use Rattle.std.specs.List.{flat_map}
use Rattle.command_types.specs.Spelling.{row_spelling}
use Rattle.record_codec.proofs.put_solution.put_rows.Given as goal

abbrev pub invariant-loop-row : goal.invariant-loop-row
invariant-loop-row l = l.out.items ≡ l.fn.out.items ++ flat_map row_spelling (take l.row-index l.rows)
