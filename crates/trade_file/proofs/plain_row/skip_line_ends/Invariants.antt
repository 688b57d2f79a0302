use Rattle.std.proofs.Common.{◌≡◌, drop}
use Rattle.trade_file.specs.PlainRow.{first_record}
use Rattle.trade_file.proofs.plain_row.skip_line_ends.Given as goal

abbrev pub invariant-loop-at : goal.invariant-loop-at
invariant-loop-at l = first_record (drop l.at l.text) ≡ first_record l.text
