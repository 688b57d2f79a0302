use Rattle.std.proofs.Common.{◌≡◌, ◌++◌, take, drop}
use Rattle.command_types.specs.Plans.{thawed}
use Rattle.product_book.proofs.freezes.thaw.Given as goal

abbrev pub invariant-loop-row : goal.invariant-loop-row
invariant-loop-row l = l.rows ≡ thawed (take l.row-index l.initial.rows) ++ drop l.row-index l.initial.rows
