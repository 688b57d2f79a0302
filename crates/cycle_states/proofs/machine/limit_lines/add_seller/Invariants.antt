use Rattle.std.proofs.Common.{◌≡◌, ◌++◌}
use Rattle.command_types.specs.Books.{listed_below}
use Rattle.command_types.specs.Cycles.{limit_line}
use Rattle.cycle_states.proofs.machine.limit_lines.add_seller.Given as goal

abbrev pub invariant-loop-buyer : goal.invariant-loop-buyer
invariant-loop-buyer l = l.lines.items ≡ l.initial.lines.items ++ listed_below l.buyer (limit_line l.problem l.seller)
