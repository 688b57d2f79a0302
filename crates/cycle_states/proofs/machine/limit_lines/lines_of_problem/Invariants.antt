use Rattle.std.proofs.Common.{◌≡◌}
use Rattle.command_types.specs.Books.{listed_below}
use Rattle.command_types.specs.Cycles.{limit_line}
use Rattle.cycle_states.proofs.machine.limit_lines.lines_of_problem.Given as goal

abbrev pub invariant-loop-seller : goal.invariant-loop-seller
invariant-loop-seller l = l.lines.items ≡ listed_below l.seller (λ i. listed_below l.members (limit_line l.problem i))
