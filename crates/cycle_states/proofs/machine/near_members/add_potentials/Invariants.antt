use Rattle.std.proofs.Common.{◌≡◌, ◌++◌}
use Rattle.command_types.specs.Books.{listed_below}
use Rattle.command_types.specs.MemberProofs.{potential_row}
use Rattle.cycle_states.specs.MemberProofs.{part_in}
use Rattle.cycle_states.proofs.machine.near_members.add_potentials.Given as goal

abbrev pub invariant-loop-other : goal.invariant-loop-other
invariant-loop-other l =
    l.rows.items ≡ l.initial.rows.items ++ listed_below l.other (potential_row (part_in l.part) l.member)
