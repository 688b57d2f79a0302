use Rattle.std.proofs.Common.{arith}
use Rattle.std.specs.Option.{option_to_list}
use Rattle.command_types.specs.MemberProofs.{potential_row}
use Rattle.tolerance_sets.proofs.Walk.{one_more}
use Rattle.cycle_states.specs.MemberProofs.{part_in}
use Rattle.cycle_states.proofs.machine.near_members.add_potentials.Goals as goal

pub loop-other-preserved : goal.loop-other-preserved
loop-other-preserved c =
    one_more c.loop-other.other (potential_row (part_in c.args.part.now) c.args.member) c.args.rows.now.items c.loop-other.rows.items c.add_row.new.rows.items (option_to_list c.potential_row.result) c.loop-other.invariant c.in_ok-add_row.ensures c.potential_row.ensures

pub potential_row-requires-clause-place : goal.potential_row-requires-clause-place
potential_row-requires-clause-place c = omega (arith, c.loop-other-test.true, c.members-other-end.ensures.value, c.members-other-end.ensures.network.few)
