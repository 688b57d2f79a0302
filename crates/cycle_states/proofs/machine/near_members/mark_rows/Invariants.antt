use Rattle.std.proofs.Common.{◌≤◌, drop, length}
use Rattle.cycle_states.specs.NearMembers.{AreMarks}
use Rattle.cycle_states.proofs.machine.near_members.mark_rows.Given as goal

abbrev pub invariant-loop-left : goal.invariant-loop-left
invariant-loop-left l = record {
  end : l.left ≤ length l.rows;
  marks : AreMarks (drop l.left l.rows) l.member l.sold l.bought;
}

abbrev pub decreases-loop-left : goal.decreases-loop-left
decreases-loop-left l = l.left
