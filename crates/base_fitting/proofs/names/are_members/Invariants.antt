use Rattle.std.proofs.Common.{◌≡◌, map, take}
use Rattle.command_types.specs.declared.roster.MemberRow.{MemberRow}
use Rattle.base_fitting.proofs.names.are_members.Given as goal

abbrev pub invariant-loop-i : goal.invariant-loop-i
invariant-loop-i l = take l.i l.names ≡ map (λ (row : MemberRow). row.name) (take l.i l.rows)
