use Rattle.std.proofs.Common.{◌≡◌, map, take}
use Rattle.command_types.specs.declared.roster.MemberRow.{MemberRow}
use Rattle.period_roll.proofs.names.member_names.Given as goal

abbrev pub invariant-loop-row : goal.invariant-loop-row
invariant-loop-row l = l.names.items ≡ map (λ (row : MemberRow). row.name) (take l.row-index l.rows)
