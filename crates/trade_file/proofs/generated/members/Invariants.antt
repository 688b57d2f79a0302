use Rattle.std.proofs.Common.{◌≡◌}
use Rattle.trade_file.specs.Generated.{first_members}
use Rattle.trade_file.proofs.generated.members.Given as goal

abbrev pub invariant-loop-member : goal.invariant-loop-member
invariant-loop-member l = l.members.items ≡ first_members l.member
