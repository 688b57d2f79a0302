use Rattle.std.proofs.Common.{arith}
use Rattle.member_set.specs.Members.{has}
use Rattle.member_set.proofs.Words.{taken_out}
use Rattle.member_set.proofs.set.MemberSet.drop_member.Goals as goal

pub returns : goal.returns
unfolding has
returns c = taken_out c.args.self.now.words c.args.member c.requires (omega arith)
