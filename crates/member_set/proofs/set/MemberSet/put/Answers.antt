use Rattle.std.proofs.Common.{arith}
use Rattle.member_set.specs.Members.{has}
use Rattle.member_set.proofs.Words.{put_in}
use Rattle.member_set.proofs.set.MemberSet.put.Goals as goal

pub returns : goal.returns
unfolding has
returns c = put_in c.args.self.now.words c.args.member c.requires (omega arith)
