use Rattle.member_set.specs.Members.{has}
use Rattle.member_set.proofs.Words.{tested}
use Rattle.member_set.proofs.set.MemberSet.has.Goals as goal

pub returns : goal.returns
unfolding has
returns c = tested c.args.self.now.words c.args.member c.requires
