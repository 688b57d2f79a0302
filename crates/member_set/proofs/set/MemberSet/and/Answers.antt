use Rattle.member_set.specs.Members.{has}
use Rattle.member_set.proofs.Words.{anded}
use Rattle.member_set.proofs.set.MemberSet.and.Goals as goal

pub returns : goal.returns
unfolding has
returns c = anded c.args.self.now.words c.args.other.now.words
