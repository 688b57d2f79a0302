use Rattle.member_set.specs.Members.{has}
use Rattle.member_set.proofs.Words.{ored}
use Rattle.member_set.proofs.set.MemberSet.or.Goals as goal

pub returns : goal.returns
unfolding has
returns c = ored c.args.self.now.words c.args.other.now.words
