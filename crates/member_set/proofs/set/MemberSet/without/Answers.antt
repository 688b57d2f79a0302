use Rattle.std.proofs.Common.{rules}
use Rattle.member_set.specs.Members.{has}
use Rattle.member_set.proofs.Words.{rested}
use Rattle.member_set.proofs.set.MemberSet.without.Goals as goal

pub returns : goal.returns
unfolding has
returns c = rested c.args.self.now.words c.args.other.now.words (λ k. search rules)
