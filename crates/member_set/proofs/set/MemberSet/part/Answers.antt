use Rattle.member_set.specs.Members.{has, has_in}
use Rattle.member_set.proofs.Parts.{in_part}
use Rattle.member_set.proofs.set.MemberSet.part.Goals as goal

pub returns-clause-members : goal.returns-clause-members
unfolding has has_in
returns-clause-members c m = in_part c.args.self.now.words c.args.place c.requires m
