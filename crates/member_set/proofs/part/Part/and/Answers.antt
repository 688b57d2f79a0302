use Rattle.member_set.specs.Members.{has, has_in}
use Rattle.member_set.proofs.Parts.{both_in}
use Rattle.member_set.proofs.part.Part.and.Goals as goal

pub returns-clause-members : goal.returns-clause-members
unfolding has_in
returns-clause-members c m = both_in c.args.self.now c.part-other.result (has c.args.set.now) c.part-other.ensures.place c.part-other.ensures.members m
