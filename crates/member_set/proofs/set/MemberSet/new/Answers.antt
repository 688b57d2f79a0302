use Rattle.std.proofs.Common.{[], ◌∷◌}
use Rattle.member_set.specs.Members.{has}
use Rattle.member_set.proofs.Words.{four, none_in}
use Rattle.member_set.proofs.set.MemberSet.new.Goals as goal

pub returns : goal.returns
unfolding has
returns c = none_in (0 ∷ 0 ∷ 0 ∷ 0 ∷ []) (four (λ k. 0))
