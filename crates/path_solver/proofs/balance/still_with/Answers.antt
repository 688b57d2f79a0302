use Rattle.std.proofs.Common.{arith}
use Rattle.member_set.proofs.Parts.{member_small}
use Rattle.path_solver.proofs.balance.still_with.Goals as goal

pub drop_member-requires : goal.drop_member-requires
drop_member-requires c = member_small c.args.members c.in-Some.member (c.loop-member.invariant.left c.in-Some.member c.in-Some.ensures.member)

pub returns : goal.returns
returns c v = (
  λ on. c.loop-place.invariant.done v on (omega (arith, member_small c.args.members v (c.loop-place.invariant.within v on), c.loop-place-test.false)),
  c.loop-place.invariant.kept v,
)
