use Rattle.std.proofs.Common.{arith}
use Rattle.network_laws.proofs.Figures.{sum_below-more}
use Rattle.net_positions.specs.Tables.{positive_at}
use Rattle.net_positions.proofs.positions.positive_sum.Goals as goal

pub overflow_add-sum : goal.overflow_add-sum
overflow_add-sum c =
    omega (arith, sum_below-more c.args.members c.loop-member.member (positive_at c.args.sold.now c.args.bought.now) c.loop-member-test.true, c.requires.fits)
