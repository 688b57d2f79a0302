use Rattle.std.proofs.Common.{ℕ}
use Rattle.member_set.specs.Members.{size}
use Rattle.path_solver.proofs.NotedAlong.{IsNotedTo}
use Rattle.path_solver.proofs.Resumed.{AreLeftOpen}
use Rattle.path_solver.proofs.paths.push_noting.Given as goal

abbrev pub invariant-places : goal.invariant-places
invariant-places g l = (m : ℕ) × IsNotedTo l.fn.found.amount l.fn.residual l.path l.left l.neighbours m × AreLeftOpen l.fn.found.amount l.fn.residual.flows l.path l.behind m

abbrev pub decreases-places : goal.decreases-places
decreases-places g l = size l.left
