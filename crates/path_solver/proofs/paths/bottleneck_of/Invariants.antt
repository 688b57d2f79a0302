use Rattle.path_solver.proofs.Bottlenecks.{IsNarrowest}
use Rattle.path_solver.proofs.paths.bottleneck_of.Given as goal

abbrev pub invariant-loop-place : goal.invariant-loop-place
invariant-loop-place l = IsNarrowest l.residual.flows l.arcs l.most l.amount l.turning l.place
