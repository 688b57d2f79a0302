use Rattle.std.proofs.Common.{take}
use Rattle.parallel_solver.specs.Cuts.{AreCuts}
use Rattle.parallel_solver.proofs.pieces.cuts_of.Given as goal

abbrev pub invariant-loop-problem : goal.invariant-loop-problem
invariant-loop-problem l = AreCuts (take l.problem-index l.problems) l.cuts.items
