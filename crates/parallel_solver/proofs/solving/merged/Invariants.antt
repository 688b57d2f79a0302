use Rattle.std.proofs.Common.{take, drop}
use Rattle.network_laws.specs.Solved.{AreSolved}
use Rattle.parallel_solver.specs.Cuts.{pieces_of}
use Rattle.parallel_solver.proofs.solving.merged.Given as goal

abbrev pub invariant-loop-at : goal.invariant-loop-at
invariant-loop-at l = record {
  merged : AreSolved (take l.at l.problems) l.merged.items;
  left : AreSolved (pieces_of (drop l.at l.problems) (drop l.at l.cuts)) l.solutions.rest.items;
}
