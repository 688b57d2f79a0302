use Rattle.std.proofs.Common.{List, subst, sym}
use Rattle.split_parts.specs.Parts.{PartitionData}
use Rattle.parallel_solver.specs.Cuts.{AreCuts}
use Rattle.parallel_solver.proofs.workers.Workers.solve_all.Goals as goal

pub of-requires : goal.of-requires
of-requires g c = subst (λ (cuts : List PartitionData). AreCuts c.args.problems.now cuts) (sym c.deref.ensures.value) c.in_ok-cuts.ensures
