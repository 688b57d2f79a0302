use Rattle.std.proofs.Common.{arith}
use Rattle.residual_graph.proofs.Kept.{few_pairs}
use Rattle.residual_graph.proofs.residual.Residual.arcs.Goals as goal

pub overflow_cast-result : goal.overflow_cast-result
overflow_cast-result c = omega (arith, few_pairs _ c.self.invariant)

pub overflow_mul-result : goal.overflow_mul-result
overflow_mul-result c = omega (arith, few_pairs _ c.self.invariant)
