use Rattle.std.proofs.Common.{◌||◌, Bool, ap₂, ◌∙◌}
use Rattle.path_solver.proofs.layers.open_to.Goals as goal

pub returns : goal.returns
returns c u = c.or.ensures u ∙ ap₂ (λ (x y : Bool). x || y) (c.and-sellers.ensures u) (c.and-buyers.ensures u)
