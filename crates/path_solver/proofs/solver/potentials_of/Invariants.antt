use Rattle.std.proofs.Common.{◌≡◌, take}
use Rattle.path_solver.specs.Prices.{potentials}
use Rattle.path_solver.proofs.solver.potentials_of.Given as goal

abbrev pub invariant-loop-price : goal.invariant-loop-price
invariant-loop-price l = l.potentials.items ≡ potentials (take l.price-index l.prices)
