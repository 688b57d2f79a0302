use Rattle.std.proofs.Common.{◌≡◌, map, take}
use Rattle.path_solver.specs.Prices.{first_price}
use Rattle.path_solver.proofs.direct.first_prices.Given as goal

abbrev pub invariant-loop-amount : goal.invariant-loop-amount
invariant-loop-amount l = l.prices.items ≡ map first_price (take l.amount-index l.lack)
