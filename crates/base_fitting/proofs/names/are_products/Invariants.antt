use Rattle.std.proofs.Common.{◌≡◌, map, take}
use Rattle.command_types.specs.declared.roster.ProductRow.{ProductRow}
use Rattle.base_fitting.proofs.names.are_products.Given as goal

abbrev pub invariant-loop-i : goal.invariant-loop-i
invariant-loop-i l = take l.i l.names ≡ map (λ (row : ProductRow). row.name) (take l.i l.rows)
