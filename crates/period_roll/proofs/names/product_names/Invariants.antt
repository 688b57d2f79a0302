use Rattle.std.proofs.Common.{◌≡◌, map, take}
use Rattle.command_types.specs.declared.roster.ProductRow.{ProductRow}
use Rattle.period_roll.proofs.names.product_names.Given as goal

abbrev pub invariant-loop-row : goal.invariant-loop-row
invariant-loop-row l = l.names.items ≡ map (λ (row : ProductRow). row.name) (take l.row-index l.rows)
