use Rattle.std.proofs.Common.{map}
use Rattle.command_types.proofs.StampFacts.{StampedTo}
use Rattle.command_types.proofs.name_index.NameIndex.of_products.Given as goal

abbrev pub invariant-loop-place : goal.invariant-loop-place
invariant-loop-place l = StampedTo l.place (map (λ row. row.name) l.rows) l.index
