use Rattle.std.proofs.Common.{◌≡◌, length}
use Rattle.cycle_states.specs.Frozen.{AreFrozenOf}
use Rattle.cycle_states.proofs.machine.frozen.frozen_products.Given as goal

abbrev pub invariant-loop-product : goal.invariant-loop-product
invariant-loop-product l = (length l.kept.items ≡ l.product) × AreFrozenOf l.book.members l.book.rows l.kept.items
