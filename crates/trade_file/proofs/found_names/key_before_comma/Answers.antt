use Rattle.std.proofs.Common.{arith}
use Rattle.trade_file.proofs.FoundFacts.{key_room}
use Rattle.trade_file.proofs.found_names.key_before_comma.Goals as goal

pub overflow_mul-key : goal.overflow_mul-key
overflow_mul-key c = omega (arith, key_room c.loop-at.key c.loop-at.at c.min-most.result c.loop-at-test.true (omega (arith, c.min-most.ensures)) c.loop-at.invariant.few)

pub overflow_add-key : goal.overflow_add-key
overflow_add-key c = omega (arith, c.type_inv.text c.loop-at.at, key_room c.loop-at.key c.loop-at.at c.min-most.result c.loop-at-test.true (omega (arith, c.min-most.ensures)) c.loop-at.invariant.few)
