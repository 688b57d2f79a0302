use Rattle.std.proofs.Common.{arith, length}
use Rattle.units_core.proofs.AmountFacts.{room, amount_if}
use Rattle.units_core.proofs.amount.read_few_digits.Goals as goal

pub overflow_mul-value : goal.overflow_mul-value
overflow_mul-value c = omega (arith, room c.loop-byte.value c.loop-byte.byte-index (length c.args.text.now) c.loop-byte-test.true c.if-text-gt18.false c.loop-byte.invariant.few)

pub overflow_add-value : goal.overflow_add-value
overflow_add-value c =
    let digit = c.if-not-is_ascii_digit.ensures.bound in
    omega (arith, room c.loop-byte.value c.loop-byte.byte-index (length c.args.text.now) c.loop-byte-test.true c.if-text-gt18.false c.loop-byte.invariant.few)

pub returns : goal.returns
returns c =
    let text = c.args.text.now in
    let inv = c.loop-byte.invariant in
    rw c.new.ensures (amount_if text c.loop-byte.value c.loop-byte.byte-index (grind arith) c.loop-byte-test.false c.if-text-eq48.false inv.digits inv.value)
