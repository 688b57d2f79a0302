use Rattle.std.proofs.Common.{◌≡◌, subst, take, arith}
use Rattle.units_core.specs.Number.{value_of}
use Rattle.units_core.proofs.AmountFacts.{room}
use Rattle.trade_file.proofs.plain_row.read_digits.Goals as goal

pub overflow_mul-value : goal.overflow_mul-value
overflow_mul-value c =
    let few = c.min-most.ensures in
    omega (arith, room c.loop-at.value c.loop-at.at c.min-most.result c.loop-at-test.true (omega (arith, few)) c.loop-at.invariant.few)

pub overflow_add-value : goal.overflow_add-value
overflow_add-value c =
    let few = c.min-most.ensures in
    let digit = c.if-not-is_ascii_digit.ensures.bound in
    omega (arith, room c.loop-at.value c.loop-at.at c.min-most.result c.loop-at-test.true (omega (arith, few)) c.loop-at.invariant.few)

pub returns-clause-value : goal.returns-clause-value
returns-clause-value c =
    let same : c.loop-at.at ≡ c.min-most.result = omega arith in
    subst (λ n. c.loop-at.value ≡ value_of (take n c.args.text.now)) same c.loop-at.invariant.value

pub returns-clause-digits : goal.returns-clause-digits
returns-clause-digits c = λ k lt. c.loop-at.invariant.digits k (omega arith)
