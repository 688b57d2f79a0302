use Rattle.std.proofs.Common.{◌≡◌, ◌<◌, ◌∙◌, sym, inl, inr, length, take, get_or, arith}
use Rattle.std.proofs.lemmas.List.{drop_all, take_all, take_rest}
use Rattle.trade_file.proofs.PlainReadFacts.{cut_behind}
use Rattle.trade_file.proofs.PlainTradeFacts.{front_amount}
use Rattle.trade_file.proofs.plain_row.cut_amount.Goals as goal

pub returns-then-size-text : goal.returns-then-size-text
returns-then-size-text c =
    let text = c.args.text.now in
    let read = c.read_digits-digits.ensures in
    let size = c.read_digits-digits.result.1 in
    let some : 0 < size = omega (arith, c.if-size-eq0.false) in
    let whole : size ≡ length text = c.if-size-text.true in (
      take size text,
      front_amount text size c.read_digits-digits.result.0 c.in-Some.amount some read.within c.if-text-eq48.false read.digits read.value (sym c.in-Some.is ∙ c.new.ensures),
      inl (sym (take_all size text (omega (arith, whole))), take_rest text size ∙ drop_all size text (omega (arith, whole))),
    )

pub returns-then-ends_line : goal.returns-then-ends_line
returns-then-ends_line c =
    let text = c.args.text.now in
    let read = c.read_digits-digits.ensures in
    let size = c.read_digits-digits.result.1 in
    let some : 0 < size = omega (arith, c.if-size-eq0.false) in
    let within : size < length text = omega (arith, read.within, c.if-size-text.false) in (
      take size text,
      front_amount text size c.read_digits-digits.result.0 c.in-Some.amount some read.within c.if-text-eq48.false read.digits read.value (sym c.in-Some.is ∙ c.new.ensures),
      inr (get_or text size 0, sym c.if-ends_line.ensures, cut_behind text size within),
    )
