use Rattle.std.proofs.Common.{◌∙◌, ◌+◌, ◌*◌, Option, Some, None, cond, sym, ap, arith}
use Rattle.units_core.specs.Day.{DayParts}
use Rattle.units_core.proofs.DayFacts.{day_read}
use Rattle.units_core.proofs.day.Day.read.Goals as goal

pub returns-then-not-found : goal.returns-then-not-found
returns-then-not-found c =
    sym (day_read c.args.text.now (100 * c.from.result + c.from-2.result) c.two_digits-month.result c.two_digits-day.result c.exists-found.result
    (sym c.is_form-in_form.ensures ∙ c.if-not-in_form.false) (omega arith) c.two_digits-month.ensures.value c.two_digits-day.ensures.value c.exists-found.ensures
    ∙ ap (λ b. cond {A = Option DayParts} b (Some (record { year = 100 * c.from.result + c.from-2.result; month = c.two_digits-month.result; day = c.two_digits-day.result })) None) c.if-not-found.true)

pub returns : goal.returns
returns c =
    sym (day_read c.args.text.now (100 * c.from.result + c.from-2.result) c.two_digits-month.result c.two_digits-day.result c.exists-found.result
    (sym c.is_form-in_form.ensures ∙ c.if-not-in_form.false) (omega arith) c.two_digits-month.ensures.value c.two_digits-day.ensures.value c.exists-found.ensures
    ∙ ap (λ b. cond {A = Option DayParts} b (Some (record { year = 100 * c.from.result + c.from-2.result; month = c.two_digits-month.result; day = c.two_digits-day.result })) None) c.if-not-found.false)
