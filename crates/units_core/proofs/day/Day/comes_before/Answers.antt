use Rattle.std.proofs.Common.{rules}
use Rattle.units_core.proofs.DayOrder.{before_by_day_number}
use Rattle.units_core.proofs.day.Day.comes_before.Goals as goal

pub returns : goal.returns
returns c =
    before_by_day_number c.args.self c.args.other c.date.result c.date-2.result c.lt.result
    (record { year = c.date.ensures.year; month = c.date.ensures.month; day = c.date.ensures.day })
    (record { year = c.date-2.ensures.year; month = c.date-2.ensures.month; day = c.date-2.ensures.day })
    (search rules)
