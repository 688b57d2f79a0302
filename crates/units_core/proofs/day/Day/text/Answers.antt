use Rattle.units_core.proofs.DayFacts.{day_named}
use Rattle.units_core.proofs.day.Day.text.Goals as goal

pub returns-clause-names_it : goal.returns-clause-names_it
returns-clause-names_it c = rw (← c.self.view_is) (day_named c.self.inside.year c.self.inside.month c.self.inside.day c.self.invariant.0 c.self.invariant.1)
