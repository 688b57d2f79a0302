use Rattle.std.proofs.Common.{◌+◌, ◌≤◌, length, sym, ◌∙◌, arith}
use Rattle.standby_wire.proofs.WordFacts.{day_off, day_on}
use Rattle.standby_wire.proofs.words.day.Goals as goal

pub returns-in-None : goal.returns-in-None
returns-in-None c =
    let long : c.args.at.now + 10 ≤ length c.args.input.now = omega (arith, c.if-start-input.false, c.if-input-start-lt10.false) in
    day_off c.args.input.now c.args.at.now long (sym c.read.ensures ∙ c.in-None.is)

pub returns-in-Some : goal.returns-in-Some
returns-in-Some c =
    let long : c.args.at.now + 10 ≤ length c.args.input.now = omega (arith, c.if-start-input.false, c.if-input-start-lt10.false) in
    day_on c.args.input.now c.args.at.now long c.in-Some.field-0 (sym c.read.ensures ∙ c.in-Some.is)
