use Rattle.std.proofs.Common.{arith}
use Rattle.journal_core.proofs.FoldFacts.{to_front}
use Rattle.journal_core.proofs.form.Form.body_place.Goals as goal

pub returns-in-Slots : goal.returns-in-Slots
returns-in-Slots c = to_front c.args.self c.in-Slots.selected c.in-Slots.offset c.args.end c.args.size c.in-Slots.is (omega (arith, c.if-size-offset.true))
