use Rattle.std.proofs.Common.{◌+◌, ◌≤◌, length, arith}
use Rattle.standby_wire.proofs.ReplyFacts.{record_off, record_on}
use Rattle.standby_wire.proofs.replies.record_at.Goals as goal

pub returns-in-Ok-clause-gives : goal.returns-in-Ok-clause-gives
returns-in-Ok-clause-gives c =
    let long : c.args.at.now + c.args.size ≤ length c.args.input.now = omega (arith, c.if-start-input.false, c.if-input-start.false) in
    record_on c.args.size c.args.input.now c.args.at.now long c.in-Ok.entry c.in-Ok.ensures.exact

pub returns-in-Err-BadRecord-clause-gives : goal.returns-in-Err-BadRecord-clause-gives
returns-in-Err-BadRecord-clause-gives c =
    let long : c.args.at.now + c.args.size ≤ length c.args.input.now = omega (arith, c.if-start-input.false, c.if-input-start.false) in
    record_off c.args.size c.args.input.now c.args.at.now long c.in-Err-BadRecord.field-0 c.in-Err-BadRecord.field-0-0 c.in-Err-BadRecord.field-0-is c.in-Err-BadRecord.ensures.exact
