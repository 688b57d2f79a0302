use Rattle.std.proofs.Common.{◌∙◌, arith}
use Rattle.standby_wire.specs.Replied.{HearingView, hearing_over}
use Rattle.standby_wire.specs.declared.inbox.WaitFault.TheVariants.{SourceFault}
use Rattle.standby_wire.specs.declared.reply.Question.TheVariants.{Hello}
use Rattle.standby_link.proofs.WireFacts.{heard_fault, heard_none}
use Rattle.standby_link.proofs.following.greet.Goals as goal

pub returns-in-Err-SourceFault-clause-why : goal.returns-in-Err-SourceFault-clause-why
returns-in-Err-SourceFault-clause-why g c =
    let flow = g.S.Source.flow in
    let faults = g.S.Source.faults in
    let question = Hello c.args.login.now.name in
    let old : HearingView = hearing_over c.args.hearing.now (flow c.args.source.now) (faults c.args.source.now) in
    let new : HearingView = hearing_over c.ask.new.self (flow c.ask.new.source) (faults c.ask.new.source) in
    let heard = rw c.in-Err-SourceFault.field-0-is at c.in-Err-SourceFault.ensures.hears in (
      heard_none question old new SourceFault heard ∙ c.requires.fresh,
      heard_fault question old new c.ask.ensures.same (omega (arith, c.requires.counted)) heard,
    )
