use Rattle.std.proofs.Common.{sym, ◌∙◌, ap}
use Rattle.command_types.specs.Session.{Speaker, what_or_fault}
use Rattle.command_types.specs.Roster.{Rows}
use Rattle.cycle_lock.specs.Passes.{seat_of}
use Rattle.session.specs.Asks.{line_read}
use Rattle.session.specs.KeptSpeaker.{speaker_of}
use Rattle.session.proofs.CommandFacts.{command_is}
use Rattle.session.proofs.session.Session.command_of.Goals as goal

pub returns-clause-command : goal.returns-clause-command
returns-clause-command g c =
    let speaker = speaker_of c.args.self.now.speaker in
    let read = c.read_within-read.result in
    command_is _ _ _ speaker c.args.line.now c.ended.result.now read c.in-Ok.what c.party-by.result c.seat.result c.moment_now-moment.result c.ended.ensures c.read_within-read.ensures (sym c.may_run.ensures ∙ c.if-not-may_run.false) (c.seat.ensures ∙ ap seat_of c.pass.ensures) c.moment_now-moment.ensures
    (c.party-by.ensures ∙ ap (λ (s : Speaker). s.party) c.prepare.ensures.same)
    (c.in-Ok.ensures.what ∙ ap (λ (rows : Rows). what_or_fault rows speaker.draft (line_read read)) c.args.self.now.own)
