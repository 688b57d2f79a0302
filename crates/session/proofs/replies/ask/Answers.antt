use Rattle.std.proofs.Common.{◌≡◌, subst, rules}
use Rattle.command_types.specs.declared.ask.Ask.{Ask}
use Rattle.session.specs.Asks.{line_read}
use Rattle.session.specs.KeptSpeaker.{speaker_of}
use Rattle.session.specs.Serving.{of_pass, roster_of, ask_read, Asks}
use Rattle.session.proofs.NotedFacts.{may_note}
use Rattle.session.proofs.ReplyFacts.{answers_one, every, every_time}
use Rattle.session.proofs.replies.ask.Goals as goal

pub hear-requires-clause-fits : goal.hear-requires-clause-fits
hear-requires-clause-fits g c = λ size e.
    let old = of_pass c.args.asker.now.pass in
    let new = of_pass c.ask-reply.new.self.pass in
    let speaker = speaker_of c.args.speaker.now in
    let read = line_read c.args.read.now in
    let asked : record { by = c.party-by.result; what = c.args.what; moment = c.args.moment } ≡ ask_read (roster_of old) speaker read c.args.moment = λ i. record { by = c.party-by.ensures i; what = c.requires.what i; moment = c.args.moment } in
    let T : Ask → Type 0 = λ ask. Asks every old new ask c.ask-reply.result in
    let a = (subst T asked (c.ask-reply.ensures every (every_time c.args.moment (search rules)))).asked in
    may_note old.seat.figures a.before new.stopped new.history old.seat.number (roster_of old) speaker read c.args.moment c.ask-reply.result size c.requires.potential a.told e

pub returns : goal.returns
returns g c = λ clock time.
    let rows = roster_of (of_pass c.args.asker.now.pass) in
    let speaker = speaker_of c.args.speaker.now in
    let read = line_read c.args.read.now in
    let asked : record { by = c.party-by.result; what = c.args.what; moment = c.args.moment } ≡ ask_read rows speaker read c.args.moment = λ i. record { by = c.party-by.ensures i; what = c.requires.what i; moment = c.args.moment } in
    answers_one _ _ _ _ read _ c.ask-reply.result c.requires.one asked (c.ask-reply.ensures clock time) c.hear.ensures
