use Rattle.std.proofs.Common.{◌∙◌, sym, subst, ap}
use Rattle.command_types.specs.Session.{Speaker, what_or_fault}
use Rattle.session.specs.Asks.{line_read}
use Rattle.session.specs.KeptDraft.{HasPotential}
use Rattle.session.specs.KeptSpeaker.{speaker_of}
use Rattle.session.specs.Serving.{of_pass, roster_of, AnswersRead}
use Rattle.session.proofs.GrammarFacts.{line_potential}
use Rattle.session.proofs.ReplyFacts.{is_read, answers_line, answers_memory, votes_none}
use Rattle.session.proofs.replies.reply_to.Goals as goal

pub ask-requires-clause-potential : goal.ask-requires-clause-potential
ask-requires-clause-potential g c = λ κs lives. subst HasPotential (sym (is_read c.args.line.now c.read_within-read.result c.read_within-read.ensures)) (line_potential c.args.line.now)

pub ask-requires-clause-what : goal.ask-requires-clause-what
ask-requires-clause-what g c = λ κs lives.
    c.in-Ok.ensures.what ∙ ap (λ rows. what_or_fault rows (speaker_of c.args.speaker.now).draft (line_read c.read_within-read.result)) c.requires
    ∙ ap (λ (speaker : Speaker). what_or_fault (roster_of (of_pass c.args.asker.now.pass)) speaker.draft (line_read c.read_within-read.result)) (sym c.prepare.ensures.same)

pub returns-in-Ok : goal.returns-in-Ok
returns-in-Ok g c =
    let old = of_pass c.args.asker.now.pass in
    let new = of_pass c.ask.new.asker.pass in
    let P : Speaker → Type 0 = λ speaker. AnswersRead (g.C.Clock.tells c.args.clock.now) old new speaker (speaker_of c.ask.new.speaker) (line_read c.read_within-read.result) c.ask.result in
    answers_line old new _ _ c.args.line.now c.read_within-read.result c.ask.result c.read_within-read.ensures (subst P c.prepare.ensures.same (c.ask.ensures _ c.moment_now-moment.ensures))

pub returns-in-Some : goal.returns-in-Some
returns-in-Some g c = answers_line _ _ _ _ c.args.line.now c.read_within-read.result c.answer_proposal.result c.read_within-read.ensures c.answer_proposal.ensures

pub returns-in-Err : goal.returns-in-Err
returns-in-Err g c =
    answers_line _ _ _ _ c.args.line.now c.read_within-read.result c.no_memory.result c.read_within-read.ensures
    (answers_memory (of_pass c.args.asker.now.pass) _ _ (line_read c.read_within-read.result) c.no_memory.result c.moment_now-moment.result c.moment_now-moment.ensures (votes_none (roster_of (of_pass c.args.asker.now.pass)) (speaker_of c.args.speaker.now).draft (line_read c.read_within-read.result) c.in-Err.ensures.other) (sym c.proposal_in.ensures ∙ c.in_default.is) c.no_memory.ensures c.prepare.ensures.same)
