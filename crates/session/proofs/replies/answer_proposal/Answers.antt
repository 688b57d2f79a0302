use Rattle.session.specs.Asks.{line_read}
use Rattle.session.specs.KeptSpeaker.{speaker_of}
use Rattle.session.proofs.ReplyFacts.{answers_many, notes_nothing, needs_no_room}
use Rattle.session.proofs.replies.answer_proposal.Goals as goal

pub hear-requires-clause-room : goal.hear-requires-clause-room
hear-requires-clause-room g c = needs_no_room c.args.speaker.now.draft c.args.read.now c.args.proposed.0 c.args.proposed.1 c.requires

pub hear-requires-clause-fits : goal.hear-requires-clause-fits
hear-requires-clause-fits g c = λ size e. notes_nothing (speaker_of c.args.speaker.now).draft (line_read c.args.read.now) c.args.proposed.0 c.args.proposed.1 c.requires

pub returns : goal.returns
returns g c = answers_many _ _ _ _ (line_read c.args.read.now) _ c.args.proposed.0 c.args.proposed.1 _ c.requires c.party-by.ensures c.propose-reply.ensures c.hear.ensures
