use Rattle.standby.proofs.EndFacts.{declines_of}
use Rattle.standby.proofs.follow.take.Goals as goal

pub returns-clause-declines : goal.returns-clause-declines
returns-clause-declines g c =
    declines_of _ _ c.args.due c.args.entry _ c.call-reply.ensures.calls _ c.untaken.ensures.made c.untaken.ensures.tells
