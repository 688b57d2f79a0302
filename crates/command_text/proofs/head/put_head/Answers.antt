use Rattle.std.proofs.Common.{refl}
use Rattle.command_text.proofs.HeadFacts.{ok_head}
use Rattle.command_text.proofs.head.put_head.Goals as goal

pub returns-clause-text : goal.returns-clause-text
returns-clause-text c =
    ok_head c.args.roster.now c.args.reply.now.at c.args.reply.now.answer _ _ _ _ c.in_default.not-No refl c.put_told-end-2.ensures.text (c.put_answer-end.ensures.text c.args.roster.now) c.put-2.ensures.text
