use Rattle.session.proofs.AnsweredFacts as facts
use Rattle.session.proofs.laws.every_line_is_answered.Goals as goal

pub returns-clause-ended : goal.returns-clause-ended
returns-clause-ended c = facts.ended_answered

pub returns-clause-limit : goal.returns-clause-limit
returns-clause-limit c = facts.limited_answered
