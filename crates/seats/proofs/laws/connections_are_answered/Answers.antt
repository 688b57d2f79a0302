use Rattle.seats.proofs.AnsweredFacts as facts
use Rattle.seats.proofs.laws.connections_are_answered.Goals as goal

pub returns : goal.returns
returns c = facts.connections_are_answered
