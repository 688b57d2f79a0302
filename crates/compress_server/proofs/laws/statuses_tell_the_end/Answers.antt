use Rattle.compress_server.proofs.StatusFacts as facts
use Rattle.compress_server.proofs.laws.statuses_tell_the_end.Goals as goal

pub returns : goal.returns
returns c = facts.statuses_tell_the_end
