use Rattle.compress_server.proofs.CompleteFacts as facts
use Rattle.compress_server.proofs.laws.answers_what_it_can.Goals as goal

pub returns : goal.returns
returns g c = facts.answers_what_it_can g.L.Door.Door.visits
