use Rattle.compress_server.proofs.CancelFacts as facts
use Rattle.compress_server.proofs.laws.cancels_end_cycles.Goals as goal

pub returns : goal.returns
returns c = facts.cancels_end_cycles
