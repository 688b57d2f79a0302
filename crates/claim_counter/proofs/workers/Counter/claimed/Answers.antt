use Rattle.std.proofs.Common.{rules}
use Rattle.claim_counter.proofs.ClaimSteps.{may_know}
use Rattle.claim_counter.proofs.workers.Counter.claimed.Goals as goal

pub load-requires : goal.load-requires
load-requires c = (c.requires, search rules, may_know _ _ _ c.args.by.now.seat.me)
