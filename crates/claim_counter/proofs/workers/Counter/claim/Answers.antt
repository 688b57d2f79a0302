use Rattle.std.proofs.Common.{rules}
use Rattle.claim_counter.proofs.ClaimSteps.{may_claim}
use Rattle.claim_counter.proofs.workers.Counter.claim.Goals as goal

pub fetch_add-requires : goal.fetch_add-requires
fetch_add-requires c = (c.requires.own, search rules, may_claim _ _ _ c.args.by.now.seat.me c.requires.room.0 c.requires.room.1 c.args.self.now.counts.1)
