use Rattle.std.proofs.Common.{rules}
use Rattle.claim_counter.proofs.ClaimSteps.{may_join}
use Rattle.claim_counter.proofs.workers.Counter.join.Goals as goal

pub join_seat-requires : goal.join_seat-requires
join_seat-requires c = (c.requires.own.0, c.requires.own.1, c.args.other.empty, search rules, may_join _ _ _ c.args.into.now.seat.me.0 c.args.other.seat.me.0 c.requires.parts)
