use Rattle.std.proofs.Common.{rules}
use Rattle.claim_counter.proofs.ClaimSteps.{may_split}
use Rattle.claim_counter.proofs.workers.Counter.split.Goals as goal

pub split_seat-requires : goal.split_seat-requires
split_seat-requires c = (c.requires.own, search rules, may_split _ _ c.args.of.now.seat.me.0 c.requires.parts.0 c.requires.parts.1)
