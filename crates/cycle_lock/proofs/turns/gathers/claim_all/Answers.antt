use Rattle.cycle_lock.specs.Passes.{lock_of}
use Rattle.publication_list.specs.Tokens.{claims, key_of}
use Rattle.cycle_lock.proofs.Ahead.{gathers_on}
use Rattle.cycle_lock.proofs.turns.gathers.claim_all.Goals as goal

pub loop-place-preserved : goal.loop-place-preserved
loop-place-preserved c = (
  c.claim_if.ensures.own,
  gathers_on (lock_of (key_of c.args.list.now).value) c.args.batch.now c.loop-place.batch c.claim_if.new.batch (claims c.args.clerk.now) (claims c.loop-place.clerk) (claims c.claim_if.new.clerk) c.loop-place.invariant.1 c.claim_if.ensures.gathers,
)
