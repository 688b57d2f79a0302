use Rattle.std.proofs.Common.{refl, arith}
use Rattle.book_tests.proofs.Changes.{lead_none, lead_on, young_led}
use Rattle.book_tests.proofs.machine.taking_back.goes.Goals as goal

pub loop-round-init : goal.loop-round-init
loop-round-init c = lead_none 0 _ _ refl

pub takes-requires : goal.takes-requires
takes-requires c =
    let few = c.loop-round-test.true in
    young_led c.loop-round.round-index _ _ c.requires.small (omega (arith, few, c.requires.few)) c.loop-round.invariant

pub loop-round-preserved : goal.loop-round-preserved
loop-round-preserved c = lead_on c.loop-round.round-index _ _ _ c.loop-round.invariant c.in_ok-takes.ensures
