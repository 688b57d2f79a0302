use Rattle.std.proofs.Common.{refl, arith}
use Rattle.book_tests.proofs.Changes.{lead_none, lead_on, young_led}
use Rattle.book_tests.proofs.machine.open_cycles.goes.Goals as goal

pub loop-turn-init : goal.loop-turn-init
loop-turn-init c = lead_none 0 _ _ refl

pub takes-requires : goal.takes-requires
takes-requires c =
    let few = c.loop-turn-test.true in
    young_led c.loop-turn.turn-index _ _ c.requires.small (omega (arith, few, c.requires.few)) c.loop-turn.invariant

pub loop-turn-preserved : goal.loop-turn-preserved
loop-turn-preserved c = lead_on c.loop-turn.turn-index _ _ _ c.loop-turn.invariant c.in_ok-takes.ensures
