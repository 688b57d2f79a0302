use Rattle.cycle_lock.specs.Home.{of_desk}
use Rattle.cycle_lock.proofs.Opens.{opens}
use Rattle.cycle_lock.proofs.turns.Turns.new.Goals as goal

pub new-requires-2 : goal.new-requires-2
new-requires-2 g c = let p = c.length-at.ensures in
    rw (c.of-about.ensures, c.in_default-push.ensures.items, c.new-slots.ensures.items) (opens (of_desk g.T.Desk.history) (of_desk g.T.Desk.figures) (of_desk g.T.Desk.stopped) record { desk = c.args.desk; batch = c.in-Ok.batch } c.length-at.result p.length p.base p.legal c.requires)
