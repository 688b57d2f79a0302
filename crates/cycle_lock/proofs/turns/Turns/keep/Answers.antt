use Rattle.std.proofs.Common.{rules}
use Rattle.cycle_lock.specs.Home.{of_desk}
use Rattle.cycle_lock.proofs.Guests.{keeps_own}
use Rattle.cycle_lock.proofs.turns.Turns.keep.Goals as goal

pub fetch_add-requires : goal.fetch_add-requires
fetch_add-requires g c = let r = c.requires in let n = r.next in
    (search rules, search rules, keeps_own (of_desk g.T.Desk.history) (of_desk g.T.Desk.figures) (of_desk g.T.Desk.stopped) _ _ _ _ g.M.Next.next n.0 n.1 n.2 _ n.3 r.turn n.4 n.5)
