use Rattle.publication_list.specs.Tokens.{claims}
use Rattle.cycle_lock.specs.Turn.{IsFirst}
use Rattle.cycle_lock.proofs.turns.Turns.serve_one.Given as goal

abbrev pub ghosts-serve_next : goal.ghosts-serve_next
ghosts-serve_next g a = record { next = IsFirst g.T.Desk.history g.T.Desk.figures g.T.Desk.stopped a.seat.now.me a.home.now (claims a.clerk.now) }
