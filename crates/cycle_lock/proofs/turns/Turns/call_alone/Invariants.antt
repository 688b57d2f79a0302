use Rattle.cycle_lock.specs.Home.{of_desk}
use Rattle.cycle_lock.specs.Plays.{log_in, stop_in}
use Rattle.cycle_lock.proofs.turns.Turns.call_alone.Given as goal

abbrev pub ghosts-note : goal.ghosts-note
ghosts-note g a = record { log = log_in (of_desk g.T.Desk.history) a.seat.now.me.1; stop = stop_in (of_desk g.T.Desk.stopped) a.seat.now.me.1 }
