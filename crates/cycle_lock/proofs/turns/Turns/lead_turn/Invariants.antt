use Rattle.publication_list.specs.Tokens.{claims}
use Rattle.cycle_lock.specs.Turn.{IsOwnFirst}
use Rattle.cycle_lock.proofs.turns.Turns.lead_turn.Given as goal

abbrev pub ghosts-note_own : goal.ghosts-note_own
ghosts-note_own g a = record { next = IsOwnFirst g.T.Desk.history g.T.Desk.figures g.T.Desk.stopped a.seat.now.me a.home.now a.own.now.value (claims a.clerk.now) }
