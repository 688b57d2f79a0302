use Rattle.cycle_lock.specs.Home.{of_desk}
use Rattle.std.proofs.Common.{rules, arith}
use Rattle.cycle_lock.proofs.Notes.{records_if, reads_if}
use Rattle.cycle_lock.proofs.turns.Turns.note.Goals as goal

pub fetch_add-requires : goal.fetch_add-requires
fetch_add-requires g c = let r = c.requires in let d = r.desk in (search rules, search rules, records_if (of_desk g.T.Desk.history) (of_desk g.T.Desk.figures) (of_desk g.T.Desk.stopped) _ _ _ _ d.desk _ _ d.more _ d.count r.turn d.has d.stops d.becomes)

pub load-requires : goal.load-requires
load-requires g c = let r = c.requires in let d = r.desk in (search rules, search rules, reads_if (of_desk g.T.Desk.history) (of_desk g.T.Desk.figures) (of_desk g.T.Desk.stopped) _ _ _ _ d.desk _ _ d.more (omega (arith, d.count, c.if-more-gt0.false)) r.turn d.has d.stops d.becomes)
