use Rattle.journal_core.proofs.StartFacts.{header_starting, both_starting}
use Rattle.journal_core.proofs.starting.begin_short.Goals as goal

pub returns-in_err-begin_slots-clause-any_moment : goal.returns-in_err-begin_slots-clause-any_moment
returns-in_err-begin_slots-clause-any_moment g c =
    let was = g.D.Disk.history c.args.disk.now in
    let mid = g.D.Disk.history c.put.new.disk in
    both_starting was mid (g.D.Disk.history c.begin_slots.new.disk) c.requires.tiny c.in_ok-put.ensures.done (header_starting was mid c.requires.tiny c.put.ensures.any_moment) c.begin_slots.ensures.any_moment

pub returns-clause-any_moment : goal.returns-clause-any_moment
returns-clause-any_moment g c =
    let was = g.D.Disk.history c.args.disk.now in
    let mid = g.D.Disk.history c.put.new.disk in
    both_starting was mid (g.D.Disk.history c.begin_slots.new.disk) c.requires.tiny c.in_ok-put.ensures.done (header_starting was mid c.requires.tiny c.put.ensures.any_moment) c.begin_slots.ensures.any_moment
