use Rattle.journal_core.proofs.StartFacts.{bare_place, slots_starting, slots_begun}
use Rattle.journal_core.proofs.starting.begin_slots.Goals as goal

pub put-requires-clause-place : goal.put-requires-clause-place
put-requires-clause-place g c = bare_place (g.D.Disk.history c.args.disk.now) c.requires.bare

pub returns-in_err-put-clause-any_moment : goal.returns-in_err-put-clause-any_moment
returns-in_err-put-clause-any_moment g c = slots_starting (g.D.Disk.history c.args.disk.now) (g.D.Disk.history c.put.new.disk) c.requires.bare c.put.ensures.any_moment

pub returns-clause-any_moment : goal.returns-clause-any_moment
returns-clause-any_moment g c = slots_starting (g.D.Disk.history c.args.disk.now) (g.D.Disk.history c.put.new.disk) c.requires.bare c.put.ensures.any_moment

pub returns-clause-at_rest : goal.returns-clause-at_rest
returns-clause-at_rest g c = slots_begun (g.D.Disk.history c.args.disk.now) (g.D.Disk.history c.put.new.disk) c.requires.bare c.in_ok-put.ensures.done
