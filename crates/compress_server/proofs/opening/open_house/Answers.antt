use Rattle.std.proofs.Common.{rules}
use Rattle.compress_server.proofs.HousedFacts.{unopened_still, opening_fails}
use Rattle.compress_server.proofs.opening.open_house.Goals as goal

-- the disk could not be attached
pub returns-then-is_err-clause-fails : goal.returns-then-is_err-clause-fails
returns-then-is_err-clause-fails g c =
    (unopened_still c.args.roster.now (g.D.Disk.history c.args.disk) (g.D.Disk.history c.attach.new.self) (g.D.Disk.fault_count c.args.disk) (g.D.Disk.fault_count c.attach.new.self) c.attach.ensures.same c.requires.settled, search rules)

-- no memory for the copy of the roster
pub returns-in_default-clause-fails : goal.returns-in_default-clause-fails
returns-in_default-clause-fails g c =
    unopened_still c.args.roster.now (g.D.Disk.history c.args.disk) (g.D.Disk.history c.attach.new.self) (g.D.Disk.fault_count c.args.disk) (g.D.Disk.fault_count c.attach.new.self) c.attach.ensures.same c.requires.settled

-- none could be had
pub returns-clause-fails : goal.returns-clause-fails
returns-clause-fails g c =
    let e = c.new.ensures in
    opening_fails c.args.roster.now c.in-Ok.copy (g.D.Disk.history c.args.disk) (g.D.Disk.history c.attach.new.self) (g.D.Disk.fault_count c.args.disk) (g.D.Disk.fault_count c.attach.new.self) c.in-Ok.ensures c.attach.ensures.same c.attach.ensures.counts.0
    g.D.Disk.history g.D.Disk.fault_count c.new.result e.fault e.same e.untouched e.any_moment_failed e.failed
