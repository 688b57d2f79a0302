use Rattle.std.proofs.Common.{List, subst, sym}
use Rattle.command_types.specs.declared.ask.Entry.{Entry}
use Rattle.house.specs.Chronicle.{AreRecords}
use Rattle.house.proofs.DamageFacts.{memory_found}
use Rattle.house.proofs.opening.reopen.Goals as goal

pub returns-in_default-clause-fault : goal.returns-in_default-clause-fault
returns-in_default-clause-fault g c = memory_found c.args.roster (g.D.Disk.history c.args.disk.now)

pub returns-in_default-of-clause-fault : goal.returns-in_default-of-clause-fault
returns-in_default-of-clause-fault g c = memory_found c.args.roster (g.D.Disk.history c.args.disk.now)

pub returns-clause-records : goal.returns-clause-records
returns-clause-records g c =
    let read = c.in_ok-recovered.ensures.read in
    subst (λ (entries : List Entry). AreRecords c.in-Ok.pools.read.changes entries) (sym (c.in_ok-recovered.ensures.entries read.0 read.1)) (c.in-Ok.ensures.records read.0 read.1)
