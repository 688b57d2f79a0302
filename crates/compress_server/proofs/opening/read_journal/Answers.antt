use Rattle.std.proofs.Common.{◌∙◌, Option, subst}
use Rattle.std.specs.Prelude.{IfOk}
use Rattle.outside.specs.Disk as disks
use Rattle.house.specs.Storing.{ContentStandsFor}
use Rattle.compress_server.specs.Housed.{disk_by}
use Rattle.compress_server.proofs.ReplayFacts.{unread_later}
use Rattle.compress_server.proofs.opening.read_journal.Goals as goal

pub returns-clause-stands : goal.returns-clause-stands
returns-clause-stands g c =
    subst (λ (d : Option disks.History). IfOk c.recover_noting.result (λ r. ContentStandsFor d r.past)) c.attach.ensures.same c.recover_noting.ensures.stands

pub returns-clause-unread : goal.returns-clause-unread
returns-clause-unread g c =
    let e = c.recover_noting.ensures in
    unread_later c.args.roster (disk_by g.D.Disk c.args.disk.now) (disk_by g.D.Disk c.attach.new.self) (disk_by g.D.Disk c.recover_noting.new.disk) c.recover_noting.result c.attach.ensures.same c.attach.ensures.counts.0 e.fault e.failed

pub returns-clause-same : goal.returns-clause-same
returns-clause-same g c = c.recover_noting.ensures.same ∙ c.attach.ensures.same
