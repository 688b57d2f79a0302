use Rattle.std.proofs.Common.{subst, sym}
use Rattle.journal_core.specs.Journal.{IsReady}
use Rattle.journal_core.specs.declared.form.Form.{Form}
use Rattle.journal_core.proofs.StartFacts.{short_as, ready_started}
use Rattle.journal_core.proofs.journal.Journal.start.Goals as goal

pub begin-requires-clause-short : goal.begin-requires-clause-short
begin-requires-clause-short g c = short_as (g.D.Disk.history c.args.disk) c.args.form c.args.end c.requires.walked

pub returns-in-Ok-clause-ready : goal.returns-in-Ok-clause-ready
returns-in-Ok-clause-ready g c =
    let after = g.D.Disk.history c.begin.new.disk in
    subst (λ (f : Form). IsReady after f c.args.end) (sym c.begun.ensures)
    (ready_started (g.D.Disk.history c.args.disk) after c.args.form c.args.end c.requires.walked c.in-Ok.ensures.at_rest)
