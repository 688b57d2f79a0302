use Rattle.std.proofs.Common.{Option, inl, inr, refl, sym, subst}
use Rattle.outside.specs.Files.{Folder}
use Rattle.outside.specs.Flow.{Takes, TakesFront}
use Rattle.command_types.specs.Roster.{Rows, IsRoster}
use Rattle.cycle_laws.specs.Bases.{IsWritable}
use Rattle.compress_server.specs.Files.{SaysRoster, files_by}
use Rattle.compress_server.specs.Housed.{disk_by}
use Rattle.compress_server.specs.Seen.{output_by}
use Rattle.compress_server.proofs.EndFacts.{load_later}
use Rattle.compress_server.proofs.RollFacts.{same_rows, rolls, rolls_front, unrolled}
use Rattle.compress_server.proofs.ServeFacts.{ok_holds, err_holds}
use Rattle.compress_server.proofs.rolling.run_roll.Goals as goal

-- the new roster could not be had, behind the old one
pub returns-in-Err-load_roster_as-clause-runs : goal.returns-in-Err-load_roster_as-clause-runs
returns-in-Err-load_roster_as-clause-runs g c =
    let first = c.in-Ok in
    let files = files_by g.F.Files c.args.files.now in
    let mid = files_by g.F.Files c.load_roster.new.files in
    let files' = files_by g.F.Files c.load_roster_as.new.files in (
      refl,
      refl,
      inr (first.old, first.ensures.says, load_later files mid files' _ _ _ c.in-Err-load_roster_as.fault first.ensures.stays c.load_roster.ensures.never_falls c.in-Err-load_roster_as.ensures.fault),
    )

pub text_of-requires-clause-base : goal.text_of-requires-clause-base
text_of-requires-clause-base g c =
    let read = c.in-Ok-read_journal.read in
    let e = c.in-Ok-read_journal.ensures in
    subst (λ (rows : Rows). IsWritable rows read.past.base.state) (sym (same_rows c.in-Ok.old read e.replayed e.base)) e.base

pub text_of-requires-clause-old : goal.text_of-requires-clause-old
text_of-requires-clause-old g c =
    let read = c.in-Ok-read_journal.read in
    let e = c.in-Ok-read_journal.ensures in
    subst IsRoster (sym (same_rows c.in-Ok.old read e.replayed e.base)) c.in-Ok.ensures.roster

pub returns-in-Err-Refused-clause-runs : goal.returns-in-Err-Refused-clause-runs
returns-in-Err-Refused-clause-runs g c =
    let files = files_by g.F.Files c.args.files.now in
    let files' = files_by g.F.Files c.load_roster_as.new.files in
    let output = output_by g.K.Sink c.args.output.now in
    let disk = disk_by g.D.Disk c.args.disk.now in
    let left = disk_by g.D.Disk c.read_journal.new.disk in
    let words = c.args.words.now in
    let first = c.in-Ok in
    let second = c.in-Ok-load_roster_as in
    let says = subst (λ (folder : Option Folder). SaysRoster folder words.new_roster.now second.new) first.ensures.stays second.ensures.says in
    let e = c.in-Ok-read_journal.ensures in
    let other = rw c.in-Err-Refused.field-0-is at c.in-Err-Refused.ensures.other in
    unrolled words.roster.now words.new_roster.now words.matured words.cancel files files' output output disk left first.old second.new first.ensures.says first.ensures.roster says second.ensures.roster e.same c.in-Ok-read_journal.read e.stands e.replayed e.base
    c.in-Err-Refused.obstacle other refl

pub returns-then-is_err-clause-runs : goal.returns-then-is_err-clause-runs
returns-then-is_err-clause-runs g c =
    let files = files_by g.F.Files c.args.files.now in
    let files' = files_by g.F.Files c.load_roster_as.new.files in
    let output = output_by g.K.Sink c.args.output.now in
    let output' = output_by g.K.Sink c.write_all.new.sink in
    let disk = disk_by g.D.Disk c.args.disk.now in
    let left = disk_by g.D.Disk c.read_journal.new.disk in
    let words = c.args.words.now in
    let first = c.in-Ok in
    let second = c.in-Ok-load_roster_as in
    let says = subst (λ (folder : Option Folder). SaysRoster folder words.new_roster.now second.new) first.ensures.stays second.ensures.says in
    let e = c.in-Ok-read_journal.ensures in
    rolls_front words.roster.now words.new_roster.now words.matured words.cancel files files' output output' disk left first.old second.new first.ensures.says first.ensures.roster says second.ensures.roster e.same c.in-Ok-read_journal.read e.stands e.replayed e.base
    c.in-Ok-text_of.text.items c.in-Ok-text_of.ensures.text
    (subst (λ t. TakesFront output.taken output'.taken t) c.deref.ensures.value (err_holds c.write_all.result c.is_err.result _ c.is_err.ensures.value c.if-is_err.true c.write_all.ensures.front))
    (err_holds c.write_all.result c.is_err.result _ c.is_err.ensures.value c.if-is_err.true c.write_all.ensures.counts.1)

pub returns-clause-runs : goal.returns-clause-runs
returns-clause-runs g c =
    let files = files_by g.F.Files c.args.files.now in
    let files' = files_by g.F.Files c.load_roster_as.new.files in
    let output = output_by g.K.Sink c.args.output.now in
    let output' = output_by g.K.Sink c.write_all.new.sink in
    let disk = disk_by g.D.Disk c.args.disk.now in
    let left = disk_by g.D.Disk c.read_journal.new.disk in
    let words = c.args.words.now in
    let first = c.in-Ok in
    let second = c.in-Ok-load_roster_as in
    let says = subst (λ (folder : Option Folder). SaysRoster folder words.new_roster.now second.new) first.ensures.stays second.ensures.says in
    let e = c.in-Ok-read_journal.ensures in
    rolls words.roster.now words.new_roster.now words.matured words.cancel files files' output output' disk left first.old second.new first.ensures.says first.ensures.roster says second.ensures.roster e.same c.in-Ok-read_journal.read e.stands e.replayed e.base
    c.in-Ok-text_of.text.items c.in-Ok-text_of.ensures.text
    (subst (λ t. Takes output.taken output'.taken t) c.deref.ensures.value (ok_holds c.write_all.result c.is_err.result _ c.is_err.ensures.value c.if-is_err.false c.write_all.ensures.takes))

-- nothing was read of the journal
pub returns-in-Err-read_journal-clause-runs : goal.returns-in-Err-read_journal-clause-runs
returns-in-Err-read_journal-clause-runs g c =
    let first = c.in-Ok in
    let second = c.in-Ok-load_roster_as in
    let says = subst (λ (folder : Option Folder). SaysRoster folder c.args.words.now.new_roster.now second.new) first.ensures.stays second.ensures.says in
    let e = c.in-Err-read_journal.ensures in
    (refl, (e.same, (first.old, first.ensures.says, first.ensures.roster, (second.new, says, second.ensures.roster, e.unread))))

-- there was no memory for the text
pub returns-in-Err-Memory-clause-runs : goal.returns-in-Err-Memory-clause-runs
returns-in-Err-Memory-clause-runs g c =
    let first = c.in-Ok in
    let second = c.in-Ok-load_roster_as in
    let says = subst (λ (folder : Option Folder). SaysRoster folder c.args.words.now.new_roster.now second.new) first.ensures.stays second.ensures.says in
    (refl, (c.in-Ok-read_journal.ensures.same, (first.old, first.ensures.says, first.ensures.roster, (second.new, says, second.ensures.roster, tt))))

-- the roster could not be had
pub returns-in-Err-clause-runs : goal.returns-in-Err-clause-runs
returns-in-Err-clause-runs g c = (refl, refl, inl c.in-Err.ensures.fault)
