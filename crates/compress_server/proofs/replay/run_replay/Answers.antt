use Rattle.std.proofs.Common.{◌∙◌, ◌++◌, ap, refl}
use Rattle.std.specs.Prelude.{option_map}
use Rattle.house.specs.Executions.{executions_told}
use Rattle.compress_server.specs.Files.{files_by}
use Rattle.compress_server.specs.Housed.{disk_by}
use Rattle.compress_server.specs.Seen.{output_by}
use Rattle.compress_server.proofs.ReplayFacts.{replays, replays_front}
use Rattle.compress_server.proofs.ServeFacts.{ok_holds, err_holds}
use Rattle.compress_server.proofs.replay.run_replay.Goals as goal

pub returns-then-is_err-clause-runs : goal.returns-then-is_err-clause-runs
returns-then-is_err-clause-runs g c =
    let files = files_by g.F.Files c.args.files.now in
    let files' = files_by g.F.Files c.load_roster.new.files in
    let output = output_by g.K.Sink c.args.output.now in
    let output' = output_by g.K.Sink c.write_all.new.sink in
    let disk = disk_by g.D.Disk c.args.disk.now in
    let left = disk_by g.D.Disk c.read_journal.new.disk in
    let first = c.in-Ok in
    let e = c.in-Ok-read_journal.ensures in
    let read = c.in-Ok-read_journal.read in
    let told = e.told ∙ ap (option_map (λ replies. replies ++ executions_told read.past.base.state read.past.base.position read.past.entries)) c.none.ensures in
    replays_front c.args.words.now.roster.now files files' output output' disk left first.roster first.ensures.says first.ensures.roster e.same read c.deref.result.now e.stands e.replayed e.base told (c.deref.ensures.value ∙ c.in-Ok-text_of.ensures)
    (err_holds c.write_all.result c.is_err.result _ c.is_err.ensures.value c.if-is_err.true c.write_all.ensures.front)
    (err_holds c.write_all.result c.is_err.result _ c.is_err.ensures.value c.if-is_err.true c.write_all.ensures.counts.1)

pub returns-clause-runs : goal.returns-clause-runs
returns-clause-runs g c =
    let files = files_by g.F.Files c.args.files.now in
    let files' = files_by g.F.Files c.load_roster.new.files in
    let output = output_by g.K.Sink c.args.output.now in
    let output' = output_by g.K.Sink c.write_all.new.sink in
    let disk = disk_by g.D.Disk c.args.disk.now in
    let left = disk_by g.D.Disk c.read_journal.new.disk in
    let first = c.in-Ok in
    let e = c.in-Ok-read_journal.ensures in
    let read = c.in-Ok-read_journal.read in
    let told = e.told ∙ ap (option_map (λ replies. replies ++ executions_told read.past.base.state read.past.base.position read.past.entries)) c.none.ensures in
    replays c.args.words.now.roster.now files files' output output' disk left first.roster first.ensures.says first.ensures.roster e.same read c.deref.result.now e.stands e.replayed e.base told (c.deref.ensures.value ∙ c.in-Ok-text_of.ensures)
    (ok_holds c.write_all.result c.is_err.result _ c.is_err.ensures.value c.if-is_err.false c.write_all.ensures.takes)

-- nothing was read of the journal
pub returns-in-Err-read_journal-clause-runs : goal.returns-in-Err-read_journal-clause-runs
returns-in-Err-read_journal-clause-runs g c =
    let first = c.in-Ok in
    let e = c.in-Err-read_journal.ensures in
    (refl, (e.same, (first.roster, first.ensures.says, first.ensures.roster, e.unread)))

-- there was no memory for the text
pub returns-in_default-clause-runs : goal.returns-in_default-clause-runs
returns-in_default-clause-runs g c =
    let first = c.in-Ok in
    (refl, (c.in-Ok-read_journal.ensures.same, (first.roster, first.ensures.says, first.ensures.roster, tt)))

-- the roster could not be had
pub returns-in-Err-clause-runs : goal.returns-in-Err-clause-runs
returns-in-Err-clause-runs g c = (refl, refl, c.in-Err.ensures.fault)
