use Rattle.std.proofs.Common.{refl, sym, subst}
use Rattle.compress_server.specs.Files.{files_by}
use Rattle.compress_server.specs.Housed.{disk_of}
use Rattle.compress_server.specs.Script.{ScriptRuns}
use Rattle.compress_server.specs.Seen.{streams_by}
use Rattle.compress_server.proofs.HousedFacts.{housed, script_runs}
use Rattle.compress_server.proofs.script.run_script.Goals as goal

pub returns-clause-runs : goal.returns-clause-runs
returns-clause-runs g c =
    let rows = c.in-Ok.roster in
    let are = c.in-Ok.ensures.roster in
    let was = g.D.Disk.history c.args.disk in
    let n = g.D.Disk.fault_count c.args.disk in
    let left = g.D.Disk.history c.end.result in
    let count = g.D.Disk.fault_count c.end.result in
    let v = c.in-Ok-open_house.house in
    let w = c.serve_house-end.result.1 in
    let e = c.serve_house-end.ensures in
    let over = housed rows was left n count are v w c.in-Ok-open_house.ensures.opened c.in-Ok-open_house.ensures.keeps c.is_stopped-stopped.ensures.keeps e.figures c.end.ensures.disk c.end.ensures.faults in
    let files = files_by g.F.Files c.args.files.now in
    let files' = files_by g.F.Files c.load_roster.new.files in
    let before = streams_by g.S.Source g.K.Sink c.args.input.now c.args.output.now in
    let after = streams_by g.S.Source g.K.Sink c.serve_house-end.new.input c.serve_house-end.new.output in
    let clock = g.T.Clock.tells c.args.with.now.clock.now in
    let name = c.args.words.now.roster.now in
    subst (λ end. ScriptRuns clock name files files' before after (disk_of was n) (disk_of left count) end) (sym c.end_of_session.ensures)
    (script_runs clock name files files' before after (disk_of was n) (disk_of left count) rows c.in-Ok.ensures.says are v w over c.serve_house-end.result.0 c.is_stopped-stopped.result c.is_stopped-stopped.ensures.stopped e.source_fault e.sink_fault e.ends)

-- no house was opened
pub returns-in-Err-open_house-clause-runs : goal.returns-in-Err-open_house-clause-runs
returns-in-Err-open_house-clause-runs g c = (refl, (c.in-Ok.roster, c.in-Ok.ensures.says, c.in-Ok.ensures.roster, c.in-Err-open_house.ensures.fails))

-- the roster could not be had
pub returns-in-Err-clause-runs : goal.returns-in-Err-clause-runs
returns-in-Err-clause-runs g c = (refl, refl, c.in-Err.ensures.fault)
