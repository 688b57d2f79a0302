use Rattle.compress_server.specs.Files.{files_by}
use Rattle.compress_server.proofs.IdleFacts.{runs_from_before}
use Rattle.compress_server.proofs.serve.run_serve.Goals as goal

pub returns-clause-runs : goal.returns-clause-runs
returns-clause-runs g c =
    runs_from_before (g.T.Clock.tells c.args.with.now.clock.now) g.L.Door.Door.visits _ _ (files_by g.F.Files c.args.files.now) (files_by g.F.Files c.open_and_serve.new.files) _ _ _ _ _ _ _ _ c.set_idle.ensures.same c.set_idle.ensures.uncounted c.open_and_serve.ensures.runs
