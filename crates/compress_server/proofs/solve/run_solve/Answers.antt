use Rattle.std.proofs.Common.{inr, refl}
use Rattle.compress_server.specs.Files.{files_by}
use Rattle.compress_server.proofs.EndFacts.{load_later}
use Rattle.compress_server.proofs.solve.run_solve.Goals as goal

pub returns-in-Err-load_trades-clause-runs : goal.returns-in-Err-load_trades-clause-runs
returns-in-Err-load_trades-clause-runs g c =
    let files = files_by g.F.Files c.args.files.now in
    let mid = files_by g.F.Files c.load_roster.new.files in
    let files' = files_by g.F.Files c.load_trades.new.files in
    let first = c.in-Ok in
    (refl, inr (first.roster, first.ensures.says, load_later files mid files' _ _ _ c.in-Err-load_trades.fault first.ensures.stays c.load_roster.ensures.never_falls c.in-Err-load_trades.ensures.fault))
