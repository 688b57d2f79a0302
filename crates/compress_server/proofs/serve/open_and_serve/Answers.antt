use Rattle.std.proofs.Common.{inl, inr, refl}
use Rattle.compress_server.proofs.HousedFacts.{housed}
use Rattle.compress_server.proofs.serve.open_and_serve.Goals as goal

pub returns-clause-runs : goal.returns-clause-runs
returns-clause-runs g c =
    let rows = c.in-Ok.roster in
    let v = c.in-Ok-open_house.house in
    let w = c.serve_at-end.result.1 in
    let over = housed rows (g.D.Disk.history c.args.disk) (g.D.Disk.history c.end.result) (g.D.Disk.fault_count c.args.disk) (g.D.Disk.fault_count c.end.result) c.in-Ok.ensures.roster v w c.in-Ok-open_house.ensures.opened c.in-Ok-open_house.ensures.keeps
    c.end.ensures.keeps c.serve_at-end.ensures.figures c.end.ensures.disk c.end.ensures.faults in
    inr (rows, c.in-Ok.ensures.says, c.in-Ok.ensures.roster, inr (v, w, over, c.serve_at-end.ensures.serves))

-- no house was opened
pub returns-in-Err-open_house-clause-runs : goal.returns-in-Err-open_house-clause-runs
returns-in-Err-open_house-clause-runs g c =
    inr (c.in-Ok.roster, c.in-Ok.ensures.says, c.in-Ok.ensures.roster, inl (record { fault = c.in-Err-open_house.fault; told = refl; opening = c.in-Err-open_house.ensures.fails; output = refl; listener = refl }))

-- the roster could not be had
pub returns-in-Err-clause-runs : goal.returns-in-Err-clause-runs
returns-in-Err-clause-runs g c = inl (c.in-Err.fault, refl, refl, c.in-Err.ensures.fault)
