use Rattle.std.proofs.Common.{refl}
use Rattle.compress_server.proofs.HousedFacts.{housed}
use Rattle.compress_server.proofs.following.run_follow.Goals as goal

pub returns-clause-runs : goal.returns-clause-runs
returns-clause-runs g c =
    let rows = c.in-Ok.roster in
    let are = c.in-Ok.ensures.roster in
    let was = g.D.Disk.history c.args.disk in
    let n = g.D.Disk.fault_count c.args.disk in
    let left = g.D.Disk.history c.end.result in
    let count = g.D.Disk.fault_count c.end.result in
    let v = c.in-Ok-open_house.house in
    let w = c.follow-end.new.house in
    let e = c.follow-end.ensures in
    let over = housed rows was left n count are v w c.in-Ok-open_house.ensures.opened c.in-Ok-open_house.ensures.keeps c.end.ensures.keeps e.figures c.end.ensures.disk c.end.ensures.faults in (
      rows,
      c.in-Ok.ensures.says,
      are,
      (
        v,
        w,
        over,
        record {
          over = e.follows;
          counted = e.counted;
          ends = e.ends;
          keeps = c.in-Ok-open_house.ensures.keeps;
          disk = c.end.ensures.disk;
        },
      ),
    )

-- no house was opened
pub returns-in-Err-open_house-clause-runs : goal.returns-in-Err-open_house-clause-runs
returns-in-Err-open_house-clause-runs g c = (refl, (c.in-Ok.roster, c.in-Ok.ensures.says, c.in-Ok.ensures.roster, c.in-Err-open_house.ensures.fails))

-- the roster could not be had
pub returns-in-Err-clause-runs : goal.returns-in-Err-clause-runs
returns-in-Err-clause-runs g c = (refl, refl, c.in-Err.ensures.fault)
