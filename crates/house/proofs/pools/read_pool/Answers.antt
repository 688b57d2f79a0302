use Rattle.std.proofs.Common.{◌∙◌, ℕ, List, sym, subst, ap}
use Rattle.journal_core.specs.Holds.{Holds}
use Rattle.recovery.specs.Bodies.{Written}
use Rattle.recovery.specs.Reading.{file_of, entries_in}
use Rattle.recovery.proofs.PlaceFacts.{at_holds}
use Rattle.record_pool.specs.Pool.{PoolView}
use Rattle.house.specs.Chronicle.{AreRecords}
use Rattle.house.proofs.pools.read_pool.Goals as goal

pub returns-clause-records : goal.returns-clause-records
returns-clause-records c = λ list read.
    let file = file_of c.args.read in
    let holds = at_holds file read.0 read.1 read.2 read.3 in
    let there = subst (λ (f : List ℕ). Holds f read.0 read.1) (sym c.into_records-records.ensures.same) holds in
    let pool = c.in_ok-pool.ensures read.0 read.1 there in
    subst (λ (records : List Written). AreRecords records (entries_in list)) (sym (c.make_room.ensures.changes ∙ ap (λ (v : PoolView). v.changes) pool))
    (c.into_records-records.ensures.spelled c.requires list read read.0 read.1 holds)
