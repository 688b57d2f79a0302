use Rattle.journal_core.specs.RecordBytes.{walked_of}
use Rattle.recovery.proofs.LoopFacts.{left_all}
use Rattle.recovery.proofs.entries.Entries.reader.Goals as goal

pub returns-clause-all : goal.returns-clause-all
returns-clause-all c = λ has list read.
    let e = c.args.self.now in
    left_all (walked_of e.records) list (record { records = c.records.result; spelling = e.first }) has.2 c.records.ensures.first has.3 (c.records.ensures.all has.2) read
