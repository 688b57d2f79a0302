use Rattle.std.proofs.lemmas.List.{take_rest}
use Rattle.journal_core.proofs.RecordFacts.{records_ahead}
use Rattle.journal_core.specs.RecordBytes.{walked_of}
use Rattle.journal_core.proofs.record_bytes.RecordBytes.records.Goals as goal

pub returns-clause-all : goal.returns-clause-all
returns-clause-all c = λ walked base records holds.
    let r = c.args.self.now in
    rw (c.deref.ensures.value, take_rest r.bytes.items r.first, r.same, r.place) (records_ahead (walked_of r) walked base records holds)
