use Rattle.std.proofs.lemmas.List.{take_rest}
use Rattle.journal_core.proofs.LeadFacts.{ahead}
use Rattle.journal_core.proofs.walked.Walked.records.Goals as goal

pub returns-clause-all : goal.returns-clause-all
returns-clause-all c = λ walked base records holds.
    let w = c.args.self.now in
    rw (c.deref.ensures.value, take_rest w.bytes.items w.gate) (ahead w.form w.bytes.items w.base w.gate walked.0 base records holds)
