use Rattle.std.proofs.Common.{◌≡◌, Err, IfErr, refl, sym, subst, rules}
use Rattle.journal_core.specs.Walk.{placed, gate_of}
use Rattle.recovery.specs.Bodies.{Placed, changes_of}
use Rattle.recovery.specs.Reading.{IsFaultAmong}
use Rattle.recovery.specs.declared.body.Body.{Body}
use Rattle.recovery.proofs.LoopFacts.{spelled_none, spelled_more, spelled_fault, spelled_all, spelled_last}
use Rattle.recovery.proofs.reading.read_all.Goals as goal

pub loop-found-init : goal.loop-found-init
loop-found-init c = λ base records holds.
    let gate = gate_of c.args.walked.now in
    let body : Body = record { records = c.records.result; spelling = c.args.first } in
    spelled_none c.args.first gate records body c.records.ensures.first refl (c.records.ensures.all c.requires base records holds)

pub returns-in_err-read_entry-clause-fault : goal.returns-in_err-read_entry-clause-fault
returns-in_err-read_entry-clause-fault c = λ base records holds.
    let gate = gate_of c.args.walked.now in
    let first = c.args.first in
    let fault = c.in_err-read_entry.field-0.0 in
    let so_far = c.loop-found.invariant base records holds in
    let found : Placed = (c.in-Some.found.at, (c.next.new.self.spelling, c.in-Some.found.bytes.now)) in
    let is : c.from_residual.result ≡ Err fault = search rules in
    subst (λ e. IfErr e (IsFaultAmong (changes_of first (placed gate records)))) (sym is)
    (spelled_fault first gate records c.loop-found.body c.next.new.self found fault so_far (c.in-Some.ensures.some so_far.others so_far.ahead) c.in_err-read_entry.ensures.fault)

pub loop-found-preserved-in_ok-read_entry : goal.loop-found-preserved-in_ok-read_entry
loop-found-preserved-in_ok-read_entry c = λ base records holds.
    let gate = gate_of c.args.walked.now in
    let so_far = c.loop-found.invariant base records holds in
    let found : Placed = (c.in-Some.found.at, (c.next.new.self.spelling, c.in-Some.found.bytes.now)) in
    spelled_more c.args.first gate records c.loop-found.body c.next.new.self found c.in_ok-read_entry.field-0 so_far (c.in-Some.ensures.some so_far.others so_far.ahead) c.in_ok-read_entry.ensures.found

pub loop-found-preserved : goal.loop-found-preserved
loop-found-preserved c = λ base records holds.
    let gate = gate_of c.args.walked.now in
    let so_far = c.loop-found.invariant base records holds in
    let found : Placed = (c.in-Some.found.at, (c.next.new.self.spelling, c.in-Some.found.bytes.now)) in
    spelled_more c.args.first gate records c.loop-found.body c.next.new.self found c.in_ok-read_entry.field-0 so_far (c.in-Some.ensures.some so_far.others so_far.ahead) c.in_ok-read_entry.ensures.found

pub returns-clause-spelled : goal.returns-clause-spelled
returns-clause-spelled c = λ base records holds.
    let gate = gate_of c.args.walked.now in
    let so_far = c.loop-found.invariant base records holds in
    spelled_all c.args.first gate records c.loop-found.body c.next.new.self so_far (c.in_default.ensures.none so_far.others so_far.ahead)

pub returns-clause-last : goal.returns-clause-last
returns-clause-last c = λ base records holds.
    let gate = gate_of c.args.walked.now in
    let so_far = c.loop-found.invariant base records holds in
    spelled_last c.args.first gate records c.loop-found.body c.next.new.self so_far (c.in_default.ensures.none so_far.others so_far.ahead)
