use Rattle.std.proofs.Common.{◌≡◌, Err, IfErr, sym, subst, rules}
use Rattle.journal_core.specs.Walk.{base_of, gate_of, placed}
use Rattle.recovery.specs.Bodies.{changes_of}
use Rattle.recovery.specs.Reading.{IsFaultAmong, IsBaseFault, GivesOnly, FindsFault}
use Rattle.recovery.specs.declared.contents.Contents.{Contents}
use Rattle.recovery.specs.declared.entries.Entries.{Entries}
use Rattle.recovery.proofs.FindFacts.{walked_holds, first_of, found_of, spelling_of, base_on, has_read, can_be_written, fault_of, fault_before, fault_among, only_of, only_fault_of}
use Rattle.recovery.proofs.reading.read_entries.Goals as goal

pub returns-in_err-walked-clause-fault : goal.returns-in_err-walked-clause-fault
returns-in_err-walked-clause-fault g c =
    let was = g.D.Disk.history c.args.disk.now in
    let is : c.from_residual.result ≡ Err c.in_err-walked.field-0.0 = search rules in
    subst (λ r. IfErr r (FindsFault was)) (sym is) (fault_of was c.in_err-walked.field-0.0 c.in_err-walked.ensures.fault)

pub returns-in_err-walked-clause-only : goal.returns-in_err-walked-clause-only
returns-in_err-walked-clause-only g c =
    let was = g.D.Disk.history c.args.disk.now in
    let is : c.from_residual.result ≡ Err c.in_err-walked.field-0.0 = search rules in
    subst (GivesOnly was) (sym is) (only_fault_of was c.in_err-walked.field-0.0 (fault_of was c.in_err-walked.field-0.0 c.in_err-walked.ensures.fault))

pub returns-in_err-base-clause-fault : goal.returns-in_err-base-clause-fault
returns-in_err-base-clause-fault g c =
    let was = g.D.Disk.history c.args.disk.now in
    let walked = c.in_ok-walked.ensures in
    let fault = c.in_err-base.field-0.0 in
    let is : c.from_residual-in_err-base.result ≡ Err fault = search rules in
    subst (λ r. IfErr r (FindsFault was)) (sym is)
    (fault_before was c.in_ok-walked.walked fault walked.walked walked.found walked.ends c.in_err-base.ensures.fault)

pub returns-in_err-base-clause-only : goal.returns-in_err-base-clause-only
returns-in_err-base-clause-only g c =
    let was = g.D.Disk.history c.args.disk.now in
    let walked = c.in_ok-walked.ensures in
    let fault = c.in_err-base.field-0.0 in
    let is : c.from_residual-in_err-base.result ≡ Err fault = search rules in
    subst (GivesOnly was) (sym is) (only_fault_of was fault
    (fault_before was c.in_ok-walked.walked fault walked.walked walked.found walked.ends c.in_err-base.ensures.fault))

pub returns-in_err-base-clause-counts : goal.returns-in_err-base-clause-counts
returns-in_err-base-clause-counts g c = (
  c.in_ok-walked.ensures.counts.0,
  λ failed.
      let w = c.in_ok-walked.walked in
      let is : c.from_residual-in_err-base.result ≡ Err c.in_err-base.field-0.0 = search rules in
      let bad : IfErr c.from_residual-in_err-base.result (IsBaseFault w) = subst (λ r. IfErr r (IsBaseFault w)) (sym is) c.in_err-base.ensures.fault in
      absurd (subst (λ r. IfErr r (IsBaseFault w)) failed bad),
)

pub returns-in_err-last-clause-fault : goal.returns-in_err-last-clause-fault
returns-in_err-last-clause-fault g c =
    let was = g.D.Disk.history c.args.disk.now in
    let w = c.in_ok-walked.walked in
    let walked = c.in_ok-walked.ensures in
    let fault = c.in_err-last.field-0.0 in
    let begins : c.spelling_behind-first.result ≡ first_of w = search rules in
    let is : c.from_residual-in_err-last.result ≡ Err fault = search rules in
    subst (λ r. IfErr r (FindsFault was)) (sym is)
    (fault_among was w c.in_ok-base.base c.spelling_behind-first.result fault walked.walked walked.found walked.ends c.in_ok-base.ensures.found begins
    (c.in_err-last.ensures.fault (base_of w) walked.walked.1.0 (walked_holds w walked.walked)))

pub returns-in_err-last-clause-only : goal.returns-in_err-last-clause-only
returns-in_err-last-clause-only g c =
    let was = g.D.Disk.history c.args.disk.now in
    let w = c.in_ok-walked.walked in
    let walked = c.in_ok-walked.ensures in
    let fault = c.in_err-last.field-0.0 in
    let begins : c.spelling_behind-first.result ≡ first_of w = search rules in
    let is : c.from_residual-in_err-last.result ≡ Err fault = search rules in
    subst (GivesOnly was) (sym is) (only_fault_of was fault
    (fault_among was w c.in_ok-base.base c.spelling_behind-first.result fault walked.walked walked.found walked.ends c.in_ok-base.ensures.found begins
    (c.in_err-last.ensures.fault (base_of w) walked.walked.1.0 (walked_holds w walked.walked))))

pub returns-in_err-last-clause-counts : goal.returns-in_err-last-clause-counts
returns-in_err-last-clause-counts g c = (
  c.in_ok-walked.ensures.counts.0,
  λ failed.
      let w = c.in_ok-walked.walked in
      let walked = c.in_ok-walked.ensures.walked in
      let changes = changes_of c.spelling_behind-first.result (placed (gate_of w) walked.1.0) in
      let is : c.from_residual-in_err-last.result ≡ Err c.in_err-last.field-0.0 = search rules in
      let bad : IfErr c.from_residual-in_err-last.result (IsFaultAmong changes) =
      subst (λ r. IfErr r (IsFaultAmong changes)) (sym is) (c.in_err-last.ensures.fault (base_of w) walked.1.0 (walked_holds w walked)) in
      absurd (subst (λ r. IfErr r (IsFaultAmong changes)) failed bad),
)

pub returns-clause-read : goal.returns-clause-read
returns-clause-read g c =
    let w = c.in_ok-walked.walked in
    let walked = c.in_ok-walked.ensures.walked in
    let begins : c.spelling_behind-first.result ≡ first_of w = search rules in
    let entries : Entries = record { records = c.into_records-records.result; form = w.form; end = w.end; first = c.spelling_behind-first.result; last = c.in_ok-last.last } in
    has_read w walked entries c.into_records-records.ensures begins (c.in_ok-last.ensures.spelled (base_of w) walked.1.0 (walked_holds w walked))

pub returns-clause-found : goal.returns-clause-found
returns-clause-found g c =
    let w = c.in_ok-walked.walked in
    let walked = c.in_ok-walked.ensures in
    let entries : Entries = record { records = c.into_records-records.result; form = w.form; end = w.end; first = c.spelling_behind-first.result; last = c.in_ok-last.last } in
    found_of (g.D.Disk.history c.args.disk.now) w entries c.into_records-records.ensures walked.walked walked.found walked.ends

pub returns-clause-base : goal.returns-clause-base
returns-clause-base g c =
    let walked = c.in_ok-walked.ensures in
    base_on (g.D.Disk.history c.args.disk.now) c.in_ok-walked.walked c.in_ok-base.base walked.walked walked.found walked.ends c.in_ok-base.ensures.found

pub returns-clause-written : goal.returns-clause-written
returns-clause-written g c = can_be_written c.in_ok-walked.walked c.in_ok-base.base c.in_ok-base.ensures.found

pub returns-clause-spelling : goal.returns-clause-spelling
returns-clause-spelling g c =
    let w = c.in_ok-walked.walked in
    let walked = c.in_ok-walked.ensures in
    let begins : c.spelling_behind-first.result ≡ first_of w = search rules in
    spelling_of (g.D.Disk.history c.args.disk.now) w c.spelling_behind-first.result c.in_ok-last.last walked.walked walked.found walked.ends begins
    (c.in_ok-last.ensures.last (base_of w) walked.walked.1.0 (walked_holds w walked.walked))

pub returns-clause-only : goal.returns-clause-only
returns-clause-only g c =
    let w = c.in_ok-walked.walked in
    let entries : Entries = record { records = c.into_records-records.result; form = w.form; end = w.end; first = c.spelling_behind-first.result; last = c.in_ok-last.last } in
    let contents : Contents = record { base = c.in_ok-base.base; entries = entries } in
    only_of (g.D.Disk.history c.args.disk.now) contents (returns-clause-read g c) (returns-clause-found g c) (returns-clause-base g c)
