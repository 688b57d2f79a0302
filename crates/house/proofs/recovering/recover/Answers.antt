use Rattle.std.proofs.Common.{◌≡◌, ◌∙◌, Result, Err, IfErr, rules, ap, sym, subst, arith, length}
use Rattle.std.proofs.lemmas.List.{length-map}
use Rattle.command_types.specs.declared.figures.Start.{Start}
use Rattle.command_types.specs.declared.figures.State.{State}
use Rattle.recovery.specs.Reading.{file_of}
use Rattle.recovery.specs.declared.entries.Entries.{Entries}
use Rattle.recovery.proofs.EntryFacts.{read_few}
use Rattle.journal_core.specs.declared.fault.JournalFault.{JournalFault}
use Rattle.house.specs.declared.recovering.Recovered.{Recovered}
use Rattle.house.specs.Opening.{IsReplayFault, FindsFault}
use Rattle.house.proofs.ReplayFacts.{entry_of}
use Rattle.house.proofs.DamageFacts.{reading_fault, begin_fault, replay_fault, replay_stands}
use Rattle.house.proofs.recovering.recover.Goals as goal

pub returns-in_err-contents-clause-fault : goal.returns-in_err-contents-clause-fault
returns-in_err-contents-clause-fault g c =
    let was = g.D.Disk.history c.args.disk.now in
    let is : c.from_residual.result ≡ Err c.in_err-contents.field-0.0 = search rules in
    subst (λ r. IfErr r (FindsFault c.args.roster was)) (sym is) (reading_fault c.args.roster was c.in_err-contents.field-0.0 c.in_err-contents.ensures.fault)

pub returns-in_err-machine-clause-fault : goal.returns-in_err-machine-clause-fault
returns-in_err-machine-clause-fault g c =
    let was = g.D.Disk.history c.args.disk.now in
    let fault = c.in_err-machine.field-0.0 in
    let found = c.in_ok-contents.ensures in
    let is : c.from_residual-in_err-machine.result ≡ Err fault = search rules in
    subst (λ r. IfErr r (FindsFault c.args.roster was)) (sym is)
    (begin_fault c.args.roster was c.in_ok-contents.contents.base c.in_ok-contents.contents.entries fault found.read found.found found.base c.in_err-machine.ensures.fault)

pub returns-in-Err-clause-fault : goal.returns-in-Err-clause-fault
returns-in-Err-clause-fault g c =
    let was = g.D.Disk.history c.args.disk.now in
    let fault = c.in-Err.fault in
    let found = c.in_ok-contents.ensures in
    let start = ap (λ (b : Start). b.state) c.in_ok-machine.ensures.start in
    replay_fault c.args.roster was c.in_ok-contents.contents.base c.in_ok-contents.contents.entries fault found.read found.found found.base c.in_ok-machine.ensures.fits
    (λ list read. subst (λ (s : State). IsReplayFault s list fault) start (c.in-Err.ensures.fault list read))

pub returns-in-Err-clause-failed : goal.returns-in-Err-clause-failed
returns-in-Err-clause-failed g c = λ failed.
    let read = c.in_ok-contents.ensures.read in
    let replayed : Result (Recovered × Entries) JournalFault → Type 0 = λ r. IfErr r (IsReplayFault c.in_ok-machine.machine.state read.0) in
    let bad : replayed (Err c.in-Err.fault) = c.in-Err.ensures.fault read.0 read.1 in
    absurd (subst replayed failed bad)

pub returns-clause-stands : goal.returns-clause-stands
returns-clause-stands g c =
    let found = c.in_ok-contents.ensures in
    replay_stands c.args.roster (g.D.Disk.history c.args.disk.now) c.in_ok-contents.contents.base c.in_ok-contents.contents.entries c.in-Ok.past found.read found.found found.base c.in_ok-machine.ensures.fits
    (c.in-Ok.ensures.base ∙ c.in_ok-machine.ensures.start) c.in-Ok.ensures.entries

pub returns-clause-few : goal.returns-clause-few
returns-clause-few g c =
    let read = c.in_ok-contents.ensures.read in
    omega (arith, read_few (file_of c.in_ok-contents.contents.entries) read.0 read.1, ap length (c.in-Ok.ensures.entries read.0 read.1), length-map read.0 entry_of)
