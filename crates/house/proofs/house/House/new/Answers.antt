use Rattle.std.proofs.Common.{◌∙◌, Option, [], arith, ap, sym, subst}
use Rattle.outside.specs.Disk.{History}
use Rattle.journal_core.specs.Journal.{disk_of, size_of}
use Rattle.recovery.specs.Reading.{FindsSpelling}
use Rattle.house.specs.House.{HouseView, house_of, journal_of, now_of}
use Rattle.house.specs.Opening.{IsOpened, LeavesOpened}
use Rattle.house.specs.Storing.{ContentStandsFor}
use Rattle.house.proofs.OpeningFacts.{only_opened, still_standing}
use Rattle.house.proofs.NewFacts.{new_house, new_opened, leaves_each, leaves_opened}
use Rattle.house.proofs.house.House.new.Goals as goal

pub start-requires-clause-stands : goal.start-requires-clause-stands
start-requires-clause-stands g c = subst (λ (o : Option History). ContentStandsFor o c.in-Ok.read.past) (sym c.reopen.ensures.same) c.in-Ok.ensures.stands

pub start-requires-clause-spelling : goal.start-requires-clause-spelling
start-requires-clause-spelling g c = subst (λ (o : Option History). FindsSpelling o c.in-Ok.read.spelling) (sym c.reopen.ensures.same) c.in-Ok.ensures.spelling

pub returns-in-Err-clause-any_moment_failed : goal.returns-in-Err-clause-any_moment_failed
returns-in-Err-clause-any_moment_failed g c = λ h own stands.
    let was = g.D.Disk.history c.args.disk in
    let read = g.D.Disk.history c.reopen.new.disk in
    only_opened was read h (still_standing was read h c.reopen.ensures.same c.requires stands)

pub invariant_of-result : goal.invariant_of-result
invariant_of-result g c =
    let read = g.D.Disk.history c.reopen.new.disk in
    rw c.in-Ok.ensures.empty
    (new_house c.in-Ok.read.machine.state c.in-Ok.read.past c.in-Ok-start.folded (now_of c.in-Ok-start.journal) read (g.D.Disk.history (disk_of c.in-Ok-start.journal)) (g.D.Disk.fault_count (disk_of c.in-Ok-start.journal))
    c.in-Ok.ensures.replayed c.in-Ok-start.ensures.opens c.of-first.result.value c.opened-past.result.history c.count.result (size_of c.of.result.value) (g.D.Disk.fault_count (disk_of c.of.result.value))
    (g.D.Disk.history c.of-taken.result.value) (g.D.Disk.history (disk_of c.of.result.value)) c.of-first.ensures c.opened-past.ensures c.count.ensures.count (ap (λ j. size_of j) c.of.ensures)
    (ap (λ j. g.D.Disk.fault_count (disk_of j)) c.of.ensures) (ap (λ d. g.D.Disk.history d) c.of-taken.ensures ∙ sym c.reopen.ensures.same) (ap (λ j. g.D.Disk.history (disk_of j)) c.of.ensures)
    c.in-Ok.ensures.few c.in-Ok-start.ensures.any_moment c.in-Ok-start.ensures.stored c.in-Ok-start.ensures.sound)

pub returns-in-Ok-start-clause-opened : goal.returns-in-Ok-start-clause-opened
returns-in-Ok-start-clause-opened g c =
    let read = g.D.Disk.history c.reopen.new.disk in
    let stands = subst (λ (o : Option History). ContentStandsFor o c.in-Ok.read.past) (sym c.reopen.ensures.same) c.in-Ok.ensures.stands in
    let house : HouseView =
    house_of c.opened-past.result.history c.count.result
    (journal_of (size_of c.of.result.value) (g.D.Disk.fault_count (disk_of c.of.result.value)) (g.D.Disk.history c.of-taken.result.value) (g.D.Disk.history (disk_of c.of.result.value)) c.of-first.result.value) []
    (g.D.Disk.history (disk_of c.in-Ok-start.journal)) (g.D.Disk.fault_count (disk_of c.in-Ok-start.journal)) in
    rw c.in-Ok.ensures.empty
    (subst (λ (o : Option History). IsOpened c.args.roster o (g.D.Disk.fault_count c.args.disk) house) c.reopen.ensures.same
    (new_opened c.in-Ok.read.machine.state c.in-Ok.read.past c.in-Ok-start.folded (now_of c.in-Ok-start.journal) read (g.D.Disk.history (disk_of c.in-Ok-start.journal)) (g.D.Disk.fault_count (disk_of c.in-Ok-start.journal))
    c.in-Ok.ensures.replayed c.in-Ok-start.ensures.opens c.of-first.result.value c.opened-past.result.history c.count.result (size_of c.of.result.value) (g.D.Disk.fault_count (disk_of c.of.result.value))
    (g.D.Disk.history c.of-taken.result.value) (g.D.Disk.history (disk_of c.of.result.value)) c.of-first.ensures c.opened-past.ensures c.count.ensures.count (ap (λ j. size_of j) c.of.ensures)
    (ap (λ j. g.D.Disk.fault_count (disk_of j)) c.of.ensures) (ap (λ d. g.D.Disk.history d) c.of-taken.ensures ∙ sym c.reopen.ensures.same) (ap (λ j. g.D.Disk.history (disk_of j)) c.of.ensures)
    c.args.roster (g.D.Disk.fault_count c.args.disk) c.in-Ok.ensures.base stands (omega (arith, c.reopen.ensures.never_falls, c.in-Ok-start.ensures.never_falls))))

pub returns-in-Ok-start-clause-keeps : goal.returns-in-Ok-start-clause-keeps
returns-in-Ok-start-clause-keeps g c =
    let read = g.D.Disk.history c.reopen.new.disk in
    rw c.in-Ok.ensures.empty
    ((new_house c.in-Ok.read.machine.state c.in-Ok.read.past c.in-Ok-start.folded (now_of c.in-Ok-start.journal) read (g.D.Disk.history (disk_of c.in-Ok-start.journal)) (g.D.Disk.fault_count (disk_of c.in-Ok-start.journal))
    c.in-Ok.ensures.replayed c.in-Ok-start.ensures.opens c.of-first.result.value c.opened-past.result.history c.count.result (size_of c.of.result.value) (g.D.Disk.fault_count (disk_of c.of.result.value))
    (g.D.Disk.history c.of-taken.result.value) (g.D.Disk.history (disk_of c.of.result.value)) c.of-first.ensures c.opened-past.ensures c.count.ensures.count (ap (λ j. size_of j) c.of.ensures)
    (ap (λ j. g.D.Disk.fault_count (disk_of j)) c.of.ensures) (ap (λ d. g.D.Disk.history d) c.of-taken.ensures ∙ sym c.reopen.ensures.same) (ap (λ j. g.D.Disk.history (disk_of j)) c.of.ensures)
    c.in-Ok.ensures.few c.in-Ok-start.ensures.any_moment c.in-Ok-start.ensures.stored c.in-Ok-start.ensures.sound).keeps)

pub returns-in-Ok-start-clause-any_moment : goal.returns-in-Ok-start-clause-any_moment
returns-in-Ok-start-clause-any_moment g c =
    let read = g.D.Disk.history c.reopen.new.disk in
    let stands = subst (λ (o : Option History). ContentStandsFor o c.in-Ok.read.past) (sym c.reopen.ensures.same) c.in-Ok.ensures.stands in
    subst (λ (o : Option History). LeavesOpened c.args.roster o (g.D.Disk.history (disk_of c.in-Ok-start.journal))) c.reopen.ensures.same
    (leaves_opened c.args.roster read (g.D.Disk.history (disk_of c.in-Ok-start.journal)) c.in-Ok.read.past _ (size_of c.in-Ok-start.journal) c.in-Ok.ensures.base.market.same stands
    c.in-Ok-start.ensures.opens c.in-Ok-start.ensures.any_moment)

pub returns-in-Err-start-clause-any_moment_failed : goal.returns-in-Err-start-clause-any_moment_failed
returns-in-Err-start-clause-any_moment_failed g c =
    let read = g.D.Disk.history c.reopen.new.disk in
    let stands = subst (λ (o : Option History). ContentStandsFor o c.in-Ok.read.past) (sym c.reopen.ensures.same) c.in-Ok.ensures.stands in
    subst (λ (o : Option History). LeavesOpened c.args.roster o (g.D.Disk.history c.in-Err-start.disk)) c.reopen.ensures.same
    (leaves_each c.args.roster read (g.D.Disk.history c.in-Err-start.disk) c.in-Ok.read.past c.in-Ok.ensures.base.market.same stands c.in-Err-start.ensures.any_moment_failed)

-- a file of which a legal history was found is none that stands for none
pub returns-in-Err-start-clause-untouched : goal.returns-in-Err-start-clause-untouched
returns-in-Err-start-clause-untouched g c = λ none.
    absurd (none c.in-Ok.read.past c.in-Ok.ensures.base.market.same c.in-Ok.ensures.stands c.in-Ok.ensures.replayed.legal)
