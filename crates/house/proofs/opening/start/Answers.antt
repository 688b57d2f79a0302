use Rattle.std.proofs.Common.{◌≡◌, ◌∙◌, ◌≤◌, false, IsTrue, length, ap, arith, sym, subst}
use Rattle.std.proofs.lemmas.Bool.{false≢true}
use Rattle.outside.specs.Faults.{Rose}
use Rattle.journal_core.specs.Form.{IsSlots, fold_end}
use Rattle.journal_core.specs.Holds.{limit}
use Rattle.journal_core.specs.Journal.{disk_of, form_of, size_of}
use Rattle.journal_core.specs.Moments.{LeavesOnly}
use Rattle.house.specs.Folding.{MayBeFolded, fold_bytes, LeavesOpenedAs, OpensOn, StandsForOne, opened_with}
use Rattle.house.specs.Storing.{AreStoredIn, StoresTurned, TurnsOnly, end_turned}
use Rattle.house.proofs.JournalFacts.{start_leaves}
use Rattle.house.proofs.ChangeFacts.{rose_from}
use Rattle.house.proofs.OpeningFacts.{only_opened}
use Rattle.house.proofs.StartFacts.{ok_with, err_with, small_base, plain_opens, turned_only, turned_one, start_written, start_never, start_folded, start_opens, start_failed}
use Rattle.house.proofs.opening.start.Goals as goal

pub returns-in-Err-clause-any_moment_failed : goal.returns-in-Err-clause-any_moment_failed
returns-in-Err-clause-any_moment_failed g c =
    only_opened (g.D.Disk.history c.args.disk) (g.D.Disk.history c.in-Err.failed.1) c.args.read.now.past
    (start_leaves (g.D.Disk.history c.args.disk) (g.D.Disk.history c.in-Err.failed.1) c.args.read.now.past c.in-Err.ensures.any_moment_failed c.requires.stands)

pub returns-in_default-clause-any_moment : goal.returns-in_default-clause-any_moment
returns-in_default-clause-any_moment g c =
    let o = g.D.Disk.history c.args.disk in
    let r = c.args.read.now in
    let j = c.in-Ok.journal in
    let mid = g.D.Disk.history (disk_of j) in
    let is = c.in-Ok.ensures in
    let it = c.unfolded in
    let written = start_written o mid r.past is.any_moment c.requires.stands r.form r.end r.spelling is.at_rest c.requires.ends c.requires.spelling (form_of j) (size_of j) is.form is.end in
    ok_with it.result (λ x. x.1 ≡ false) (λ x. TurnsOnly mid j r.spelling (g.D.Disk.history (disk_of x.0))) (λ x. LeavesOnly o (g.D.Disk.history (disk_of x.0)) (StandsForOne (opened_with x.1 r.past) r.past))
    (λ x plain turns. subst (λ b. LeavesOnly o (g.D.Disk.history (disk_of x.0)) (StandsForOne (opened_with b r.past) r.past)) (sym plain)
    (turned_one o mid r.past is.any_moment c.requires.stands r.form r.end r.spelling is.at_rest c.requires.ends c.requires.spelling (size_of j) is.end (g.D.Disk.history (disk_of x.0)) (turns r.past written)))
    it.ensures.plain it.ensures.any_moment

pub returns-in_default-clause-stored : goal.returns-in_default-clause-stored
returns-in_default-clause-stored g c =
    let o = g.D.Disk.history c.args.disk in
    let r = c.args.read.now in
    let j = c.in-Ok.journal in
    let mid = g.D.Disk.history (disk_of j) in
    let is = c.in-Ok.ensures in
    let it = c.unfolded in
    let written = start_written o mid r.past is.any_moment c.requires.stands r.form r.end r.spelling is.at_rest c.requires.ends c.requires.spelling (form_of j) (size_of j) is.form is.end in
    ok_with it.result (λ x. x.1 ≡ false) (λ x. StoresTurned mid j r.spelling (g.D.Disk.history (disk_of x.0)) x.0) (λ x. AreStoredIn (g.D.Disk.history (disk_of x.0)) x.0 (opened_with x.1 r.past))
    (λ x plain stores. subst (λ b. AreStoredIn (g.D.Disk.history (disk_of x.0)) x.0 (opened_with b r.past)) (sym plain) (stores r.past written))
    it.ensures.plain it.ensures.stored

pub returns-in_default-clause-opens : goal.returns-in_default-clause-opens
returns-in_default-clause-opens g c =
    let o = g.D.Disk.history c.args.disk in
    let r = c.args.read.now in
    let j = c.in-Ok.journal in
    let mid = g.D.Disk.history (disk_of j) in
    let is = c.in-Ok.ensures in
    let it = c.unfolded in
    let due = rw c.in_default.is at c.requires.due in
    let never : IsSlots r.form → MayBeFolded r.past → fold_end r.form r.end (length (fold_bytes r.past)) ≤ limit → ⊥ = λ slots may fits. due slots may (small_base r.form r.end (length (fold_bytes r.past)) fits) in
    ok_with it.result (λ x. x.1 ≡ false) (λ x. size_of x.0 ≡ end_turned r.spelling (size_of j)) (λ x. OpensOn o r.past (opened_with x.1 r.past) (size_of x.0))
    (λ x plain same. subst (λ b. OpensOn o r.past (opened_with b r.past) (size_of x.0)) (sym plain)
    (plain_opens o r.past r.form r.end r.spelling c.requires.form c.requires.ends c.requires.spelling (size_of j) is.end (size_of x.0) same never))
    it.ensures.plain it.ensures.size

pub returns-in_default-clause-may : goal.returns-in_default-clause-may
returns-in_default-clause-may g c =
    let o = g.D.Disk.history c.args.disk in
    let r = c.args.read.now in
    let j = c.in-Ok.journal in
    let mid = g.D.Disk.history (disk_of j) in
    let is = c.in-Ok.ensures in
    let it = c.unfolded in
    ok_with it.result (λ x. x.1 ≡ false) (λ x. x.1 ≡ false) (λ x. IsTrue x.1 → MayBeFolded r.past) (λ x plain same folded. absurd (false≢true (sym plain ∙ folded)))
    it.ensures.plain it.ensures.plain

pub returns-in_default-clause-never_falls : goal.returns-in_default-clause-never_falls
returns-in_default-clause-never_falls g c =
    let o = g.D.Disk.history c.args.disk in
    let r = c.args.read.now in
    let j = c.in-Ok.journal in
    let mid = g.D.Disk.history (disk_of j) in
    let is = c.in-Ok.ensures in
    let it = c.unfolded in
    ok_with it.result (λ x. x.1 ≡ false) (λ x. g.D.Disk.fault_count (disk_of j) ≤ g.D.Disk.fault_count (disk_of x.0)) (λ x. g.D.Disk.fault_count c.args.disk ≤ g.D.Disk.fault_count (disk_of x.0))
    (λ x plain rises. omega (arith, rises, is.never_falls)) it.ensures.plain it.ensures.never_falls

pub returns-in_default-clause-any_moment_failed : goal.returns-in_default-clause-any_moment_failed
returns-in_default-clause-any_moment_failed g c =
    let o = g.D.Disk.history c.args.disk in
    let r = c.args.read.now in
    let j = c.in-Ok.journal in
    let mid = g.D.Disk.history (disk_of j) in
    let is = c.in-Ok.ensures in
    let it = c.unfolded in
    let written = start_written o mid r.past is.any_moment c.requires.stands r.form r.end r.spelling is.at_rest c.requires.ends c.requires.spelling (form_of j) (size_of j) is.form is.end in
    err_with it.result (λ e. TurnsOnly mid j r.spelling (g.D.Disk.history e.1)) (λ e. LeavesOpenedAs o (g.D.Disk.history e.1) r.past)
    (λ e turns. only_opened o (g.D.Disk.history e.1) r.past (turned_only o mid r.past is.any_moment c.requires.stands r.form r.end r.spelling is.at_rest c.requires.ends c.requires.spelling (size_of j) is.end (g.D.Disk.history e.1) (turns r.past written)))
    it.ensures.any_moment_failed

pub returns-in_default-clause-never_falls_failed : goal.returns-in_default-clause-never_falls_failed
returns-in_default-clause-never_falls_failed g c =
    let o = g.D.Disk.history c.args.disk in
    let r = c.args.read.now in
    let j = c.in-Ok.journal in
    let mid = g.D.Disk.history (disk_of j) in
    let is = c.in-Ok.ensures in
    let it = c.unfolded in
    err_with it.result (λ e. g.D.Disk.fault_count (disk_of j) ≤ g.D.Disk.fault_count e.1) (λ e. g.D.Disk.fault_count c.args.disk ≤ g.D.Disk.fault_count e.1)
    (λ e rises. omega (arith, rises, is.never_falls)) it.ensures.never_falls_failed

pub returns-in_default-clause-failed : goal.returns-in_default-clause-failed
returns-in_default-clause-failed g c =
    let o = g.D.Disk.history c.args.disk in
    let r = c.args.read.now in
    let j = c.in-Ok.journal in
    let mid = g.D.Disk.history (disk_of j) in
    let is = c.in-Ok.ensures in
    let it = c.unfolded in
    err_with it.result (λ e. Rose (g.D.Disk.fault_count (disk_of j)) (g.D.Disk.fault_count e.1)) (λ e. Rose (g.D.Disk.fault_count c.args.disk) (g.D.Disk.fault_count e.1))
    (λ e rose. rose_from (g.D.Disk.fault_count c.args.disk) (g.D.Disk.fault_count (disk_of j)) (g.D.Disk.fault_count e.1) is.never_falls rose) it.ensures.failed

pub returns-then-not-fold_fits-clause-any_moment : goal.returns-then-not-fold_fits-clause-any_moment
returns-then-not-fold_fits-clause-any_moment g c =
    let o = g.D.Disk.history c.args.disk in
    let r = c.args.read.now in
    let j = c.in-Ok.journal in
    let mid = g.D.Disk.history (disk_of j) in
    let is = c.in-Ok.ensures in
    let it = c.unfolded-then-not-fold_fits in
    let written = start_written o mid r.past is.any_moment c.requires.stands r.form r.end r.spelling is.at_rest c.requires.ends c.requires.spelling (form_of j) (size_of j) is.form is.end in
    ok_with it.result (λ x. x.1 ≡ false) (λ x. TurnsOnly mid j r.spelling (g.D.Disk.history (disk_of x.0))) (λ x. LeavesOnly o (g.D.Disk.history (disk_of x.0)) (StandsForOne (opened_with x.1 r.past) r.past))
    (λ x plain turns. subst (λ b. LeavesOnly o (g.D.Disk.history (disk_of x.0)) (StandsForOne (opened_with b r.past) r.past)) (sym plain)
    (turned_one o mid r.past is.any_moment c.requires.stands r.form r.end r.spelling is.at_rest c.requires.ends c.requires.spelling (size_of j) is.end (g.D.Disk.history (disk_of x.0)) (turns r.past written)))
    it.ensures.plain it.ensures.any_moment

pub returns-then-not-fold_fits-clause-stored : goal.returns-then-not-fold_fits-clause-stored
returns-then-not-fold_fits-clause-stored g c =
    let o = g.D.Disk.history c.args.disk in
    let r = c.args.read.now in
    let j = c.in-Ok.journal in
    let mid = g.D.Disk.history (disk_of j) in
    let is = c.in-Ok.ensures in
    let it = c.unfolded-then-not-fold_fits in
    let written = start_written o mid r.past is.any_moment c.requires.stands r.form r.end r.spelling is.at_rest c.requires.ends c.requires.spelling (form_of j) (size_of j) is.form is.end in
    ok_with it.result (λ x. x.1 ≡ false) (λ x. StoresTurned mid j r.spelling (g.D.Disk.history (disk_of x.0)) x.0) (λ x. AreStoredIn (g.D.Disk.history (disk_of x.0)) x.0 (opened_with x.1 r.past))
    (λ x plain stores. subst (λ b. AreStoredIn (g.D.Disk.history (disk_of x.0)) x.0 (opened_with b r.past)) (sym plain) (stores r.past written))
    it.ensures.plain it.ensures.stored

pub returns-then-not-fold_fits-clause-opens : goal.returns-then-not-fold_fits-clause-opens
returns-then-not-fold_fits-clause-opens g c =
    let o = g.D.Disk.history c.args.disk in
    let r = c.args.read.now in
    let j = c.in-Ok.journal in
    let mid = g.D.Disk.history (disk_of j) in
    let is = c.in-Ok.ensures in
    let it = c.unfolded-then-not-fold_fits in
    let due = rw c.in-Some.is at c.requires.due in
    let folding = c.in-Some.folding in
    let long : folding.size ≡ length (fold_bytes r.past) = due.3 ∙ ap length due.2.0 in
    let never = start_never o mid r.past is.any_moment c.requires.stands r.form r.end r.spelling is.at_rest c.requires.ends c.requires.spelling due.0 due.1 (form_of j) (size_of j) folding.size is.form is.end long
    (λ fits. false≢true (sym c.if-not-fold_fits.true ∙ c.fold_fits.ensures.1 fits)) in
    ok_with it.result (λ x. x.1 ≡ false) (λ x. size_of x.0 ≡ end_turned r.spelling (size_of j)) (λ x. OpensOn o r.past (opened_with x.1 r.past) (size_of x.0))
    (λ x plain same. subst (λ b. OpensOn o r.past (opened_with b r.past) (size_of x.0)) (sym plain)
    (plain_opens o r.past r.form r.end r.spelling c.requires.form c.requires.ends c.requires.spelling (size_of j) is.end (size_of x.0) same never))
    it.ensures.plain it.ensures.size

pub returns-then-not-fold_fits-clause-may : goal.returns-then-not-fold_fits-clause-may
returns-then-not-fold_fits-clause-may g c =
    let o = g.D.Disk.history c.args.disk in
    let r = c.args.read.now in
    let j = c.in-Ok.journal in
    let mid = g.D.Disk.history (disk_of j) in
    let is = c.in-Ok.ensures in
    let it = c.unfolded-then-not-fold_fits in
    ok_with it.result (λ x. x.1 ≡ false) (λ x. x.1 ≡ false) (λ x. IsTrue x.1 → MayBeFolded r.past) (λ x plain same folded. absurd (false≢true (sym plain ∙ folded)))
    it.ensures.plain it.ensures.plain

pub returns-then-not-fold_fits-clause-never_falls : goal.returns-then-not-fold_fits-clause-never_falls
returns-then-not-fold_fits-clause-never_falls g c =
    let o = g.D.Disk.history c.args.disk in
    let r = c.args.read.now in
    let j = c.in-Ok.journal in
    let mid = g.D.Disk.history (disk_of j) in
    let is = c.in-Ok.ensures in
    let it = c.unfolded-then-not-fold_fits in
    ok_with it.result (λ x. x.1 ≡ false) (λ x. g.D.Disk.fault_count (disk_of j) ≤ g.D.Disk.fault_count (disk_of x.0)) (λ x. g.D.Disk.fault_count c.args.disk ≤ g.D.Disk.fault_count (disk_of x.0))
    (λ x plain rises. omega (arith, rises, is.never_falls)) it.ensures.plain it.ensures.never_falls

pub returns-then-not-fold_fits-clause-any_moment_failed : goal.returns-then-not-fold_fits-clause-any_moment_failed
returns-then-not-fold_fits-clause-any_moment_failed g c =
    let o = g.D.Disk.history c.args.disk in
    let r = c.args.read.now in
    let j = c.in-Ok.journal in
    let mid = g.D.Disk.history (disk_of j) in
    let is = c.in-Ok.ensures in
    let it = c.unfolded-then-not-fold_fits in
    let written = start_written o mid r.past is.any_moment c.requires.stands r.form r.end r.spelling is.at_rest c.requires.ends c.requires.spelling (form_of j) (size_of j) is.form is.end in
    err_with it.result (λ e. TurnsOnly mid j r.spelling (g.D.Disk.history e.1)) (λ e. LeavesOpenedAs o (g.D.Disk.history e.1) r.past)
    (λ e turns. only_opened o (g.D.Disk.history e.1) r.past (turned_only o mid r.past is.any_moment c.requires.stands r.form r.end r.spelling is.at_rest c.requires.ends c.requires.spelling (size_of j) is.end (g.D.Disk.history e.1) (turns r.past written)))
    it.ensures.any_moment_failed

pub returns-then-not-fold_fits-clause-never_falls_failed : goal.returns-then-not-fold_fits-clause-never_falls_failed
returns-then-not-fold_fits-clause-never_falls_failed g c =
    let o = g.D.Disk.history c.args.disk in
    let r = c.args.read.now in
    let j = c.in-Ok.journal in
    let mid = g.D.Disk.history (disk_of j) in
    let is = c.in-Ok.ensures in
    let it = c.unfolded-then-not-fold_fits in
    err_with it.result (λ e. g.D.Disk.fault_count (disk_of j) ≤ g.D.Disk.fault_count e.1) (λ e. g.D.Disk.fault_count c.args.disk ≤ g.D.Disk.fault_count e.1)
    (λ e rises. omega (arith, rises, is.never_falls)) it.ensures.never_falls_failed

pub returns-then-not-fold_fits-clause-failed : goal.returns-then-not-fold_fits-clause-failed
returns-then-not-fold_fits-clause-failed g c =
    let o = g.D.Disk.history c.args.disk in
    let r = c.args.read.now in
    let j = c.in-Ok.journal in
    let mid = g.D.Disk.history (disk_of j) in
    let is = c.in-Ok.ensures in
    let it = c.unfolded-then-not-fold_fits in
    err_with it.result (λ e. Rose (g.D.Disk.fault_count (disk_of j)) (g.D.Disk.fault_count e.1)) (λ e. Rose (g.D.Disk.fault_count c.args.disk) (g.D.Disk.fault_count e.1))
    (λ e rose. rose_from (g.D.Disk.fault_count c.args.disk) (g.D.Disk.fault_count (disk_of j)) (g.D.Disk.fault_count e.1) is.never_falls rose) it.ensures.failed

pub returns-in-Ok-apply-clause-any_moment : goal.returns-in-Ok-apply-clause-any_moment
returns-in-Ok-apply-clause-any_moment g c =
    let r = c.args.read.now in
    let j = c.in-Ok.journal in
    let o = g.D.Disk.history c.args.disk in
    let mid = g.D.Disk.history (disk_of j) in
    let is = c.in-Ok.ensures in
    let due = rw c.in-Some.is at c.requires.due in
    let folding = c.in-Some.folding in
    let long : folding.size ≡ length (fold_bytes r.past) = due.3 ∙ ap length due.2.0 in
    let written = start_written o mid r.past is.any_moment c.requires.stands r.form r.end r.spelling is.at_rest c.requires.ends c.requires.spelling (form_of j) (size_of j) is.form is.end in
    start_folded o mid r.past is.any_moment c.requires.stands r.form r.end r.spelling is.at_rest c.requires.ends c.requires.spelling due.0 due.1 (form_of j) (size_of j) folding.size is.form is.end long
    (c.fold_fits.ensures.0 c.if-not-fold_fits.false) (g.D.Disk.history (disk_of c.apply.new.journal)) (c.apply.ensures.any_moment r.past r.spelling due.2 written)

pub returns-in-Ok-apply-clause-stored : goal.returns-in-Ok-apply-clause-stored
returns-in-Ok-apply-clause-stored g c =
    let r = c.args.read.now in
    let j = c.in-Ok.journal in
    let o = g.D.Disk.history c.args.disk in
    let mid = g.D.Disk.history (disk_of j) in
    let is = c.in-Ok.ensures in
    let due = rw c.in-Some.is at c.requires.due in
    let folding = c.in-Some.folding in
    let long : folding.size ≡ length (fold_bytes r.past) = due.3 ∙ ap length due.2.0 in
    let written = start_written o mid r.past is.any_moment c.requires.stands r.form r.end r.spelling is.at_rest c.requires.ends c.requires.spelling (form_of j) (size_of j) is.form is.end in
    c.in-Ok-apply.ensures.stored r.past r.spelling due.2 written

pub returns-in-Ok-apply-clause-opens : goal.returns-in-Ok-apply-clause-opens
returns-in-Ok-apply-clause-opens g c =
    let r = c.args.read.now in
    let j = c.in-Ok.journal in
    let o = g.D.Disk.history c.args.disk in
    let mid = g.D.Disk.history (disk_of j) in
    let is = c.in-Ok.ensures in
    let due = rw c.in-Some.is at c.requires.due in
    let folding = c.in-Some.folding in
    let long : folding.size ≡ length (fold_bytes r.past) = due.3 ∙ ap length due.2.0 in
    start_opens o mid r.past is.any_moment c.requires.stands r.form r.end r.spelling is.at_rest c.requires.ends c.requires.spelling due.0 due.1 (form_of j) (size_of j) folding.size is.form is.end long
    (c.fold_fits.ensures.0 c.if-not-fold_fits.false) (size_of c.apply.new.journal) c.in-Ok-apply.ensures.size

pub returns-in-Err-apply-clause-any_moment_failed : goal.returns-in-Err-apply-clause-any_moment_failed
returns-in-Err-apply-clause-any_moment_failed g c =
    let r = c.args.read.now in
    let j = c.in-Ok.journal in
    let o = g.D.Disk.history c.args.disk in
    let mid = g.D.Disk.history (disk_of j) in
    let is = c.in-Ok.ensures in
    let due = rw c.in-Some.is at c.requires.due in
    let folding = c.in-Some.folding in
    let long : folding.size ≡ length (fold_bytes r.past) = due.3 ∙ ap length due.2.0 in
    let written = start_written o mid r.past is.any_moment c.requires.stands r.form r.end r.spelling is.at_rest c.requires.ends c.requires.spelling (form_of j) (size_of j) is.form is.end in
    subst (λ d. LeavesOpenedAs o (g.D.Disk.history d) r.past) (sym c.end.ensures)
    (start_failed o mid r.past is.any_moment c.requires.stands r.form r.end r.spelling is.at_rest c.requires.ends c.requires.spelling due.0 due.1 (form_of j) (size_of j) folding.size is.form is.end long
    (c.fold_fits.ensures.0 c.if-not-fold_fits.false) (g.D.Disk.history (disk_of c.apply.new.journal)) (c.apply.ensures.any_moment r.past r.spelling due.2 written))
