use Rattle.journal_core.specs.Journal.{disk_of, form_of, size_of, staged_of}
use Rattle.house.proofs.FoldFacts.{staged_only, folds_only, folds_store}
use Rattle.house.proofs.folding.Folding.apply.Goals as goal

pub returns-in_err-stage-clause-any_moment : goal.returns-in_err-stage-clause-any_moment
returns-in_err-stage-clause-any_moment g c = λ h last fold written.
    let j = c.args.journal.now in
    staged_only (g.D.Disk.history (disk_of j)) (g.D.Disk.history (disk_of c.stage.new.self)) (form_of j) (size_of j) last h c.stage.ensures.any_moment written

pub returns-in_err-switch-clause-any_moment : goal.returns-in_err-switch-clause-any_moment
returns-in_err-switch-clause-any_moment g c = λ h last fold written.
    let j = c.args.journal.now in
    let mid = c.stage.new.self in
    folds_only (g.D.Disk.history (disk_of j)) (g.D.Disk.history (disk_of mid)) (form_of j) (size_of j) last h c.stage.ensures.any_moment written c.in_ok-stage.ensures.done
    (g.D.Disk.history (disk_of c.switch.new.self)) c.args.self.now.frame fold (staged_of mid) (rw c.stage.ensures.form at c.in_ok-stage.ensures.to_switch) c.in_ok-stage.ensures.staged
    (rw (c.stage.ensures.form, c.stage.ensures.size) at c.switch.ensures.any_moment)

pub returns-clause-any_moment : goal.returns-clause-any_moment
returns-clause-any_moment g c = λ h last fold written.
    let j = c.args.journal.now in
    let mid = c.stage.new.self in
    folds_only (g.D.Disk.history (disk_of j)) (g.D.Disk.history (disk_of mid)) (form_of j) (size_of j) last h c.stage.ensures.any_moment written c.in_ok-stage.ensures.done
    (g.D.Disk.history (disk_of c.switch.new.self)) c.args.self.now.frame fold (staged_of mid) (rw c.stage.ensures.form at c.in_ok-stage.ensures.to_switch) c.in_ok-stage.ensures.staged
    (rw (c.stage.ensures.form, c.stage.ensures.size) at c.switch.ensures.any_moment)

pub returns-clause-stored : goal.returns-clause-stored
returns-clause-stored g c = λ h last fold written.
    let j = c.args.journal.now in
    let mid = c.stage.new.self in
    folds_store (g.D.Disk.history (disk_of j)) (g.D.Disk.history (disk_of mid)) (form_of j) (size_of j) last h c.stage.ensures.any_moment written c.in_ok-stage.ensures.done
    (g.D.Disk.history (disk_of c.switch.new.self)) c.args.self.now.frame fold (staged_of mid) (form_of c.switch.new.self) (size_of c.switch.new.self)
    (rw c.stage.ensures.form at c.in_ok-stage.ensures.to_switch) c.in_ok-stage.ensures.staged
    (rw (c.stage.ensures.form, c.stage.ensures.size) at c.switch.ensures.any_moment) c.in_ok-switch.ensures.done
