use Rattle.std.proofs.Common.{Option, IfSome, subst, sym}
use Rattle.journal_core.specs.Journal.{IsReadyToSwitch}
use Rattle.journal_core.specs.Calls.{IsSwitching, IsSwitched}
use Rattle.journal_core.specs.declared.form.Form.TheVariants.{Slots}
use Rattle.journal_core.specs.declared.staged.Staged.{Staged}
use Rattle.journal_core.proofs.FoldFacts.{switching, switched, switched_ready}
use Rattle.journal_core.proofs.journal.Journal.switch.Goals as goal

pub returns-in_err-put-clause-any_moment : goal.returns-in_err-put-clause-any_moment
returns-in_err-put-clause-any_moment g c =
    let was = g.D.Disk.history c.args.self.now.disk in
    let after = g.D.Disk.history c.put.new.disk in
    let form = c.args.self.now.form in
    let may = subst (IsReadyToSwitch was form) c.in-Some.is c.requires.staged in
    subst (λ (o : Option Staged). IfSome o (λ s. IsSwitching was after form c.args.self.now.end s)) (sym c.in-Some.is)
    (switching form was after c.args.self.now.end c.in-Some.staged may.0 may.1 c.put.ensures.any_moment)

pub returns-clause-any_moment : goal.returns-clause-any_moment
returns-clause-any_moment g c =
    let was = g.D.Disk.history c.args.self.now.disk in
    let after = g.D.Disk.history c.put.new.disk in
    let form = c.args.self.now.form in
    let may = subst (IsReadyToSwitch was form) c.in-Some.is c.requires.staged in
    subst (λ (o : Option Staged). IfSome o (λ s. IsSwitching was after form c.args.self.now.end s)) (sym c.in-Some.is)
    (switching form was after c.args.self.now.end c.in-Some.staged may.0 may.1 c.put.ensures.any_moment)

pub returns-clause-done : goal.returns-clause-done
returns-clause-done g c =
    let was = g.D.Disk.history c.args.self.now.disk in
    let after = g.D.Disk.history c.put.new.disk in
    let form = c.args.self.now.form in
    let s = c.in-Some.staged in
    let may = subst (IsReadyToSwitch was form) c.in-Some.is c.requires.staged in
    subst (λ (o : Option Staged). IfSome o (λ t. IsSwitched was after t (Slots s.selected s.offset) s.end)) (sym c.in-Some.is)
    (switched form was after c.args.self.now.end s may.0 may.1 c.requires.ready c.in_ok-put.ensures.done)

pub returns-clause-ready : goal.returns-clause-ready
returns-clause-ready g c =
    let was = g.D.Disk.history c.args.self.now.disk in
    let after = g.D.Disk.history c.put.new.disk in
    let form = c.args.self.now.form in
    let s = c.in-Some.staged in
    let may = subst (IsReadyToSwitch was form) c.in-Some.is c.requires.staged in
    switched_ready was after s (Slots s.selected s.offset) s.end may.2 (switched form was after c.args.self.now.end s may.0 may.1 c.requires.ready c.in_ok-put.ensures.done)
