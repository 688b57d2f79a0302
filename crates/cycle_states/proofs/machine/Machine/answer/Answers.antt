use Rattle.std.proofs.Common.{◌≡◌, ◌≤◌, ◌∙◌, IfOk, IsTrue, is_some, None, subst, ap, sym}
use Rattle.command_types.specs.declared.answer.Answer.{Answer}
use Rattle.command_types.specs.Machine.{first_of, refusals}
use Rattle.command_types.specs.History.{is_recorded}
use Rattle.command_types.specs.Spelling.{posted, most_solutions}
use Rattle.cycle_states.specs.Machine.{state_with, MachineView}
use Rattle.cycle_states.proofs.MachineFacts.{accepted_answer}
use Rattle.cycle_states.proofs.RecordFacts.{if_ok, refusal_unrecorded, recorded_party, few_posted}
use Rattle.cycle_states.proofs.machine.Machine.answer.Goals as goal

pub returns-in-None-clause-answer : goal.returns-in-None-clause-answer
returns-in-None-clause-answer c =
    let none = sym (rw c.in-None.is at c.in_ok-refusal.ensures.refused) in
    let Tells : Answer → Type 0 = λ told. IfOk c.accepted.result (λ answer. answer ≡ told) in
    subst Tells (sym (accepted_answer c.args.self.now.state c.args.ask.now none)) c.accepted.ensures.told

pub returns-in-Some-clause-party : goal.returns-in-Some-clause-party
returns-in-Some-clause-party c = λ change. absurd (refusal_unrecorded c.args.ask.now.what c.in-Some.refusal change)

pub returns-in-Some-clause-few : goal.returns-in-Some-clause-few
returns-in-Some-clause-few c = λ change. absurd (refusal_unrecorded c.args.ask.now.what c.in-Some.refusal change)

pub returns-in-None-clause-party : goal.returns-in-None-clause-party
returns-in-None-clause-party c =
    let ask = c.args.ask.now in
    let none = sym (rw c.in-None.is at c.in_ok-refusal.ensures.refused) in
    if_ok c.accepted.result (λ answer. IsTrue (is_recorded ask.what answer) → IsTrue (is_some ask.by)) (λ answer change. recorded_party c.args.self.now.state ask.by ask.what answer none change)

pub returns-in-None-clause-few : goal.returns-in-None-clause-few
returns-in-None-clause-few c =
    let m = c.self.inside in
    let ask = c.args.ask.now in
    let s = state_with m.roster m.book.rows m.tolerances.settings m.cycle in
    let none : first_of (refusals s ask.by ask.what) ≡ None =
    ap (λ (v : MachineView). first_of (refusals v.state ask.by ask.what)) c.self.view_is ∙ sym (rw c.in-None.is at c.in_ok-refusal.ensures.refused) in
    if_ok c.accepted.result (λ answer. IsTrue (is_recorded ask.what answer) → posted ask.what ≤ most_solutions)
    (λ answer change. few_posted m.roster m.book.members m.book.products m.book.rows m.cycle c.self.invariant.0 m.tolerances.settings ask.by ask.what none)
