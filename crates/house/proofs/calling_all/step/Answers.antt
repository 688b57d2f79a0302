use Rattle.std.proofs.Common.{◌≡◌, ℕ, ◌+◌, ◌<◌, inl, inr, true, false, not, IsTrue, refl, ap, sym, ◌∙◌, subst, arith}
use Rattle.std.proofs.lemmas.Bool.{ltb-true}
use Rattle.command_types.specs.declared.answer.Answer.{Answer}
use Rattle.command_types.specs.declared.ask.Entry.{Entry}
use Rattle.command_types.specs.declared.figures.State.{State}
use Rattle.command_types.specs.History.{is_recorded}
use Rattle.command_types.specs.Machine.{answer_to}
use Rattle.command_types.specs.Sizes.{frame_size, journal_limit, record_size}
use Rattle.house.specs.Batch.{BatchView, end_of_batch, size_of_batch}
use Rattle.house.specs.Step.{IsAcceptedChange, IsWritten}
use Rattle.house.proofs.StepFacts.{accepted_same, change_made, goes_same, is_change, not_back}
use Rattle.house.proofs.ToldFacts.{no_room, has_room}
use Rattle.house.proofs.calling_all.step.Goals as goal

pub returns-in-Err-clause-told : goal.returns-in-Err-clause-told
returns-in-Err-clause-told c = inr (c.decide.ensures.state, refl, inr (inr (rw c.end-at.ensures at c.refused.ensures)))

pub returns-in-Ok-Told-clause-told : goal.returns-in-Ok-Told-clause-told
returns-in-Ok-Told-clause-told c =
    let nothing = rw c.in-Ok-Told.field-0-is at c.in-Ok-Told.ensures.decides in
    let ask = c.args.command.ask in
    let s : State = c.args.machine.now.state in
    let told : c.in-Ok-Told.answer ≡ answer_to s ask = nothing.told ∙ ap (λ (t : State). answer_to t ask) c.decide.ensures.state in
    inr (
      c.decide.ensures.state,
      refl,
      inl (
        ap (λ (n : ℕ). record { at = n; answer = c.in-Ok-Told.answer }) c.end-at.ensures ∙ ap (λ (a : Answer). record { at = end_of_batch c.args.batch.now; answer = a }) told,
        ap not (ap (is_recorded ask.what) (sym told) ∙ nothing.no_change),
      ),
    )

pub returns-then-not-fits-clause-told : goal.returns-then-not-fits-clause-told
returns-then-not-fits-clause-told c =
    let decided = rw c.in-Ok-Ready.field-0-is at c.in-Ok-Ready.ensures.decides in
    let s : State = c.args.machine.now.state in
    let entry : Entry = c.in-Ok-Ready.ready.entry in
    let command : Entry = c.args.command in
    let accepted : IsAcceptedChange s command = accepted_same s c.decide.new.self.state entry command decided.0 c.decide.ensures.state decided.1.accepted in
    let sized : c.length.result ≡ record_size command.ask = c.length.ensures.size ∙ ap (λ (e : Entry). record_size e.ask) (c.entry.ensures ∙ decided.0) in
    let full = no_room c.fits.result (size_of_batch c.args.batch.now) c.length.result command.ask c.if-not-fits.true c.fits.ensures sized in
    inr (
      c.decide.ensures.state,
      refl,
      inr (inl (
        accepted,
        ltb-true journal_limit (size_of_batch c.args.batch.now + frame_size command.ask) full,
        rw (c.end-at.ensures, c.size-size.ensures) at c.refused-then-not-fits.ensures,
      )),
    )

pub returns-in-None-clause-apart : goal.returns-in-None-clause-apart
returns-in-None-clause-apart c =
    let decided = rw c.in-Ok-Ready.field-0-is at c.in-Ok-Ready.ensures.decides in
    not_back c.args.machine.now.state c.decide.new.self.state c.in-Ok-Ready.ready.entry c.args.command c.undo_of.result decided.0 c.decide.ensures.state c.undo_of.ensures.some c.in-None.is

pub undo_of-requires-clause-accepted : goal.undo_of-requires-clause-accepted
undo_of-requires-clause-accepted c = let decided = rw c.in-Ok-Ready.field-0-is at c.in-Ok-Ready.ensures.decides in decided.1.accepted

pub undo_of-requires-clause-ready : goal.undo_of-requires-clause-ready
undo_of-requires-clause-ready c = let decided = rw c.in-Ok-Ready.field-0-is at c.in-Ok-Ready.ensures.decides in decided.1.ready

pub write-requires-clause-change : goal.write-requires-clause-change
write-requires-clause-change c =
    let decided = rw c.in-Ok-Ready.field-0-is at c.in-Ok-Ready.ensures.decides in
    rw c.entry-2.ensures (is_change _ _ decided.1.accepted)

pub write-requires-clause-party : goal.write-requires-clause-party
write-requires-clause-party c =
    let decided = rw c.in-Ok-Ready.field-0-is at c.in-Ok-Ready.ensures.decides in
    rw c.entry-2.ensures decided.1.party

pub write-requires-clause-posted : goal.write-requires-clause-posted
write-requires-clause-posted c =
    let decided = rw c.in-Ok-Ready.field-0-is at c.in-Ok-Ready.ensures.decides in
    rw c.entry-2.ensures decided.1.few

pub returns-in-Err-clause-goes_on : goal.returns-in-Err-clause-goes_on
returns-in-Err-clause-goes_on c = goes_same c.args.batch.now c.args.past.now c.args.past.now c.requires.fits c.requires.room (omega arith) refl

pub returns-in-Ok-Told-clause-goes_on : goal.returns-in-Ok-Told-clause-goes_on
returns-in-Ok-Told-clause-goes_on c = goes_same c.args.batch.now c.args.past.now c.args.past.now c.requires.fits c.requires.room (omega arith) refl

pub returns-then-not-fits-clause-goes_on : goal.returns-then-not-fits-clause-goes_on
returns-then-not-fits-clause-goes_on c = goes_same c.args.batch.now c.args.past.now c.args.past.now c.requires.fits c.requires.room (omega arith) refl

pub returns-in-None-clause-goes_on : goal.returns-in-None-clause-goes_on
returns-in-None-clause-goes_on c = goes_same c.args.batch.now c.args.past.now c.args.past.now c.requires.fits c.requires.room (omega arith) refl

pub returns-clause-told : goal.returns-clause-told
returns-clause-told c =
    let decided = rw c.in-Ok-Ready.field-0-is at c.in-Ok-Ready.ensures.decides in
    let written : IsWritten c.args.batch.now c.write.new.self c.in-Ok-Ready.ready.entry = rw c.entry-2.ensures at c.in_default.ensures.written in
    inl (change_made c.args.machine.now.state c.decide.new.self.state c.commit-entry.new.self.state c.args.batch.now c.write.new.self c.push.new.self c.args.command c.in-Ok-Ready.ready.entry
    c.commit-entry.result.0 c.commit-entry.result.1 c.end-at.result c.in-Some.undo c.decide.ensures.state decided.0 c.commit-entry.ensures.entry decided.1.accepted c.commit-entry.ensures.answer c.commit-entry.ensures.state
    c.commit-entry.ensures.solutions c.in-Some.ensures.back written c.push.ensures c.end-at.ensures)
