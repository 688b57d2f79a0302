use Rattle.std.proofs.Common.{◌≡◌, ◌∙◌, ◌<◌, ◌+◌, List, [], ◌∷◌, length, Err, Option, Some, None, IfErr, refl, rules, sym, subst, ap, arith, length-append}
use Rattle.command_types.specs.declared.ask.Entry.{Entry}
use Rattle.command_types.specs.declared.figures.Start.{Start}
use Rattle.command_types.specs.History.{History, end_of}
use Rattle.command_types.specs.Machine.{answer_to}
use Rattle.journal_core.specs.Holds.{limit}
use Rattle.recovery.specs.declared.entries.EntryAt.{EntryAt}
use Rattle.recovery.specs.declared.reader.EntryReader.{EntryReader}
use Rattle.recovery.specs.Reading.{file_of, AreLeft, IsNext}
use Rattle.cycle_states.specs.Replayed.{base_at}
use Rattle.cycle_states.proofs.CycleFacts.{young_of}
use Rattle.house.specs.Opening.{IsReplayFault}
use Rattle.house.specs.Executions.{told_of}
use Rattle.house.proofs.ExecutionFacts.{none_noted, one_noted}
use Rattle.house.proofs.ReplayFacts.{so_far_none, so_far_more, so_far_few, so_far_state, so_far_fault, so_far_all, so_far_memory}
use Rattle.house.proofs.recovering.replay.Goals as goal

pub loop-past-init : goal.loop-past-init
loop-past-init c = record {
  so_far = so_far_none (base_at c.args.position c.args.machine.now.state) (file_of c.args.read.now) c.reader-reader.result c.args.machine.now.state c.at-past.result c.at-past.ensures refl (c.reader-reader.ensures.all c.requires.read);
  told = none_noted c.args.machine.now.state c.args.position c.at-past.result.entries (told_of c.args.executions.now) (ap (λ (h : History). h.entries) c.at-past.ensures);
}

pub returns-in_err-item-clause-fault : goal.returns-in_err-item-clause-fault
returns-in_err-item-clause-fault c = λ list read.
    let s = c.args.machine.now.state in
    let fault = c.in_err-item.field-0.0 in
    let is : c.from_residual.result ≡ Err fault = search rules in
    subst (λ r. IfErr r (IsReplayFault s list)) (sym is)
    (so_far_memory (base_at c.args.position s) (file_of c.args.read.now) list c.loop-past.reader c.loop-past.machine.state c.loop-past.past fault c.loop-past.invariant.so_far read c.in_err-item.ensures.fault)

pub accept-requires : goal.accept-requires
accept-requires c =
    let so_far = c.loop-past.invariant.so_far in
    let past = c.loop-past.past in
    let few : length past.entries < limit =
    so_far_few (base_at c.args.position c.args.machine.now.state) (file_of c.args.read.now) c.requires.read.0 c.loop-past.reader c.loop-past.machine.state past c.requires.read.1 so_far in
    let number = ap (λ (b : Start). b.state.cycle.number) so_far.begins in
    let version = ap (λ (b : Start). b.state.cycle.version) so_far.begins in
    young_of c.loop-past.machine.state past so_far.replayed (omega (arith, few, number, c.requires.small.cycle)) (omega (arith, few, version, c.requires.small.version))

pub push-requires : goal.push-requires
push-requires c =
    let few : length c.loop-past.past.entries < limit =
    so_far_few (base_at c.args.position c.args.machine.now.state) (file_of c.args.read.now) c.requires.read.0 c.loop-past.reader c.loop-past.machine.state c.loop-past.past c.requires.read.1 c.loop-past.invariant.so_far in
    omega (arith, few)

pub returns-in_err-entry-clause-fault : goal.returns-in_err-entry-clause-fault
returns-in_err-entry-clause-fault c = λ list read.
    let s = c.args.machine.now.state in
    let fault = c.in_err-entry.field-0.0 in
    let next : EntryReader = c.next.new.self in
    let here : (l : List EntryAt) → AreLeft c.loop-past.reader l → IsNext l next (Some c.in-Some.item) =
    λ l left. subst (λ (o : Option EntryAt). IsNext l next o) c.in-Some.is (c.in_ok-item.ensures.next l left) in
    let is : c.from_residual-in_err-entry.result ≡ Err fault = search rules in
    subst (λ r. IfErr r (IsReplayFault s list)) (sym is)
    (so_far_fault (base_at c.args.position s) (file_of c.args.read.now) list c.loop-past.reader next c.loop-past.machine.state c.loop-past.past c.in-Some.item fault c.loop-past.invariant.so_far read here c.in_err-entry.ensures.fault)

pub loop-past-preserved : goal.loop-past-preserved
loop-past-preserved c =
    let s = c.args.machine.now.state in
    let base = base_at c.args.position s in
    let next : EntryReader = c.next.new.self in
    let here : (l : List EntryAt) → AreLeft c.loop-past.reader l → IsNext l next (Some c.in-Some.item) =
    λ l left. subst (λ (o : Option EntryAt). IsNext l next o) c.in-Some.is (c.in_ok-item.ensures.next l left) in
    let file = file_of c.args.read.now in
    let so_far = c.loop-past.invariant.so_far in
    let past = c.loop-past.past in
    let now = c.loop-past.machine.state in
    let starts : past.base.position ≡ c.args.position = ap (λ (b : Start). b.position) so_far.begins in
    let long : end_of c.push.new.self ≡ c.args.position + length past.entries + 1 = omega (arith, ap end_of c.push.ensures, starts, length-append past.entries (c.in_ok-entry.entry ∷ [])) in
    record {
      so_far = so_far_more base file c.loop-past.reader next now c.accept.new.machine.state past c.push.new.self c.in-Some.item c.in_ok-entry.entry so_far here c.in_ok-entry.ensures.entry
          c.in_ok-entry.ensures.accepted c.in_ok-entry.ensures.state c.push.ensures;
      told = one_noted s c.args.position past.entries c.push.new.self.entries c.in_ok-entry.entry c.in_ok-entry.answer c.length.result now (told_of c.args.executions.now) (told_of c.loop-past.executions) (told_of c.note.new.self)
          c.loop-past.invariant.told c.in_ok-note.ensures (ap (λ (h : History). h.entries) c.push.ensures) (so_far_state base file c.loop-past.reader now past so_far)
          (c.in_ok-entry.ensures.answer ∙ ap (λ (e : Entry). answer_to now e.ask) (sym c.in_ok-entry.ensures.entry)) (c.length.ensures.length ∙ long);
    }

pub loop-past-preserved-in_ok-note : goal.loop-past-preserved-in_ok-note
loop-past-preserved-in_ok-note c =
    let s = c.args.machine.now.state in
    let base = base_at c.args.position s in
    let next : EntryReader = c.next.new.self in
    let here : (l : List EntryAt) → AreLeft c.loop-past.reader l → IsNext l next (Some c.in-Some.item) =
    λ l left. subst (λ (o : Option EntryAt). IsNext l next o) c.in-Some.is (c.in_ok-item.ensures.next l left) in
    let file = file_of c.args.read.now in
    let so_far = c.loop-past.invariant.so_far in
    let past = c.loop-past.past in
    let now = c.loop-past.machine.state in
    let starts : past.base.position ≡ c.args.position = ap (λ (b : Start). b.position) so_far.begins in
    let long : end_of c.push.new.self ≡ c.args.position + length past.entries + 1 = omega (arith, ap end_of c.push.ensures, starts, length-append past.entries (c.in_ok-entry.entry ∷ [])) in
    record {
      so_far = so_far_more base file c.loop-past.reader next now c.accept.new.machine.state past c.push.new.self c.in-Some.item c.in_ok-entry.entry so_far here c.in_ok-entry.ensures.entry
          c.in_ok-entry.ensures.accepted c.in_ok-entry.ensures.state c.push.ensures;
      told = one_noted s c.args.position past.entries c.push.new.self.entries c.in_ok-entry.entry c.in_ok-entry.answer c.length.result now (told_of c.args.executions.now) (told_of c.loop-past.executions) (told_of c.note.new.self)
          c.loop-past.invariant.told c.in_ok-note.ensures (ap (λ (h : History). h.entries) c.push.ensures) (so_far_state base file c.loop-past.reader now past so_far)
          (c.in_ok-entry.ensures.answer ∙ ap (λ (e : Entry). answer_to now e.ask) (sym c.in_ok-entry.ensures.entry)) (c.length.ensures.length ∙ long);
    }

pub returns-clause-base : goal.returns-clause-base
returns-clause-base c = c.loop-past.invariant.so_far.begins

pub returns-clause-entries : goal.returns-clause-entries
returns-clause-entries c = λ list read.
    let next : EntryReader = c.next.new.self in
    let none : c.in_ok-item.field-0 ≡ None = search rules in
    so_far_all (base_at c.args.position c.args.machine.now.state) (file_of c.args.read.now) list c.loop-past.reader next c.loop-past.machine.state c.loop-past.past c.loop-past.invariant.so_far read
    (λ l left. subst (λ (o : Option EntryAt). IsNext l next o) none (c.in_ok-item.ensures.next l left))
