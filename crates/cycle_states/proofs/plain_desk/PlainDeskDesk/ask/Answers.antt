use Rattle.std.proofs.Common.{◌≡◌, ◌∙◌, ℕ, ◌+◌, ◌∷◌, ◌++◌, [], All, Option, true, false, arith, refl, rules, ap, sym, subst}
use Rattle.std.specs.Prelude.{unwrap_or}
use Rattle.command_types.specs.declared.ask.Entry.{Entry}
use Rattle.command_types.specs.declared.figures.State.{State}
use Rattle.network_laws.specs.Solutions.{IsSolution}
use Rattle.command_types.specs.declared.answer.Answer.{Answer}
use Rattle.command_types.specs.declared.answer.Answer.TheVariants.{No}
use Rattle.command_types.specs.declared.answer.Reply.{Reply}
use Rattle.command_types.specs.declared.ask.What.{What}
use Rattle.command_types.specs.Told.{IsTold}
use Rattle.cycle_states.specs.declared.offers.OpenAsk.{OpenAsk}
use Rattle.cycle_states.specs.declared.offers.Places.{Places}
use Rattle.cycle_states.specs.Offers.{filled_at, open_ask}
use Rattle.command_types.specs.declared.refusal.Refusal.TheVariants.{Memory}
use Rattle.command_types.specs.Machine.{answer_to, state_after}
use Rattle.command_types.specs.History.{History, IsLegal, is_recorded, longer, recorded, solutions_posted}
use Rattle.cycle_states.specs.PlainDesk.{plain_figures}
use Rattle.cycle_states.specs.Replayed.{history_from}
use Rattle.command_types.proofs.HistoryFacts.{told_memory}
use Rattle.cycle_states.proofs.CycleFacts.{young_plain}
use Rattle.cycle_states.proofs.DecisionFacts.{answered_before, change_before, refusal_unkept}
use Rattle.cycle_states.proofs.DeskFacts.{filled_unrecorded, grown, not_grown, plain_more, replayed_more, told_filled, told_recorded}
use Rattle.cycle_states.proofs.plain_desk.PlainDeskDesk.ask.Goals as goal
use Rattle.cycle_states.proofs.plain_desk.PlainDeskDesk.ask.Goals.{then-begins, else-begins}

pub decide-requires : goal.decide-requires
decide-requires c = young_plain c.self.inside.machine.state c.self.inside.begun_at (history_from 0 c.self.inside.first.value.state c.self.inside.entries.items) c.self.invariant (search rules)

pub record-requires-clause-young : goal.record-requires-clause-young
record-requires-clause-young c = rw c.decide.ensures.state (young_plain c.self.inside.machine.state c.self.inside.begun_at (history_from 0 c.self.inside.first.value.state c.self.inside.entries.items) c.self.invariant (search rules))

pub returns-in-Err-clause-told : goal.returns-in-Err-clause-told
returns-in-Err-clause-told c =
    told_memory (plain_figures c.args.self.now) false false (history_from 0 c.self.inside.first.value.state c.self.inside.entries.items) c.args.seat c.args.ask c.no_memory.result
    (rw c.no_memory.ensures (omega arith)) (record { same = ap (λ r. r.answer) c.no_memory.ensures; takes = λ vote. refl })

-- the reply to what is told
reply_by : (at : ℕ) (o : Option Answer) (asked : OpenAsk) (what : What) (places : Places) (machine : Answer) (reply : Reply) → reply ≡ record { at = at; answer = unwrap_or o (No Memory) } → o ≡ filled_at places asked machine →
    asked ≡ open_ask what → reply ≡ record { at = at; answer = unwrap_or (filled_at places (open_ask what) machine) (No Memory) }
reply_by at o asked what places machine reply is by from =
    is ∙ ap (λ (p : Option Answer). record { at = at; answer = unwrap_or p (No Memory) }) (by ∙ ap (λ (a : OpenAsk). filled_at places a machine) from)

pub returns-in-Ok-Told-clause-told : goal.returns-in-Ok-Told-clause-told
returns-in-Ok-Told-clause-told c =
    let nothing = rw c.in-Ok-Told.field-0-is at c.in-Ok-Told.ensures.decides in
    let h : History = history_from 0 c.self.inside.first.value.state c.self.inside.entries.items in
    let told = told_filled c.self.inside.machine.state h c.args.ask c.in-Ok-Told.answer c.places.result
    c.self.invariant.replayed nothing.no_change (nothing.told ∙ ap (λ (s : State). answer_to s c.args.ask) c.decide.ensures.state) c.places.ensures
    (plain_figures c.args.self.now) false c.args.seat c.len-at.result refl (omega arith) in
    subst (λ (r : Reply). IsTold (plain_figures c.args.self.now) false false h c.args.seat c.args.ask r)
    (sym (reply_by c.len-at.result c.filled.result c.open_ask-asked.result c.args.ask.what c.places.result c.in-Ok-Told.answer c.told.result c.told.ensures c.filled.ensures c.open_ask-asked.ensures)) told

pub returns-in-Ok-Told-clause-grows : goal.returns-in-Ok-Told-clause-grows
returns-in-Ok-Told-clause-grows c =
    let nothing = rw c.in-Ok-Told.field-0-is at c.in-Ok-Told.ensures.decides in
    let h : History = history_from 0 c.self.inside.first.value.state c.self.inside.entries.items in
    let same = reply_by c.len-at.result c.filled.result c.open_ask-asked.result c.args.ask.what c.places.result c.in-Ok-Told.answer c.told.result c.told.ensures c.filled.ensures c.open_ask-asked.ensures in
    let off = filled_unrecorded c.self.inside.machine.state h c.args.ask c.in-Ok-Told.answer c.places.result c.self.invariant.replayed nothing.no_change (nothing.told ∙ ap (λ (s : State). answer_to s c.args.ask) c.decide.ensures.state) c.places.ensures in
    not_grown h c.self.inside.entries.items c.args.seat c.args.ask c.told.result.answer refl (ap (λ (r : Reply). is_recorded c.args.ask.what r.answer) same ∙ off)
    ∙ ap (λ (g : History). longer g (recorded c.args.seat c.args.ask c.told.result.answer)) c.self.view_is

pub returns-in-Err-record-clause-told : goal.returns-in-Err-record-clause-told
returns-in-Err-record-clause-told c =
    told_memory (plain_figures c.args.self.now) false false (history_from 0 c.self.inside.first.value.state c.record.new.entries.items) c.args.seat c.args.ask c.no_memory-in-Err-record.result
    (rw (c.no_memory-in-Err-record.ensures, c.in-Err-record.ensures.same_entries) (omega arith)) (record { same = ap (λ r. r.answer) c.no_memory-in-Err-record.ensures; takes = λ vote. refl })

pub returns-in-Err-record-clause-grows : goal.returns-in-Err-record-clause-grows
returns-in-Err-record-clause-grows c =
    let refused = ap (λ r. r.answer) c.no_memory-in-Err-record.ensures in
    not_grown (history_from 0 c.self.inside.first.value.state c.self.inside.entries.items) c.record.new.entries.items c.args.seat c.args.ask c.no_memory-in-Err-record.result.answer c.in-Err-record.ensures.same_entries
    (ap (λ (a : Answer). is_recorded c.args.ask.what a) refused ∙ refusal_unkept c.args.ask.what Memory)
    ∙ ap (λ (h : History). longer h (recorded c.args.seat c.args.ask c.no_memory-in-Err-record.result.answer)) c.self.view_is

pub invariant_of-self-then-begins : goal.invariant_of-self-then-begins
invariant_of-self-then-begins c =
    let decided = rw c.in-Ok-Ready.field-0-is at c.in-Ok-Ready.ensures.decides in
    let entry : Entry = record { seat = c.args.seat; ask = c.args.ask } in
    let made = c.in-Ok.ensures in
    plain_more c.self.inside.machine.state c.record.new.machine.state c.self.inside.first.value.state c.self.inside.begun_at (c.len-at.result + 1) c.len-at.result true c.self.inside.entries.items c.record.new.entries.items entry
    c.self.invariant (made.state ∙ ap (λ (s : State). state_after s c.in-Ok-Ready.ready.entry.ask) c.decide.ensures.state ∙ ap (λ (e : Entry). state_after c.self.inside.machine.state e.ask) decided.0)
    (made.entries ∙ ap (λ (e : Entry). c.self.inside.entries.items ++ e ∷ []) decided.0) (change_before c.decide.new.self c.self.inside.machine.state entry c.in-Ok-Ready.ready c.decide.ensures.state decided.0 decided.1)
    (subst (λ (e : Entry). All IsSolution (solutions_posted e.ask.what)) decided.0 made.solutions)
    refl (sym c.if-begins.true ∙ c.is_begin-begins.ensures) (search rules)

pub invariant_of-self-else-begins : goal.invariant_of-self-else-begins
invariant_of-self-else-begins c =
    let decided = rw c.in-Ok-Ready.field-0-is at c.in-Ok-Ready.ensures.decides in
    let entry : Entry = record { seat = c.args.seat; ask = c.args.ask } in
    let made = c.in-Ok.ensures in
    plain_more c.self.inside.machine.state c.record.new.machine.state c.self.inside.first.value.state c.self.inside.begun_at c.self.inside.begun_at c.len-at.result false c.self.inside.entries.items c.record.new.entries.items entry
    c.self.invariant (made.state ∙ ap (λ (s : State). state_after s c.in-Ok-Ready.ready.entry.ask) c.decide.ensures.state ∙ ap (λ (e : Entry). state_after c.self.inside.machine.state e.ask) decided.0)
    (made.entries ∙ ap (λ (e : Entry). c.self.inside.entries.items ++ e ∷ []) decided.0) (change_before c.decide.new.self c.self.inside.machine.state entry c.in-Ok-Ready.ready c.decide.ensures.state decided.0 decided.1)
    (subst (λ (e : Entry). All IsSolution (solutions_posted e.ask.what)) decided.0 made.solutions)
    refl (sym c.if-begins.false ∙ c.is_begin-begins.ensures) (search rules)

pub returns-clause-told : goal.returns-clause-told
returns-clause-told c =
    let decided = rw c.in-Ok-Ready.field-0-is at c.in-Ok-Ready.ensures.decides in
    let entry : Entry = record { seat = c.args.seat; ask = c.args.ask } in
    let told = answered_before c.decide.new.self c.self.inside.machine.state entry c.in-Ok-Ready.ready c.in-Ok.answer c.decide.ensures.state decided.0 decided.1 c.in-Ok.ensures.answer in
    let behind : history_from 0 c.self.inside.first.value.state c.record.new.entries.items ≡ c.if-begins.self =
    elim c.if-begins.branch [ then-begins w ↦ sym w.self-is | else-begins w ↦ sym w.self-is ] in
    subst (λ (h : History). IsTold (plain_figures c.args.self.now) false false h c.args.seat c.args.ask (record { at = c.len-at.result + 1; answer = c.in-Ok.answer })) behind
    (told_recorded c.self.inside.machine.state (history_from 0 c.self.inside.first.value.state c.self.inside.entries.items) c.record.new.entries.items c.args.seat (c.len-at.result + 1) c.args.ask c.in-Ok.answer (plain_figures c.args.self.now)
    c.self.invariant.replayed (c.in-Ok.ensures.entries ∙ ap (λ (e : Entry). c.self.inside.entries.items ++ e ∷ []) decided.0) told.1 told.0 (omega arith))

pub returns-clause-grows : goal.returns-clause-grows
returns-clause-grows c =
    let decided = rw c.in-Ok-Ready.field-0-is at c.in-Ok-Ready.ensures.decides in
    let entry : Entry = record { seat = c.args.seat; ask = c.args.ask } in
    let told = answered_before c.decide.new.self c.self.inside.machine.state entry c.in-Ok-Ready.ready c.in-Ok.answer c.decide.ensures.state decided.0 decided.1 c.in-Ok.ensures.answer in
    let behind : history_from 0 c.self.inside.first.value.state c.record.new.entries.items ≡ c.if-begins.self =
    elim c.if-begins.branch [ then-begins w ↦ sym w.self-is | else-begins w ↦ sym w.self-is ] in
    sym behind
    ∙ grown (history_from 0 c.self.inside.first.value.state c.self.inside.entries.items) c.record.new.entries.items c.args.seat c.args.ask c.in-Ok.answer (c.in-Ok.ensures.entries ∙ ap (λ (e : Entry). c.self.inside.entries.items ++ e ∷ []) decided.0) told.1
    ∙ ap (λ (h : History). longer h (recorded c.args.seat c.args.ask c.in-Ok.answer)) c.self.view_is

pub returns-clause-legal : goal.returns-clause-legal
returns-clause-legal c =
    let decided = rw c.in-Ok-Ready.field-0-is at c.in-Ok-Ready.ensures.decides in
    let entry : Entry = record { seat = c.args.seat; ask = c.args.ask } in
    let made = c.in-Ok.ensures in
    let behind : history_from 0 c.self.inside.first.value.state c.record.new.entries.items ≡ c.if-begins.self =
    elim c.if-begins.branch [ then-begins w ↦ sym w.self-is | else-begins w ↦ sym w.self-is ] in
    let grown = replayed_more c.self.inside.machine.state c.record.new.machine.state (history_from 0 c.self.inside.first.value.state c.self.inside.entries.items) c.record.new.entries.items entry
    c.self.invariant.replayed (made.state ∙ ap (λ (s : State). state_after s c.in-Ok-Ready.ready.entry.ask) c.decide.ensures.state ∙ ap (λ (e : Entry). state_after c.self.inside.machine.state e.ask) decided.0)
    (made.entries ∙ ap (λ (e : Entry). c.self.inside.entries.items ++ e ∷ []) decided.0) (change_before c.decide.new.self c.self.inside.machine.state entry c.in-Ok-Ready.ready c.decide.ensures.state decided.0 decided.1)
    (subst (λ (e : Entry). All IsSolution (solutions_posted e.ask.what)) decided.0 made.solutions) in
    subst IsLegal behind grown.legal
