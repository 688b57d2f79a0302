use Rattle.std.proofs.Common.{◌≡◌, ◌∙◌, ◌+◌, [], ◌∷◌, true, false, IsTrue, arith, ap, sym, subst, length-append}
use Rattle.std.proofs.lemmas.Bool.{false≢true}
use Rattle.command_types.specs.declared.ask.Entry.{Entry}
use Rattle.command_types.specs.declared.figures.JournalFigures.{JournalFigures}
use Rattle.command_types.specs.declared.figures.State.{State}
use Rattle.command_types.specs.Machine.{answer_to}
use Rattle.command_types.specs.History.{end_of, is_recorded}
use Rattle.command_types.specs.Sizes.{record_size}
use Rattle.command_types.specs.Told.{is_accept}
use Rattle.journal_core.specs.Journal.{disk_of, form_of, size_of}
use Rattle.cycle_states.proofs.CycleFacts.{young_small}
use Rattle.house.specs.Storing.{any_kept}
use Rattle.house.specs.House.{HouseView, house_of, journal_of, now_of}
use Rattle.house.specs.Calling.{Calls}
use Rattle.house.proofs.JournalFacts.{stored_ready}
use Rattle.house.proofs.ToldFacts.{no_room, has_room, room_told}
use Rattle.house.proofs.CallingFacts.{nothing_of, stays, memory_call, read_call, full_call, stopped_call, house_stored}
use Rattle.house.proofs.VoteFacts.{never}
use Rattle.house.proofs.ChangeFacts.{made_house, made, broken_house, failed_call, entries_within}
use Rattle.house.proofs.house.House.call.Goals as goal

pub decide-requires : goal.decide-requires
decide-requires g c = young_small c.self.inside.machine.state c.self.inside.past.history c.self.invariant.replayed c.length-at.ensures.small c.length-at.ensures.few

pub returns-in-Err-clause-calls : goal.returns-in-Err-clause-calls
returns-in-Err-clause-calls g c =
    let i = c.self.inside in
    let here : HouseView =
    house_of i.past.history i.opening (journal_of (size_of i.opened.value) (g.D.Disk.fault_count (disk_of i.opened.value)) (g.D.Disk.history i.taken.value) (g.D.Disk.history (disk_of i.opened.value)) i.first.value) i.batch.entries
    (g.D.Disk.history (disk_of i.journal)) (g.D.Disk.fault_count (disk_of i.journal)) in
    subst (λ (v : HouseView). Calls v here c.args.seat c.args.ask c.refused.result) c.self.view_is
    (memory_call i.machine.state (now_of i.journal) _ c.self.invariant c.args.seat c.args.ask c.length-at.result c.refused.result (never (is_accept c.args.ask.what) (λ vote. false≢true (rw c.in-Err.is at (c.decide.ensures.vote vote))))
    c.length-at.ensures.length c.refused.ensures)

pub returns-in-Ok-Told-clause-calls : goal.returns-in-Ok-Told-clause-calls
returns-in-Ok-Told-clause-calls g c =
    let i = c.self.inside in
    let here : HouseView =
    house_of i.past.history i.opening (journal_of (size_of i.opened.value) (g.D.Disk.fault_count (disk_of i.opened.value)) (g.D.Disk.history i.taken.value) (g.D.Disk.history (disk_of i.opened.value)) i.first.value) i.batch.entries
    (g.D.Disk.history (disk_of i.journal)) (g.D.Disk.fault_count (disk_of i.journal)) in
    let nothing = rw c.in-Ok-Told.field-0-is at c.in-Ok-Told.ensures.decides in
    subst (λ (v : HouseView). Calls v here c.args.seat c.args.ask (record { at = c.length-at.result; answer = c.told-answer.result })) c.self.view_is
    (read_call i.machine.state (now_of i.journal) _ c.self.invariant c.args.seat c.args.ask c.length-at.result c.in-Ok-Told.answer c.told-answer.result c.length-at.ensures.length
    (nothing.told ∙ ap (λ (s : State). answer_to s c.args.ask) c.decide.ensures.state) nothing.no_change (rw c.open_ask-asked.ensures at c.told-answer.ensures))

pub invariant_of-self-in-Ok-Told : goal.invariant_of-self-in-Ok-Told
invariant_of-self-in-Ok-Told g c = rw c.decide.ensures.state c.self.invariant

pub returns-then-not-fits-clause-calls : goal.returns-then-not-fits-clause-calls
returns-then-not-fits-clause-calls g c =
    let i = c.self.inside in
    let here : HouseView =
    house_of i.past.history i.opening (journal_of (size_of i.opened.value) (g.D.Disk.fault_count (disk_of i.opened.value)) (g.D.Disk.history i.taken.value) (g.D.Disk.history (disk_of i.opened.value)) i.first.value) i.batch.entries
    (g.D.Disk.history (disk_of i.journal)) (g.D.Disk.fault_count (disk_of i.journal)) in
    let decided = rw c.in-Ok-Ready.field-0-is at c.in-Ok-Ready.ensures.decides in
    let entry : Entry = c.in-Ok-Ready.ready.entry in
    let ask = entry.ask in
    let now : State = c.decide.new.self.state in
    let sized : c.length.result ≡ record_size ask = c.length.ensures.size ∙ ap (λ (e : Entry). record_size e.ask) c.entry.ensures in
    let was = stays i.machine.state now (now_of i.journal) _ c.decide.ensures.state c.self.invariant in
    let change = subst (λ (t : State). IsTrue (is_recorded ask.what (answer_to t ask))) was.replayed.same decided.1.accepted in
    let full = no_room c.fits.result (size_of i.journal) c.length.result ask c.if-not-fits.true c.fits.ensures sized in
    let said = full_call now (now_of i.journal) _ was entry.seat ask change c.length-at.result c.bytes-size.result c.refused-then-not-fits.result c.length-at.ensures.length c.bytes-size.ensures c.refused-then-not-fits.ensures full in
    subst (λ (v : HouseView). Calls v here c.args.seat c.args.ask c.refused-then-not-fits.result) c.self.view_is
    (subst (λ (e : Entry). Calls here here e.seat e.ask c.refused-then-not-fits.result) decided.0 said)

pub returns-then-any-clause-calls : goal.returns-then-any-clause-calls
returns-then-any-clause-calls g c =
    let i = c.self.inside in
    let here : HouseView =
    house_of i.past.history i.opening (journal_of (size_of i.opened.value) (g.D.Disk.fault_count (disk_of i.opened.value)) (g.D.Disk.history i.taken.value) (g.D.Disk.history (disk_of i.opened.value)) i.first.value) i.batch.entries
    (g.D.Disk.history (disk_of i.journal)) (g.D.Disk.fault_count (disk_of i.journal)) in
    let decided = rw c.in-Ok-Ready.field-0-is at c.in-Ok-Ready.ensures.decides in
    let entry : Entry = c.in-Ok-Ready.ready.entry in
    let ask = entry.ask in
    let now : State = c.decide.new.self.state in
    let sized : c.length.result ≡ record_size ask = c.length.ensures.size ∙ ap (λ (e : Entry). record_size e.ask) c.entry.ensures in
    let was = stays i.machine.state now (now_of i.journal) _ c.decide.ensures.state c.self.invariant in
    let change = subst (λ (t : State). IsTrue (is_recorded ask.what (answer_to t ask))) was.replayed.same decided.1.accepted in
    let room = has_room c.fits.result (size_of i.journal) c.length.result ask c.if-not-fits.false c.fits.ensures sized in
    let stopped : any_kept i.batch.entries ≡ true = sym c.any.ensures ∙ c.if-any.true in
    let said = stopped_call now (now_of i.journal) _ was entry.seat ask change c.length-at.result c.refused-then-any.result c.length-at.ensures.length c.refused-then-any.ensures room stopped in
    subst (λ (v : HouseView). Calls v here c.args.seat c.args.ask c.refused-then-any.result) c.self.view_is
    (subst (λ (e : Entry). Calls here here e.seat e.ask c.refused-then-any.result) decided.0 said)

pub store-requires-clause-may : goal.store-requires-clause-may
store-requires-clause-may g c =
    let decided = rw c.in-Ok-Ready.field-0-is at c.in-Ok-Ready.ensures.decides in
    decided.1

pub store-requires-clause-young : goal.store-requires-clause-young
store-requires-clause-young g c =
    rw c.decide.ensures.state (young_small c.self.inside.machine.state c.self.inside.past.history c.self.invariant.replayed c.length-at.ensures.small c.length-at.ensures.few)

pub store-requires-clause-replayed : goal.store-requires-clause-replayed
store-requires-clause-replayed g c = rw c.decide.ensures.state c.self.invariant.replayed

pub store-requires-clause-ready : goal.store-requires-clause-ready
store-requires-clause-ready g c =
    let i = c.self.inside in
    let runs : any_kept i.batch.entries ≡ false = sym c.any.ensures ∙ c.if-any.false in
    stored_ready (g.D.Disk.history (disk_of i.journal)) (form_of i.journal) (size_of i.journal) i.past.history (house_stored i.machine.state (now_of i.journal) _ c.self.invariant runs)

pub store-requires-clause-sound : goal.store-requires-clause-sound
store-requires-clause-sound g c =
    let i = c.self.inside in
    let runs : any_kept i.batch.entries ≡ false = sym c.any.ensures ∙ c.if-any.false in
    c.self.invariant.sound (nothing_of i.batch.entries runs)

pub store-requires-clause-fits : goal.store-requires-clause-fits
store-requires-clause-fits g c =
    let i = c.self.inside in
    let decided = rw c.in-Ok-Ready.field-0-is at c.in-Ok-Ready.ensures.decides in
    let entry : Entry = c.in-Ok-Ready.ready.entry in
    let ask = entry.ask in
    let now : State = c.decide.new.self.state in
    let sized : c.length.result ≡ record_size ask = c.length.ensures.size ∙ ap (λ (e : Entry). record_size e.ask) c.entry.ensures in
    let room = has_room c.fits.result (size_of i.journal) c.length.result ask c.if-not-fits.false c.fits.ensures sized in
    room

pub store-requires-clause-short : goal.store-requires-clause-short
store-requires-clause-short g c =
    let i = c.self.inside in
    let decided = rw c.in-Ok-Ready.field-0-is at c.in-Ok-Ready.ensures.decides in
    let entry : Entry = c.in-Ok-Ready.ready.entry in
    let ask = entry.ask in
    let now : State = c.decide.new.self.state in
    let sized : c.length.result ≡ record_size ask = c.length.ensures.size ∙ ap (λ (e : Entry). record_size e.ask) c.entry.ensures in
    let room = has_room c.fits.result (size_of i.journal) c.length.result ask c.if-not-fits.false c.fits.ensures sized in
    omega (arith, room, entries_within i.machine.state (now_of i.journal) _ c.self.invariant)

pub returns-in-Ok-clause-short : goal.returns-in-Ok-clause-short
returns-in-Ok-clause-short g c =
    let i = c.self.inside in
    let decided = rw c.in-Ok-Ready.field-0-is at c.in-Ok-Ready.ensures.decides in
    let entry : Entry = c.in-Ok-Ready.ready.entry in
    let ask = entry.ask in
    let now : State = c.decide.new.self.state in
    let sized : c.length.result ≡ record_size ask = c.length.ensures.size ∙ ap (λ (e : Entry). record_size e.ask) c.entry.ensures in
    let room = has_room c.fits.result (size_of i.journal) c.length.result ask c.if-not-fits.false c.fits.ensures sized in
    omega (arith, room, entries_within i.machine.state (now_of i.journal) _ c.self.invariant, c.length-at.ensures.small.position, ap end_of c.in-Ok.ensures.past, length-append i.past.history.entries (entry ∷ []))

pub invariant_of-self-in-Ok : goal.invariant_of-self-in-Ok
invariant_of-self-in-Ok g c =
    let i = c.self.inside in
    let decided = rw c.in-Ok-Ready.field-0-is at c.in-Ok-Ready.ensures.decides in
    let entry : Entry = c.in-Ok-Ready.ready.entry in
    let ask = entry.ask in
    let now : State = c.decide.new.self.state in
    let was = stays i.machine.state now (now_of i.journal) _ c.decide.ensures.state c.self.invariant in
    let journal : JournalFigures = journal_of (size_of i.opened.value) (g.D.Disk.fault_count (disk_of i.opened.value)) (g.D.Disk.history i.taken.value) (g.D.Disk.history (disk_of i.opened.value)) i.first.value in
    let runs : any_kept i.batch.entries ≡ false = sym c.any.ensures ∙ c.if-any.false in
    let none : i.batch.entries ≡ [] = nothing_of i.batch.entries runs in
    let house = rw none at was in
    let stored = house_stored now (now_of i.journal) _ was runs in
    rw none
    (made_house now i.past.history i.opening (now_of i.journal) journal (g.D.Disk.history (disk_of i.journal)) (g.D.Disk.fault_count (disk_of i.journal))
    house entry.seat ask decided.1.accepted c.store.new.machine.state (now_of c.store.new.journal) (g.D.Disk.history (disk_of c.store.new.journal)) (g.D.Disk.fault_count (disk_of c.store.new.journal))
    c.in-Ok.ensures.state c.in-Ok.ensures.size (c.store.ensures.any_moment stored) (c.store.ensures.yet stored) (c.in-Ok.ensures.stored stored) c.in-Ok.ensures.sound c.store.ensures.never_falls c.in-Ok.ensures.solutions c.store.new.past.history c.in-Ok.ensures.past)

pub returns-in-Ok-clause-calls : goal.returns-in-Ok-clause-calls
returns-in-Ok-clause-calls g c =
    let i = c.self.inside in
    let here : HouseView =
    house_of i.past.history i.opening (journal_of (size_of i.opened.value) (g.D.Disk.fault_count (disk_of i.opened.value)) (g.D.Disk.history i.taken.value) (g.D.Disk.history (disk_of i.opened.value)) i.first.value) i.batch.entries
    (g.D.Disk.history (disk_of i.journal)) (g.D.Disk.fault_count (disk_of i.journal)) in
    let decided = rw c.in-Ok-Ready.field-0-is at c.in-Ok-Ready.ensures.decides in
    let entry : Entry = c.in-Ok-Ready.ready.entry in
    let ask = entry.ask in
    let now : State = c.decide.new.self.state in
    let was = stays i.machine.state now (now_of i.journal) _ c.decide.ensures.state c.self.invariant in
    let journal : JournalFigures = journal_of (size_of i.opened.value) (g.D.Disk.fault_count (disk_of i.opened.value)) (g.D.Disk.history i.taken.value) (g.D.Disk.history (disk_of i.opened.value)) i.first.value in
    let runs : any_kept i.batch.entries ≡ false = sym c.any.ensures ∙ c.if-any.false in
    let none : i.batch.entries ≡ [] = nothing_of i.batch.entries runs in
    let house = rw none at was in
    let stored = house_stored now (now_of i.journal) _ was runs in
    let place : c.length-at.result + 1 ≡ end_of i.past.history + 1 = ap (λ n. n + 1) c.length-at.ensures.length in
    let done : HouseView =
    house_of c.store.new.past.history i.opening (journal_of (size_of i.opened.value) (g.D.Disk.fault_count (disk_of i.opened.value)) (g.D.Disk.history i.taken.value) (g.D.Disk.history (disk_of i.opened.value)) i.first.value) i.batch.entries
    (g.D.Disk.history (disk_of c.store.new.journal)) (g.D.Disk.fault_count (disk_of c.store.new.journal)) in
    let said =
    made now i.past.history i.opening (now_of i.journal) journal (g.D.Disk.history (disk_of i.journal)) (g.D.Disk.fault_count (disk_of i.journal))
    house entry.seat ask decided.1.accepted c.store.new.machine.state (now_of c.store.new.journal) (g.D.Disk.history (disk_of c.store.new.journal)) (g.D.Disk.fault_count (disk_of c.store.new.journal))
    c.in-Ok.ensures.state c.in-Ok.ensures.size (c.store.ensures.any_moment stored) (c.store.ensures.yet stored) (c.in-Ok.ensures.stored stored) c.in-Ok.ensures.sound c.store.ensures.never_falls c.in-Ok.ensures.solutions c.store.new.past.history c.in-Ok.answer (c.length-at.result + 1)
    c.in-Ok.ensures.past c.in-Ok.ensures.answer place in
    subst (λ (v : HouseView). Calls v done c.args.seat c.args.ask (record { at = c.length-at.result + 1; answer = c.in-Ok.answer })) c.self.view_is
    (subst (λ (e : Entry). Calls here done e.seat e.ask (record { at = c.length-at.result + 1; answer = c.in-Ok.answer })) decided.0
    (rw none said))

pub invariant_of-self-in-Err-Memory : goal.invariant_of-self-in-Err-Memory
invariant_of-self-in-Err-Memory g c =
    let i = c.self.inside in
    let memory = rw c.in-Err-Memory.field-0-is at c.in-Err-Memory.is in
    let same = c.store.ensures.same_disk memory in
    rw (c.in-Err-Memory.ensures.same_state, c.decide.ensures.state, c.in-Err-Memory.ensures.same_past, c.store.ensures.same_journal memory, same.0, same.1) c.self.invariant

pub returns-in-Err-Memory-clause-calls : goal.returns-in-Err-Memory-clause-calls
returns-in-Err-Memory-clause-calls g c =
    let i = c.self.inside in
    let decided = rw c.in-Ok-Ready.field-0-is at c.in-Ok-Ready.ensures.decides in
    let memory = rw c.in-Err-Memory.field-0-is at c.in-Err-Memory.is in
    let same = c.store.ensures.same_disk memory in
    let done : HouseView =
    house_of c.store.new.past.history i.opening (journal_of (size_of i.opened.value) (g.D.Disk.fault_count (disk_of i.opened.value)) (g.D.Disk.history i.taken.value) (g.D.Disk.history (disk_of i.opened.value)) i.first.value) i.batch.entries
    (g.D.Disk.history (disk_of c.store.new.journal)) (g.D.Disk.fault_count (disk_of c.store.new.journal)) in
    subst (λ (v : HouseView). Calls v done c.args.seat c.args.ask c.refused-in-Err-Memory.result) c.self.view_is
    (rw (c.in-Err-Memory.ensures.same_past, same.0, same.1)
    (memory_call i.machine.state (now_of i.journal) _ c.self.invariant c.args.seat c.args.ask c.length-at.result c.refused-in-Err-Memory.result
    (never (is_accept c.args.ask.what) (λ vote. c.store.ensures.vote (subst (λ (e : Entry). IsTrue (is_accept e.ask.what)) (sym decided.0) vote) memory))
    c.length-at.ensures.length c.refused-in-Err-Memory.ensures))

pub invariant_of-self-in-Err-Failed : goal.invariant_of-self-in-Err-Failed
invariant_of-self-in-Err-Failed g c =
    let i = c.self.inside in
    let decided = rw c.in-Ok-Ready.field-0-is at c.in-Ok-Ready.ensures.decides in
    let entry : Entry = c.in-Ok-Ready.ready.entry in
    let ask = entry.ask in
    let now : State = c.decide.new.self.state in
    let was = stays i.machine.state now (now_of i.journal) _ c.decide.ensures.state c.self.invariant in
    let journal : JournalFigures = journal_of (size_of i.opened.value) (g.D.Disk.fault_count (disk_of i.opened.value)) (g.D.Disk.history i.taken.value) (g.D.Disk.history (disk_of i.opened.value)) i.first.value in
    let runs : any_kept i.batch.entries ≡ false = sym c.any.ensures ∙ c.if-any.false in
    let none : i.batch.entries ≡ [] = nothing_of i.batch.entries runs in
    let house = rw none at was in
    let stored = house_stored now (now_of i.journal) _ was runs in
    let told = rw c.in-Err-Failed.field-0-is at c.in-Err-Failed.ensures.failed in
    rw (c.in-Err-Failed.ensures.same_state, c.in-Err-Failed.ensures.same_past, c.keep.ensures, told.0)
    (broken_house now i.past.history i.opening (now_of i.journal) journal (g.D.Disk.history (disk_of i.journal)) (g.D.Disk.fault_count (disk_of i.journal))
    house entry.seat ask decided.1.accepted (g.D.Disk.history (disk_of c.store.new.journal)) (g.D.Disk.fault_count (disk_of c.store.new.journal)) (c.store.ensures.any_moment stored) (c.store.ensures.yet stored) c.store.ensures.never_falls told.1.0 told.1.1
    (now_of c.store.new.journal) c.in-Err-Failed.ensures.same_size)

pub returns-in-Err-Failed-clause-calls : goal.returns-in-Err-Failed-clause-calls
returns-in-Err-Failed-clause-calls g c =
    let i = c.self.inside in
    let here : HouseView =
    house_of i.past.history i.opening (journal_of (size_of i.opened.value) (g.D.Disk.fault_count (disk_of i.opened.value)) (g.D.Disk.history i.taken.value) (g.D.Disk.history (disk_of i.opened.value)) i.first.value) i.batch.entries
    (g.D.Disk.history (disk_of i.journal)) (g.D.Disk.fault_count (disk_of i.journal)) in
    let decided = rw c.in-Ok-Ready.field-0-is at c.in-Ok-Ready.ensures.decides in
    let entry : Entry = c.in-Ok-Ready.ready.entry in
    let ask = entry.ask in
    let now : State = c.decide.new.self.state in
    let sized : c.length.result ≡ record_size ask = c.length.ensures.size ∙ ap (λ (e : Entry). record_size e.ask) c.entry.ensures in
    let was = stays i.machine.state now (now_of i.journal) _ c.decide.ensures.state c.self.invariant in
    let journal : JournalFigures = journal_of (size_of i.opened.value) (g.D.Disk.fault_count (disk_of i.opened.value)) (g.D.Disk.history i.taken.value) (g.D.Disk.history (disk_of i.opened.value)) i.first.value in
    let runs : any_kept i.batch.entries ≡ false = sym c.any.ensures ∙ c.if-any.false in
    let none : i.batch.entries ≡ [] = nothing_of i.batch.entries runs in
    let house = rw none at was in
    let stored = house_stored now (now_of i.journal) _ was runs in
    let told = rw c.in-Err-Failed.field-0-is at c.in-Err-Failed.ensures.failed in
    let room = room_told (size_of i.journal) ask (has_room c.fits.result (size_of i.journal) c.length.result ask c.if-not-fits.false c.fits.ensures sized) in
    let done : HouseView =
    house_of c.store.new.past.history i.opening (journal_of (size_of i.opened.value) (g.D.Disk.fault_count (disk_of i.opened.value)) (g.D.Disk.history i.taken.value) (g.D.Disk.history (disk_of i.opened.value)) i.first.value) c.keep.new.self.entries
    (g.D.Disk.history (disk_of c.store.new.journal)) (g.D.Disk.fault_count (disk_of c.store.new.journal)) in
    let said =
    failed_call now i.past.history i.opening (now_of i.journal) journal (g.D.Disk.history (disk_of i.journal)) (g.D.Disk.fault_count (disk_of i.journal))
    house entry.seat ask decided.1.accepted (g.D.Disk.history (disk_of c.store.new.journal)) (g.D.Disk.fault_count (disk_of c.store.new.journal)) (c.store.ensures.any_moment stored) (c.store.ensures.yet stored) c.store.ensures.never_falls told.1.0 told.1.1
    c.length-at.result c.length-at.ensures.length room in
    subst (λ (v : HouseView). Calls v done c.args.seat c.args.ask c.refused-in-Err-Failed.result) c.self.view_is
    (subst (λ (e : Entry). Calls here done e.seat e.ask c.refused-in-Err-Failed.result) decided.0
    (rw (none, c.in-Err-Failed.ensures.same_past, c.keep.ensures, told.0, c.refused-in-Err-Failed.ensures) said))
