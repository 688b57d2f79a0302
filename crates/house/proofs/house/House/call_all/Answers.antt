use Rattle.std.proofs.Common.{◌≡◌, ◌+◌, ◌≤◌, ◌<◌, ℕ, All, true, List, [], ◌∷◌, ◌++◌, length, take, drop, Option, vec_len, refl, sym, ◌∙◌, subst, ap, arith, length-append, length-take, length-drop}
use Rattle.std.proofs.lemmas.List.Elements.{All-drop}
use Rattle.command_types.specs.declared.answer.Answer.TheVariants.{No}
use Rattle.command_types.specs.declared.answer.Reply.{Reply}
use Rattle.command_types.specs.declared.ask.Entry.{Entry}
use Rattle.command_types.specs.declared.figures.JournalFigures.{JournalFigures}
use Rattle.command_types.specs.declared.figures.State.{State}
use Rattle.command_types.specs.declared.refusal.Refusal.TheVariants.{DiskFault}
use Rattle.command_types.specs.History.{History, end_of, longer, replayed}
use Rattle.cycle_states.specs.Machine.{IsYoung}
use Rattle.cycle_states.proofs.CycleFacts.{young_small}
use Rattle.outside.specs.Disk as disks
use Rattle.journal_core.specs.Calls.{AreAppended, AreAppending}
use Rattle.journal_core.specs.Journal.{disk_of, form_of, size_of}
use Rattle.house.specs.Batch.{BatchView, empty_batch, is_shared, TakeBack}
use Rattle.house.specs.CallingAll.{CallsAll, IsAskedAlone, tried}
use Rattle.house.specs.Front.{IsFront}
use Rattle.house.specs.House.{HouseView, IsHouse, house_of, is_stopped, journal_of, now_of}
use Rattle.house.specs.Step.{AreToldAfterFault}
use Rattle.house.specs.Storing.{any_kept, most_together}
use Rattle.house.proofs.CallingFacts.{nothing_of, house_stored}
use Rattle.house.proofs.ChangeFacts.{entries_within}
use Rattle.house.proofs.EndingFacts.{all_failed, done_calls, done_house, failed_house, few_there, first_below, fits_there, idle_calls, made_there, said_again, some_records, stops_done, stops_failed, stops_idle, told_there}
use Rattle.house.proofs.JournalFacts.{stored_ready}
use Rattle.house.proofs.house.House.call_all.Goals as goal

pub make_front-first-requires-clause-begun : goal.make_front-first-requires-clause-begun
make_front-first-requires-clause-begun g c =
    let i = c.self.inside in
    record {
      h = i.past.history;
      replayed = c.self.invariant.replayed;
      small = c.length.ensures.small;
      few = c.length.ensures.few;
      within = omega (arith, entries_within i.machine.state (now_of i.journal) _ c.self.invariant, ap (λ (b : BatchView). b.size) c.begin.ensures, c.bytes.ensures);
      ends = sym c.length.ensures.length ∙ sym (ap (λ (b : BatchView). b.at) c.begin.ensures);
    }

pub returns-then-not-any : goal.returns-then-not-any
returns-then-not-any g c =
    let i = c.self.inside in
    let s : State = i.machine.state in
    let h : History = i.past.history in
    let journal : JournalFigures = journal_of (size_of i.opened.value) (g.D.Disk.fault_count (disk_of i.opened.value)) (g.D.Disk.history i.taken.value) (g.D.Disk.history (disk_of i.opened.value)) i.first.value in
    let disk = g.D.Disk.history (disk_of i.journal) in
    let count = g.D.Disk.fault_count (disk_of i.journal) in
    let none : i.batch.entries ≡ [] = nothing_of i.batch.entries (ap is_stopped c.self.view_is ∙ c.requires.runs) in
    let house : IsHouse s (now_of i.journal) (house_of h i.opening journal [] disk count) = rw none at c.self.invariant in
    let then : State = c.make_front-first.new.machine.state in
    let batch : BatchView = c.make_front-first.new.batch in
    let before : ℕ = c.make_front-first.result in
    let all = c.args.commands.now in
    let n : ℕ = vec_len c.make_front-first.new.replies in
    let commands : List Entry = take n all in
    let replies : List Reply = c.make_front-first.new.replies.items in
    let front = c.make_front-first.ensures.front in
    let goes = c.make_front-first.ensures.goes_on in
    let sized : batch.size ≡ size_of i.journal = goes.size ∙ ap (λ (b : BatchView). b.size) c.begin.ensures ∙ c.bytes.ensures in
    let begins : batch.at ≡ end_of h = goes.at ∙ ap (λ (b : BatchView). b.at) c.begin.ensures ∙ c.length.ensures.length in
    let nothing : batch.entries ≡ [] = nothing_of batch.entries (sym c.any.ensures ∙ c.if-not-any.true) in
    record {
      calls = subst (λ (v : HouseView). CallsAll v (house_of c.make_front-first.new.past.history i.opening journal batch.entries disk count) commands replies) (sym (ap (λ (es : List Entry). house_of h i.opening journal es disk count) none) ∙ c.self.view_is)
          (rw (goes.history, nothing) (idle_calls s (now_of i.journal) h i.opening journal disk count house then batch before commands replies front sized begins nothing));
      stops = subst (λ (v : HouseView). IsAskedAlone (replayed (longer v.history (tried v (house_of c.make_front-first.new.past.history i.opening journal batch.entries disk count)))) (drop n all)) (sym (ap (λ (es : List Entry). house_of h i.opening journal es disk count) none) ∙ c.self.view_is)
          (rw (goes.history, nothing) (stops_idle s (now_of i.journal) h i.opening journal disk count house then batch before commands replies front sized begins nothing (drop n all) c.make_front-first.ensures.stops));
      within = c.make_front-first.ensures.within;
      capacity = c.make_front-first.ensures.capacity ∙ c.clear.ensures.capacity;
      short = omega (arith, c.length.ensures.short, c.length.ensures.length, ap end_of c.make_front-first.ensures.goes_on.history);
    }

pub append_all-requires : goal.append_all-requires
append_all-requires g c =
    let i = c.self.inside in
    let s : State = i.machine.state in
    let h : History = i.past.history in
    let journal : JournalFigures = journal_of (size_of i.opened.value) (g.D.Disk.fault_count (disk_of i.opened.value)) (g.D.Disk.history i.taken.value) (g.D.Disk.history (disk_of i.opened.value)) i.first.value in
    let disk = g.D.Disk.history (disk_of i.journal) in
    let count = g.D.Disk.fault_count (disk_of i.journal) in
    let none : i.batch.entries ≡ [] = nothing_of i.batch.entries (ap is_stopped c.self.view_is ∙ c.requires.runs) in
    let house : IsHouse s (now_of i.journal) (house_of h i.opening journal [] disk count) = rw none at c.self.invariant in
    let then : State = c.make_front-first.new.machine.state in
    let batch : BatchView = c.make_front-first.new.batch in
    let before : ℕ = c.make_front-first.result in
    let all = c.args.commands.now in
    let n : ℕ = vec_len c.make_front-first.new.replies in
    let commands : List Entry = take n all in
    let replies : List Reply = c.make_front-first.new.replies.items in
    let front = c.make_front-first.ensures.front in
    let goes = c.make_front-first.ensures.goes_on in
    let sized : batch.size ≡ size_of i.journal = goes.size ∙ ap (λ (b : BatchView). b.size) c.begin.ensures ∙ c.bytes.ensures in
    let begins : batch.at ≡ end_of h = goes.at ∙ ap (λ (b : BatchView). b.at) c.begin.ensures ∙ c.length.ensures.length in
    let any : any_kept batch.entries ≡ true = sym c.any.ensures ∙ c.if-not-any.false in
    let few : length batch.entries ≤ most_together = omega (arith, front.many, length-take n all, c.requires.few) in
    record {
      ready = stored_ready (g.D.Disk.history (disk_of i.journal)) (form_of i.journal) (size_of i.journal) i.past.history (house_stored i.machine.state (now_of i.journal) _ c.self.invariant (ap is_stopped c.self.view_is ∙ c.requires.runs));
      sound = c.self.invariant.sound (nothing_of i.batch.entries (ap is_stopped c.self.view_is ∙ c.requires.runs));
      fits = rw c.frames.ensures (fits_there s (now_of i.journal) h i.opening journal disk count house then batch before commands replies front sized begins any goes.fits);
    }

pub put_into-requires : goal.put_into-requires
put_into-requires g c =
    let i = c.self.inside in
    let s : State = i.machine.state in
    let h : History = i.past.history in
    let journal : JournalFigures = journal_of (size_of i.opened.value) (g.D.Disk.fault_count (disk_of i.opened.value)) (g.D.Disk.history i.taken.value) (g.D.Disk.history (disk_of i.opened.value)) i.first.value in
    let disk = g.D.Disk.history (disk_of i.journal) in
    let count = g.D.Disk.fault_count (disk_of i.journal) in
    let none : i.batch.entries ≡ [] = nothing_of i.batch.entries (ap is_stopped c.self.view_is ∙ c.requires.runs) in
    let house : IsHouse s (now_of i.journal) (house_of h i.opening journal [] disk count) = rw none at c.self.invariant in
    let then : State = c.make_front-first.new.machine.state in
    let batch : BatchView = c.make_front-first.new.batch in
    let before : ℕ = c.make_front-first.result in
    let all = c.args.commands.now in
    let n : ℕ = vec_len c.make_front-first.new.replies in
    let commands : List Entry = take n all in
    let replies : List Reply = c.make_front-first.new.replies.items in
    let front = c.make_front-first.ensures.front in
    let goes = c.make_front-first.ensures.goes_on in
    let sized : batch.size ≡ size_of i.journal = goes.size ∙ ap (λ (b : BatchView). b.size) c.begin.ensures ∙ c.bytes.ensures in
    let begins : batch.at ≡ end_of h = goes.at ∙ ap (λ (b : BatchView). b.at) c.begin.ensures ∙ c.length.ensures.length in
    let any : any_kept batch.entries ≡ true = sym c.any.ensures ∙ c.if-not-any.false in
    let few : length batch.entries ≤ most_together = omega (arith, front.many, length-take n all, c.requires.few) in
    let made = made_there s (now_of i.journal) h i.opening journal disk count house then batch before commands replies front sized begins in
    record {
      few = omega (arith, few_there s (now_of i.journal) h i.opening journal disk count house then batch before commands replies front sized begins any goes.fits few, ap (λ (p : History). length p.entries) goes.history);
      spells = made.spells;
      small = omega (arith, fits_there s (now_of i.journal) h i.opening journal disk count house then batch before commands replies front sized begins any goes.fits);
      room = goes.room (some_records s (now_of i.journal) h i.opening journal disk count house then batch before commands replies front sized begins any goes.fits);
    }

pub returns-in-Ok : goal.returns-in-Ok
returns-in-Ok g c =
    let i = c.self.inside in
    let s : State = i.machine.state in
    let h : History = i.past.history in
    let journal : JournalFigures = journal_of (size_of i.opened.value) (g.D.Disk.fault_count (disk_of i.opened.value)) (g.D.Disk.history i.taken.value) (g.D.Disk.history (disk_of i.opened.value)) i.first.value in
    let disk = g.D.Disk.history (disk_of i.journal) in
    let count = g.D.Disk.fault_count (disk_of i.journal) in
    let none : i.batch.entries ≡ [] = nothing_of i.batch.entries (ap is_stopped c.self.view_is ∙ c.requires.runs) in
    let house : IsHouse s (now_of i.journal) (house_of h i.opening journal [] disk count) = rw none at c.self.invariant in
    let then : State = c.make_front-first.new.machine.state in
    let batch : BatchView = c.make_front-first.new.batch in
    let before : ℕ = c.make_front-first.result in
    let all = c.args.commands.now in
    let n : ℕ = vec_len c.make_front-first.new.replies in
    let commands : List Entry = take n all in
    let replies : List Reply = c.make_front-first.new.replies.items in
    let front = c.make_front-first.ensures.front in
    let goes = c.make_front-first.ensures.goes_on in
    let sized : batch.size ≡ size_of i.journal = goes.size ∙ ap (λ (b : BatchView). b.size) c.begin.ensures ∙ c.bytes.ensures in
    let begins : batch.at ≡ end_of h = goes.at ∙ ap (λ (b : BatchView). b.at) c.begin.ensures ∙ c.length.ensures.length in
    let any : any_kept batch.entries ≡ true = sym c.any.ensures ∙ c.if-not-any.false in
    let few : length batch.entries ≤ most_together = omega (arith, front.many, length-take n all, c.requires.few) in
    let next = c.append_all.new.self in
    let then_disk = g.D.Disk.history (disk_of next) in
    let then_count = g.D.Disk.fault_count (disk_of next) in
    let appending : AreAppending disk then_disk (form_of i.journal) (size_of i.journal) batch.records = rw c.frames.ensures at c.append_all.ensures.any_moment in
    let grown = rw c.frames.ensures at c.in-Ok.ensures.size in
    let appended : AreAppended disk then_disk (form_of i.journal) (size_of i.journal) (size_of next) batch.records = rw c.frames.ensures at c.in-Ok.ensures.done in
    let past_is : c.put_into.new.past.history ≡ longer h batch.entries = c.put_into.ensures ∙ ap (λ (p : History). longer p batch.entries) goes.history in
    let kept_is : c.begin-in-Ok.new.self.entries ≡ [] = ap (λ (b : BatchView). b.entries) c.begin-in-Ok.ensures in
    record {
      calls = subst (λ (v : HouseView). CallsAll v (house_of c.put_into.new.past.history i.opening journal c.begin-in-Ok.new.self.entries then_disk then_count) commands replies) (sym (ap (λ (es : List Entry). house_of h i.opening journal es disk count) none) ∙ c.self.view_is)
          (rw (past_is, kept_is) (done_calls s (now_of i.journal) h i.opening journal disk count house then batch before commands replies front sized begins any goes.fits few then_disk then_count c.append_all.ensures.counts.0 appending c.append_all.ensures.last (now_of next) c.append_all.ensures.form grown appended));
      stops = subst (λ (v : HouseView). IsAskedAlone (replayed (longer v.history (tried v (house_of c.put_into.new.past.history i.opening journal c.begin-in-Ok.new.self.entries then_disk then_count)))) (drop n all)) (sym (ap (λ (es : List Entry). house_of h i.opening journal es disk count) none) ∙ c.self.view_is)
          (rw (past_is, kept_is) (stops_done s (now_of i.journal) h i.opening journal disk count house then batch before commands replies front sized begins any goes.fits few then_disk then_count c.append_all.ensures.counts.0 appending c.append_all.ensures.last (drop n all) c.make_front-first.ensures.stops));
      within = c.make_front-first.ensures.within;
      capacity = c.make_front-first.ensures.capacity ∙ c.clear.ensures.capacity;
      short = omega (arith, few_there s (now_of i.journal) h i.opening journal disk count house then batch before commands replies front sized begins any goes.fits few, c.length.ensures.small.position, ap end_of past_is, length-append h.entries batch.entries);
    }

pub invariant_of-self-in-Ok : goal.invariant_of-self-in-Ok
invariant_of-self-in-Ok g c =
    let i = c.self.inside in
    let s : State = i.machine.state in
    let h : History = i.past.history in
    let journal : JournalFigures = journal_of (size_of i.opened.value) (g.D.Disk.fault_count (disk_of i.opened.value)) (g.D.Disk.history i.taken.value) (g.D.Disk.history (disk_of i.opened.value)) i.first.value in
    let disk = g.D.Disk.history (disk_of i.journal) in
    let count = g.D.Disk.fault_count (disk_of i.journal) in
    let none : i.batch.entries ≡ [] = nothing_of i.batch.entries (ap is_stopped c.self.view_is ∙ c.requires.runs) in
    let house : IsHouse s (now_of i.journal) (house_of h i.opening journal [] disk count) = rw none at c.self.invariant in
    let then : State = c.make_front-first.new.machine.state in
    let batch : BatchView = c.make_front-first.new.batch in
    let before : ℕ = c.make_front-first.result in
    let all = c.args.commands.now in
    let n : ℕ = vec_len c.make_front-first.new.replies in
    let commands : List Entry = take n all in
    let replies : List Reply = c.make_front-first.new.replies.items in
    let front = c.make_front-first.ensures.front in
    let goes = c.make_front-first.ensures.goes_on in
    let sized : batch.size ≡ size_of i.journal = goes.size ∙ ap (λ (b : BatchView). b.size) c.begin.ensures ∙ c.bytes.ensures in
    let begins : batch.at ≡ end_of h = goes.at ∙ ap (λ (b : BatchView). b.at) c.begin.ensures ∙ c.length.ensures.length in
    let any : any_kept batch.entries ≡ true = sym c.any.ensures ∙ c.if-not-any.false in
    let few : length batch.entries ≤ most_together = omega (arith, front.many, length-take n all, c.requires.few) in
    let next = c.append_all.new.self in
    let then_disk = g.D.Disk.history (disk_of next) in
    let then_count = g.D.Disk.fault_count (disk_of next) in
    let appending : AreAppending disk then_disk (form_of i.journal) (size_of i.journal) batch.records = rw c.frames.ensures at c.append_all.ensures.any_moment in
    let grown = rw c.frames.ensures at c.in-Ok.ensures.size in
    let appended : AreAppended disk then_disk (form_of i.journal) (size_of i.journal) (size_of next) batch.records = rw c.frames.ensures at c.in-Ok.ensures.done in
    let past_is : c.put_into.new.past.history ≡ longer h batch.entries = c.put_into.ensures ∙ ap (λ (p : History). longer p batch.entries) goes.history in
    let kept_is : c.begin-in-Ok.new.self.entries ≡ [] = ap (λ (b : BatchView). b.entries) c.begin-in-Ok.ensures in
    rw (past_is, kept_is) (done_house s (now_of i.journal) h i.opening journal disk count house then batch before commands replies front sized begins any goes.fits few then_disk then_count c.append_all.ensures.counts.0 appending c.append_all.ensures.last (now_of next) c.append_all.ensures.form grown appended c.in-Ok.ensures.sound)

pub take_back-requires : goal.take_back-requires
take_back-requires g c =
    let i = c.self.inside in
    let s : State = i.machine.state in
    let h : History = i.past.history in
    let journal : JournalFigures = journal_of (size_of i.opened.value) (g.D.Disk.fault_count (disk_of i.opened.value)) (g.D.Disk.history i.taken.value) (g.D.Disk.history (disk_of i.opened.value)) i.first.value in
    let disk = g.D.Disk.history (disk_of i.journal) in
    let count = g.D.Disk.fault_count (disk_of i.journal) in
    let none : i.batch.entries ≡ [] = nothing_of i.batch.entries (ap is_stopped c.self.view_is ∙ c.requires.runs) in
    let house : IsHouse s (now_of i.journal) (house_of h i.opening journal [] disk count) = rw none at c.self.invariant in
    let then : State = c.make_front-first.new.machine.state in
    let batch : BatchView = c.make_front-first.new.batch in
    let before : ℕ = c.make_front-first.result in
    let all = c.args.commands.now in
    let n : ℕ = vec_len c.make_front-first.new.replies in
    let commands : List Entry = take n all in
    let replies : List Reply = c.make_front-first.new.replies.items in
    let front = c.make_front-first.ensures.front in
    let goes = c.make_front-first.ensures.goes_on in
    let sized : batch.size ≡ size_of i.journal = goes.size ∙ ap (λ (b : BatchView). b.size) c.begin.ensures ∙ c.bytes.ensures in
    let begins : batch.at ≡ end_of h = goes.at ∙ ap (λ (b : BatchView). b.at) c.begin.ensures ∙ c.length.ensures.length in
    let made = made_there s (now_of i.journal) h i.opening journal disk count house then batch before commands replies front sized begins in
    (s, made.back)

pub push_reserved-requires : goal.push_reserved-requires
push_reserved-requires g c =
    let i = c.self.inside in
    let s : State = i.machine.state in
    let h : History = i.past.history in
    let journal : JournalFigures = journal_of (size_of i.opened.value) (g.D.Disk.fault_count (disk_of i.opened.value)) (g.D.Disk.history i.taken.value) (g.D.Disk.history (disk_of i.opened.value)) i.first.value in
    let disk = g.D.Disk.history (disk_of i.journal) in
    let count = g.D.Disk.fault_count (disk_of i.journal) in
    let none : i.batch.entries ≡ [] = nothing_of i.batch.entries (ap is_stopped c.self.view_is ∙ c.requires.runs) in
    let house : IsHouse s (now_of i.journal) (house_of h i.opening journal [] disk count) = rw none at c.self.invariant in
    let then : State = c.make_front-first.new.machine.state in
    let batch : BatchView = c.make_front-first.new.batch in
    let before : ℕ = c.make_front-first.result in
    let all = c.args.commands.now in
    let n : ℕ = vec_len c.make_front-first.new.replies in
    let commands : List Entry = take n all in
    let replies : List Reply = c.make_front-first.new.replies.items in
    let front = c.make_front-first.ensures.front in
    let goes = c.make_front-first.ensures.goes_on in
    let sized : batch.size ≡ size_of i.journal = goes.size ∙ ap (λ (b : BatchView). b.size) c.begin.ensures ∙ c.bytes.ensures in
    let begins : batch.at ≡ end_of h = goes.at ∙ ap (λ (b : BatchView). b.at) c.begin.ensures ∙ c.length.ensures.length in
    let any : any_kept batch.entries ≡ true = sym c.any.ensures ∙ c.if-not-any.false in
    let few : length batch.entries ≤ most_together = omega (arith, front.many, length-take n all, c.requires.few) in
    let below : before + 1 ≤ length commands = first_below s (now_of i.journal) h i.opening journal disk count house then batch before commands replies front sized begins any goes.fits in
    omega (arith, below, length-take n all, c.truncate.ensures.len, c.truncate.ensures.capacity, c.make_front-first.ensures.capacity, c.make_front-first.ensures.within, c.requires.room, c.clear.ensures.capacity)

pub ask_all_again-requires : goal.ask_all_again-requires
ask_all_again-requires g c =
    let i = c.self.inside in
    let s : State = i.machine.state in
    let h : History = i.past.history in
    let journal : JournalFigures = journal_of (size_of i.opened.value) (g.D.Disk.fault_count (disk_of i.opened.value)) (g.D.Disk.history i.taken.value) (g.D.Disk.history (disk_of i.opened.value)) i.first.value in
    let disk = g.D.Disk.history (disk_of i.journal) in
    let count = g.D.Disk.fault_count (disk_of i.journal) in
    let none : i.batch.entries ≡ [] = nothing_of i.batch.entries (ap is_stopped c.self.view_is ∙ c.requires.runs) in
    let house : IsHouse s (now_of i.journal) (house_of h i.opening journal [] disk count) = rw none at c.self.invariant in
    let then : State = c.make_front-first.new.machine.state in
    let batch : BatchView = c.make_front-first.new.batch in
    let before : ℕ = c.make_front-first.result in
    let all = c.args.commands.now in
    let n : ℕ = vec_len c.make_front-first.new.replies in
    let commands : List Entry = take n all in
    let replies : List Reply = c.make_front-first.new.replies.items in
    let front = c.make_front-first.ensures.front in
    let goes = c.make_front-first.ensures.goes_on in
    let sized : batch.size ≡ size_of i.journal = goes.size ∙ ap (λ (b : BatchView). b.size) c.begin.ensures ∙ c.bytes.ensures in
    let begins : batch.at ≡ end_of h = goes.at ∙ ap (λ (b : BatchView). b.at) c.begin.ensures ∙ c.length.ensures.length in
    let made = made_there s (now_of i.journal) h i.opening journal disk count house then batch before commands replies front sized begins in
    let kept_is : c.take_back.new.self.entries ≡ batch.entries = ap (λ (b : BatchView). b.entries) c.take_back.ensures.kept in
    let back : c.take_back.new.machine.state ≡ s = c.take_back.ensures.back s made.back in
    let any : any_kept batch.entries ≡ true = sym c.any.ensures ∙ c.if-not-any.false in
    let few : length batch.entries ≤ most_together = omega (arith, front.many, length-take n all, c.requires.few) in
    let below : before + 1 ≤ length commands = first_below s (now_of i.journal) h i.opening journal disk count house then batch before commands replies front sized begins any goes.fits in
    let rest_is : c.part-rest.result.now ≡ drop (before + 1) commands = c.part-rest.ensures ∙ ap (λ (k : ℕ). drop (before + 1) (take k all)) c.len.ensures in
    record {
      young = subst (λ (t : State). IsYoung t.cycle) (sym back) (young_small s h house.replayed c.length.ensures.small c.length.ensures.few);
      empty = ap (λ (b : BatchView). b.records) c.take_back.ensures.kept;
      shared = subst (All (λ (command : Entry). is_shared command.ask.what ≡ true)) (sym rest_is) (All-drop (λ (command : Entry). is_shared command.ask.what ≡ true) (before + 1) commands front.shared);
      room = omega (arith, below, length-take n all, ap length rest_is, length-drop (before + 1) commands, c.truncate.ensures.len, c.truncate.ensures.capacity, c.push_reserved.ensures.len, c.push_reserved.ensures.capacity, c.make_front-first.ensures.capacity, c.make_front-first.ensures.within, c.requires.room, c.clear.ensures.capacity);
    }

pub returns-in-Err : goal.returns-in-Err
returns-in-Err g c =
    let i = c.self.inside in
    let s : State = i.machine.state in
    let h : History = i.past.history in
    let journal : JournalFigures = journal_of (size_of i.opened.value) (g.D.Disk.fault_count (disk_of i.opened.value)) (g.D.Disk.history i.taken.value) (g.D.Disk.history (disk_of i.opened.value)) i.first.value in
    let disk = g.D.Disk.history (disk_of i.journal) in
    let count = g.D.Disk.fault_count (disk_of i.journal) in
    let none : i.batch.entries ≡ [] = nothing_of i.batch.entries (ap is_stopped c.self.view_is ∙ c.requires.runs) in
    let house : IsHouse s (now_of i.journal) (house_of h i.opening journal [] disk count) = rw none at c.self.invariant in
    let then : State = c.make_front-first.new.machine.state in
    let batch : BatchView = c.make_front-first.new.batch in
    let before : ℕ = c.make_front-first.result in
    let all = c.args.commands.now in
    let n : ℕ = vec_len c.make_front-first.new.replies in
    let commands : List Entry = take n all in
    let replies : List Reply = c.make_front-first.new.replies.items in
    let front = c.make_front-first.ensures.front in
    let goes = c.make_front-first.ensures.goes_on in
    let sized : batch.size ≡ size_of i.journal = goes.size ∙ ap (λ (b : BatchView). b.size) c.begin.ensures ∙ c.bytes.ensures in
    let begins : batch.at ≡ end_of h = goes.at ∙ ap (λ (b : BatchView). b.at) c.begin.ensures ∙ c.length.ensures.length in
    let any : any_kept batch.entries ≡ true = sym c.any.ensures ∙ c.if-not-any.false in
    let few : length batch.entries ≤ most_together = omega (arith, front.many, length-take n all, c.requires.few) in
    let below : before + 1 ≤ length commands = first_below s (now_of i.journal) h i.opening journal disk count house then batch before commands replies front sized begins any goes.fits in
    let rest_is : c.part-rest.result.now ≡ drop (before + 1) commands = c.part-rest.ensures ∙ ap (λ (k : ℕ). drop (before + 1) (take k all)) c.len.ensures in
    let next = c.append_all.new.self in
    let then_disk = g.D.Disk.history (disk_of next) in
    let then_count = g.D.Disk.fault_count (disk_of next) in
    let appending : AreAppending disk then_disk (form_of i.journal) (size_of i.journal) batch.records = rw c.frames.ensures at c.append_all.ensures.any_moment in
    let made = made_there s (now_of i.journal) h i.opening journal disk count house then batch before commands replies front sized begins in
    let kept_is : c.take_back.new.self.entries ≡ batch.entries = ap (λ (b : BatchView). b.entries) c.take_back.ensures.kept in
    let back : c.take_back.new.machine.state ≡ s = c.take_back.ensures.back s made.back in
    let fault : Reply = record { at = batch.at; answer = No DiskFault } in
    let final : List Reply = c.ask_all_again.new.replies.items in
    let until : List Reply = c.push_reserved.new.self.items in
    let fault_is : c.refused.result ≡ fault = c.refused.ensures ∙ ap (λ (k : ℕ). record { at = k; answer = No DiskFault }) (c.at.ensures ∙ ap (λ (b : BatchView). b.at) c.take_back.ensures.kept) in
    let until_is : until ≡ take before replies ++ fault ∷ [] =
    c.push_reserved.ensures.items ∙ ap (λ (rs : List Reply). rs ++ c.refused.result ∷ []) c.truncate.ensures.items ∙ ap (λ (r : Reply). take before replies ++ r ∷ []) fault_is in
    let said_is : final ≡ take before replies ++ fault ∷ drop (length until) final = said_again final until (take before replies) fault c.ask_all_again.ensures.same until_is in
    let again : AreToldAfterFault s batch.size batch.at (drop (before + 1) commands) (drop (length until) final) =
    told_there s c.take_back.new.machine.state batch.size c.take_back.new.self.size batch.at c.take_back.new.self.at (drop (before + 1) commands) c.part-rest.result.now (drop (length until) final) back
    (ap (λ (b : BatchView). b.size) c.take_back.ensures.kept) (ap (λ (b : BatchView). b.at) c.take_back.ensures.kept) rest_is c.ask_all_again.ensures.told in
    let long : vec_len c.ask_all_again.new.replies ≡ n =
    omega (arith, c.ask_all_again.ensures.len, c.push_reserved.ensures.len, c.truncate.ensures.len, below, length-take n all, c.make_front-first.ensures.within, ap length rest_is, length-drop (before + 1) commands) in
    record {
      calls = subst (λ (v : HouseView). CallsAll v (house_of c.make_front-first.new.past.history i.opening journal c.take_back.new.self.entries then_disk then_count) (take (vec_len c.ask_all_again.new.replies) all) final) (sym (ap (λ (es : List Entry). house_of h i.opening journal es disk count) none) ∙ c.self.view_is)
          (subst (λ (k : ℕ). CallsAll (house_of h i.opening journal [] disk count) (house_of c.make_front-first.new.past.history i.opening journal c.take_back.new.self.entries then_disk then_count) (take k all) final) (sym long)
          (subst (λ (rs : List Reply). CallsAll (house_of h i.opening journal [] disk count) (house_of c.make_front-first.new.past.history i.opening journal c.take_back.new.self.entries then_disk then_count) commands rs) (sym said_is)
          (rw (goes.history, kept_is) (all_failed s (now_of i.journal) h i.opening journal disk count house then batch before commands replies front sized begins any goes.fits few then_disk then_count c.append_all.ensures.counts.0 appending c.append_all.ensures.last c.in-Err.ensures.counts.1 (drop (length until) final) again))));
      stops = subst (λ (v : HouseView). IsAskedAlone (replayed (longer v.history (tried v (house_of c.make_front-first.new.past.history i.opening journal c.take_back.new.self.entries then_disk then_count)))) (drop (vec_len c.ask_all_again.new.replies) all)) (sym (ap (λ (es : List Entry). house_of h i.opening journal es disk count) none) ∙ c.self.view_is)
          (rw (long, goes.history, kept_is) (stops_failed s (now_of i.journal) h i.opening journal disk count house then batch before commands replies front sized begins any goes.fits few then_disk then_count c.append_all.ensures.counts.0 appending c.append_all.ensures.last c.in-Err.ensures.counts.1 (drop n all) c.make_front-first.ensures.stops));
      within = omega (arith, c.ask_all_again.ensures.len, c.push_reserved.ensures.len, c.truncate.ensures.len, below, length-take n all, c.make_front-first.ensures.within, ap length rest_is, length-drop (before + 1) commands);
      capacity = omega (arith, c.ask_all_again.ensures.capacity, c.truncate.ensures.capacity, c.push_reserved.ensures.capacity, c.make_front-first.ensures.capacity, c.clear.ensures.capacity);
      short = omega (arith, c.length.ensures.short, c.length.ensures.length, ap end_of c.make_front-first.ensures.goes_on.history);
    }

pub invariant_of-self-in-Err : goal.invariant_of-self-in-Err
invariant_of-self-in-Err g c =
    let i = c.self.inside in
    let s : State = i.machine.state in
    let h : History = i.past.history in
    let journal : JournalFigures = journal_of (size_of i.opened.value) (g.D.Disk.fault_count (disk_of i.opened.value)) (g.D.Disk.history i.taken.value) (g.D.Disk.history (disk_of i.opened.value)) i.first.value in
    let disk = g.D.Disk.history (disk_of i.journal) in
    let count = g.D.Disk.fault_count (disk_of i.journal) in
    let none : i.batch.entries ≡ [] = nothing_of i.batch.entries (ap is_stopped c.self.view_is ∙ c.requires.runs) in
    let house : IsHouse s (now_of i.journal) (house_of h i.opening journal [] disk count) = rw none at c.self.invariant in
    let then : State = c.make_front-first.new.machine.state in
    let batch : BatchView = c.make_front-first.new.batch in
    let before : ℕ = c.make_front-first.result in
    let all = c.args.commands.now in
    let n : ℕ = vec_len c.make_front-first.new.replies in
    let commands : List Entry = take n all in
    let replies : List Reply = c.make_front-first.new.replies.items in
    let front = c.make_front-first.ensures.front in
    let goes = c.make_front-first.ensures.goes_on in
    let sized : batch.size ≡ size_of i.journal = goes.size ∙ ap (λ (b : BatchView). b.size) c.begin.ensures ∙ c.bytes.ensures in
    let begins : batch.at ≡ end_of h = goes.at ∙ ap (λ (b : BatchView). b.at) c.begin.ensures ∙ c.length.ensures.length in
    let any : any_kept batch.entries ≡ true = sym c.any.ensures ∙ c.if-not-any.false in
    let few : length batch.entries ≤ most_together = omega (arith, front.many, length-take n all, c.requires.few) in
    let next = c.append_all.new.self in
    let then_disk = g.D.Disk.history (disk_of next) in
    let then_count = g.D.Disk.fault_count (disk_of next) in
    let appending : AreAppending disk then_disk (form_of i.journal) (size_of i.journal) batch.records = rw c.frames.ensures at c.append_all.ensures.any_moment in
    let made = made_there s (now_of i.journal) h i.opening journal disk count house then batch before commands replies front sized begins in
    let kept_is : c.take_back.new.self.entries ≡ batch.entries = ap (λ (b : BatchView). b.entries) c.take_back.ensures.kept in
    let back : c.take_back.new.machine.state ≡ s = c.take_back.ensures.back s made.back in
    let state_is : c.ask_all_again.new.machine.state ≡ s = c.ask_all_again.ensures.state ∙ back in
    rw (goes.history, kept_is, state_is) (failed_house s (now_of i.journal) h i.opening journal disk count house then batch before commands replies front sized begins any goes.fits few then_disk then_count c.append_all.ensures.counts.0 appending c.append_all.ensures.last c.in-Err.ensures.counts.1 (now_of next) c.in-Err.ensures.same_size)

pub overflow_add-behind : goal.overflow_add-behind
overflow_add-behind g c =
    let i = c.self.inside in
    let s : State = i.machine.state in
    let h : History = i.past.history in
    let journal : JournalFigures = journal_of (size_of i.opened.value) (g.D.Disk.fault_count (disk_of i.opened.value)) (g.D.Disk.history i.taken.value) (g.D.Disk.history (disk_of i.opened.value)) i.first.value in
    let disk = g.D.Disk.history (disk_of i.journal) in
    let count = g.D.Disk.fault_count (disk_of i.journal) in
    let none : i.batch.entries ≡ [] = nothing_of i.batch.entries (ap is_stopped c.self.view_is ∙ c.requires.runs) in
    let house : IsHouse s (now_of i.journal) (house_of h i.opening journal [] disk count) = rw none at c.self.invariant in
    let then : State = c.make_front-first.new.machine.state in
    let batch : BatchView = c.make_front-first.new.batch in
    let before : ℕ = c.make_front-first.result in
    let all = c.args.commands.now in
    let n : ℕ = vec_len c.make_front-first.new.replies in
    let commands : List Entry = take n all in
    let replies : List Reply = c.make_front-first.new.replies.items in
    let front = c.make_front-first.ensures.front in
    let goes = c.make_front-first.ensures.goes_on in
    let sized : batch.size ≡ size_of i.journal = goes.size ∙ ap (λ (b : BatchView). b.size) c.begin.ensures ∙ c.bytes.ensures in
    let begins : batch.at ≡ end_of h = goes.at ∙ ap (λ (b : BatchView). b.at) c.begin.ensures ∙ c.length.ensures.length in
    let any : any_kept batch.entries ≡ true = sym c.any.ensures ∙ c.if-not-any.false in
    let few : length batch.entries ≤ most_together = omega (arith, front.many, length-take n all, c.requires.few) in
    let below : before + 1 ≤ length commands = first_below s (now_of i.journal) h i.opening journal disk count house then batch before commands replies front sized begins any goes.fits in
    omega (arith, below, length-take n all, c.make_front-first.ensures.within, c.requires.few)

pub part-rest-requires : goal.part-rest-requires
part-rest-requires g c =
    let i = c.self.inside in
    let s : State = i.machine.state in
    let h : History = i.past.history in
    let journal : JournalFigures = journal_of (size_of i.opened.value) (g.D.Disk.fault_count (disk_of i.opened.value)) (g.D.Disk.history i.taken.value) (g.D.Disk.history (disk_of i.opened.value)) i.first.value in
    let disk = g.D.Disk.history (disk_of i.journal) in
    let count = g.D.Disk.fault_count (disk_of i.journal) in
    let none : i.batch.entries ≡ [] = nothing_of i.batch.entries (ap is_stopped c.self.view_is ∙ c.requires.runs) in
    let house : IsHouse s (now_of i.journal) (house_of h i.opening journal [] disk count) = rw none at c.self.invariant in
    let then : State = c.make_front-first.new.machine.state in
    let batch : BatchView = c.make_front-first.new.batch in
    let before : ℕ = c.make_front-first.result in
    let all = c.args.commands.now in
    let n : ℕ = vec_len c.make_front-first.new.replies in
    let commands : List Entry = take n all in
    let replies : List Reply = c.make_front-first.new.replies.items in
    let front = c.make_front-first.ensures.front in
    let goes = c.make_front-first.ensures.goes_on in
    let sized : batch.size ≡ size_of i.journal = goes.size ∙ ap (λ (b : BatchView). b.size) c.begin.ensures ∙ c.bytes.ensures in
    let begins : batch.at ≡ end_of h = goes.at ∙ ap (λ (b : BatchView). b.at) c.begin.ensures ∙ c.length.ensures.length in
    let any : any_kept batch.entries ≡ true = sym c.any.ensures ∙ c.if-not-any.false in
    let few : length batch.entries ≤ most_together = omega (arith, front.many, length-take n all, c.requires.few) in
    let below : before + 1 ≤ length commands = first_below s (now_of i.journal) h i.opening journal disk count house then batch before commands replies front sized begins any goes.fits in
    record {
      ordered = omega (arith, below, length-take n all, c.make_front-first.ensures.within, c.len.ensures);
      within = omega (arith, c.make_front-first.ensures.within, c.len.ensures);
    }
