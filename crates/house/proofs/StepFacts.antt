-- What a command that was answered behind a batch in memory tells.
use Rattle.std.proofs.Common.{◌≡◌, ◌⊎◌, inl, inr, ◌&&◌, Option, None, is_some, ℕ, ◌+◌, ◌≤◌, ◌<◌, nat_lt, not, Bool, true, false, List, [], ◌∷◌, ◌++◌, length, drop, All, IsTrue, refl, sym, ◌∙◌, subst, ap, arith, append_assoc, length-append}
use Rattle.std.proofs.lemmas.Bool.{false≢true, lt-ltb}
use Rattle.std.proofs.lemmas.List.{append-nil, drop-append-le}
use Rattle.std.proofs.lemmas.List.Sums.{sum_by-append}
use Rattle.command_types.specs.declared.ask.Entry.{Entry}
use Rattle.command_types.specs.declared.ask.What.{What}
use Rattle.command_types.specs.declared.ask.What.TheVariants.{Trade, Affirm, End, Hold, Free, Nets, Statement, Limits, Plan, Next, Proof, Accept}
use Rattle.command_types.specs.declared.answer.Answer.{Answer}
use Rattle.command_types.specs.declared.answer.Answer.TheVariants.{No}
use Rattle.command_types.specs.declared.answer.Reply.{Reply}
use Rattle.command_types.specs.declared.figures.Start.{Start}
use Rattle.command_types.specs.declared.figures.State.{State}
use Rattle.command_types.specs.declared.refusal.Refusal.TheVariants.{JournalFull, Stopped, DiskFault, Memory}
use Rattle.network_laws.specs.Solutions.{IsSolution}
use Rattle.command_types.specs.Machine.{answer_to, first_of, state_after}
use Rattle.command_types.specs.History.{History, end_of, is_recorded, longer, recorded, replayed, solutions_posted}
use Rattle.command_types.specs.Offers.{with_entries}
use Rattle.command_types.specs.Sizes.{frame_size, frames_size, journal_limit, record_size}
use Rattle.command_types.specs.Told.{IsTold, house_refusals, is_accept}
use Rattle.command_types.proofs.HistoryFacts.{told_memory, told_read}
use Rattle.cycle_states.specs.Replayed.{IsReplayed}
use Rattle.cycle_states.specs.Undo.{goes_back, Undoes}
use Rattle.cycle_states.specs.declared.machine.undo.Undo.{Undo}
use Rattle.cycle_states.proofs.DeskFacts.{grown, not_grown, told_recorded}
use Rattle.journal_core.specs.Frame.{frames_length}
use Rattle.house.specs.Batch.{BatchView, FitsJournal, end_of_batch, size_of_batch, is_shared}
use Rattle.house.specs.Chronicle.{ChronicleView}
use Rattle.command_types.specs.InTurn.{IsToldNext}
use Rattle.house.specs.House.{HouseView, bytes_of, figures_of, is_stopped}
use Rattle.house.specs.declared.chronicle.TheConstants.{VOTES_ROOM}
use Rattle.house.specs.Step.{GoesOn, HasRecordRoom, IsAcceptedChange, IsMadeNext, IsWritten}
use Rattle.house.proofs.BatchFacts.{frames_more}
use Rattle.house.proofs.ToldFacts.{first_full, first_stopped, first_failed, told_by_journal, no_refusal_recorded, room_told}

-- the machine alone answers a read of a kind that is shared
pub answered_alone : (base : Start) (entries : List Entry) (what : What) (answer : Answer) → is_shared what ≡ true → with_entries base entries what answer ≡ answer
answered_alone base entries (Next position) answer is = absurd (false≢true is)
answered_alone base entries (Proof cycle) answer is = absurd (false≢true is)
answered_alone base entries what answer is = refl

-- a vote is not
not_vote : (what : What) → is_shared what ≡ true → is_accept what ≡ true → ⊥
not_vote (Accept cycle version) is vote = false≢true is
not_vote what is vote = false≢true vote

-- ---- the bytes behind a batch

-- the house as it would be with these changes
abbrev pub view_behind : HouseView → List Entry → HouseView
view_behind v more = record v { history = longer v.history more }

pub bytes_behind : (v : HouseView) (more : List Entry) → v.opening ≤ length v.history.entries → bytes_of (view_behind v more) ≡ bytes_of v + frames_size more
bytes_behind v more opened =
    let split : frames_size (drop v.opening (v.history.entries ++ more)) ≡ frames_size (drop v.opening v.history.entries) + frames_size more =
    ap frames_size (drop-append-le v.opening v.history.entries more opened) ∙ sum_by-append (λ (e : Entry). frame_size e.ask) (drop v.opening v.history.entries) more in
    omega (arith, split)

-- ---- how a batch goes on

pub goes_more : (a b c : BatchView) (p q r : ChronicleView) → GoesOn a b p q → GoesOn b c q r → GoesOn a c p r
goes_more a b c p q r one two = record {
  at = two.at ∙ one.at;
  size = two.size ∙ one.size;
  history = two.history ∙ one.history;
  fits = two.fits;
  room = two.room;
}

-- as it was
pub goes_same : (a : BatchView) (p q : ChronicleView) → FitsJournal a → HasRecordRoom a p → p.room ≤ q.room → q.history ≡ p.history → GoesOn a a p q
goes_same a p q fits room keeps same = record { at = refl; size = refl; history = same; fits = fits; room = λ some. (let there = room some in omega (arith, there, keeps)) }

-- with a record more
pub goes_written : (old mid new : BatchView) (p q : ChronicleView) (change : Entry) (undo : Undo) → IsWritten old mid change → new ≡ record mid { entries = mid.entries ++ change ∷ []; undos = mid.undos ++ undo ∷ [] }
    → size_of_batch old + 4 + record_size change.ask + 1 ≤ journal_limit → frames_length mid.records + VOTES_ROOM ≤ q.room → q.history ≡ p.history → GoesOn old new p q
goes_written old mid new p q change undo written more room there same =
    let records : new.records ≡ old.records ++ written.bytes ∷ [] = ap (λ (b : BatchView). b.records) more ∙ ap (λ (b : BatchView). b.records) written.more in
    let size : new.size ≡ old.size = ap (λ (b : BatchView). b.size) more ∙ ap (λ (b : BatchView). b.size) written.more in
    let long : frames_length new.records ≡ frames_length old.records + (5 + length written.bytes) = ap frames_length records ∙ frames_more old.records written.bytes in
    let mid_long : frames_length new.records ≡ frames_length mid.records = ap (λ (b : BatchView). frames_length b.records) more in
    record {
      at = ap (λ (b : BatchView). b.at) more ∙ ap (λ (b : BatchView). b.at) written.more;
      size = size;
      history = same;
      fits = λ some. omega (arith, room, size, long, written.sized);
      room = λ some. omega (arith, mid_long, there);
    }

-- ---- a change that is accepted

-- in this state, by another name of it
pub accepted_same : (s t : State) (entry command : Entry) → entry ≡ command → t ≡ s → IsTrue (is_recorded entry.ask.what (answer_to t entry.ask)) → IsAcceptedChange s command
accepted_same s t entry command same state change =
    subst (λ (e : Entry). IsAcceptedChange s e) same (subst (λ (u : State). IsTrue (is_recorded entry.ask.what (answer_to u entry.ask))) state change)

-- it can't be taken back where nothing is found that does
pub not_back : (s t : State) (entry command : Entry) (found : Option Undo) → entry ≡ command → t ≡ s → is_some found ≡ goes_back t entry.ask.what → found ≡ None → goes_back s command.ask.what ≡ false
not_back s t entry command found same state some none =
    ap (λ (e : Entry). goes_back s e.ask.what) (sym same) ∙ ap (λ (u : State). goes_back u entry.ask.what) (sym state) ∙ sym some ∙ ap (λ (o : Option Undo). is_some o) none

-- what is recorded is a change
pub is_change : (change accepted : Bool) → IsTrue (change && accepted) → IsTrue change
is_change true accepted both = refl
is_change false accepted both = both

-- ---- a change that is made

pub made_next : (s then : State) (old mid new : BatchView) (command : Entry) (answer : Answer) (at : ℕ) (undo : Undo) → at ≡ end_of_batch old → answer ≡ answer_to s command.ask → IsAcceptedChange s command
    → All IsSolution (solutions_posted command.ask.what) → then ≡ state_after s command.ask → Undoes s (state_after s command.ask) undo → IsWritten old mid command
    → new ≡ record mid { entries = mid.entries ++ command ∷ []; undos = mid.undos ++ undo ∷ [] } → IsMadeNext s then old new command (record { at = at + 1; answer = answer })
made_next s then old mid new command answer at undo place answers accepted solutions state undoes written more = record {
  replied = ap (λ (n : ℕ). record { at = n + 1; answer = answer }) place ∙ ap (λ (a : Answer). record { at = end_of_batch old + 1; answer = a }) answers;
  accepted = accepted;
  solutions = solutions;
  state = state;
  undo = undo;
  undoes = subst (λ (t : State). Undoes s t undo) (sym state) undoes;
  bytes = written.bytes;
  more = more ∙ ap (λ (b : BatchView). record b { entries = b.entries ++ command ∷ []; undos = b.undos ++ undo ∷ [] }) written.more;
  spells = written.spells;
  sized = written.sized;
}

-- the same, of a command by another name in a state by another name
pub change_made : (s t then : State) (old mid new : BatchView) (command ready entry : Entry) (answer : Answer) (at : ℕ) (undo : Undo) → t ≡ s → ready ≡ command → entry ≡ ready → IsAcceptedChange t ready
    → answer ≡ answer_to t ready.ask → then ≡ state_after t ready.ask → All IsSolution (solutions_posted ready.ask.what) → Undoes t (state_after t ready.ask) undo → IsWritten old mid ready
    → new ≡ record mid { entries = mid.entries ++ entry ∷ []; undos = mid.undos ++ undo ∷ [] } → at ≡ end_of_batch old → IsMadeNext s then old new command (record { at = at + 1; answer = answer })
change_made s t then old mid new command ready entry answer at undo same is entry_is accepted answers after solutions undoes written more place =
    let reply : Reply = record { at = at + 1; answer = answer } in
    let pushed : new ≡ record mid { entries = mid.entries ++ ready ∷ []; undos = mid.undos ++ undo ∷ [] } =
    more ∙ ap (λ (e : Entry). record mid { entries = mid.entries ++ e ∷ []; undos = mid.undos ++ undo ∷ [] }) entry_is in
    subst (λ (e : Entry). IsMadeNext s then old new e reply) is
    (subst (λ (u : State). IsMadeNext u then old new ready reply) same
    (made_next t then old mid new ready answer at undo place answers accepted solutions after undoes written pushed))

-- ---- a command that changes nothing

module _ (v : HouseView) (s : State) (before : IsReplayed s v.history) (command : Entry) (shared : is_shared command.ask.what ≡ true) (at : ℕ) (place : at ≡ end_of v.history) where
  same : (reply : Reply) → is_recorded command.ask.what reply.answer ≡ false → v.history ≡ longer v.history (recorded command.seat command.ask reply.answer)
  same reply off = not_grown v.history v.history.entries command.seat command.ask reply.answer refl off

  unrecorded : (t : Bool) → IsTrue (not t) → t ≡ false
  unrecorded true h = absurd (false≢true h)
  unrecorded false h = refl

  pub told_machine : (b after : Bool) (reply : Reply) → (b ≡ true → after ≡ true) → reply ≡ record { at = at; answer = answer_to s command.ask } → IsTrue (not (is_recorded command.ask.what (answer_to s command.ask)))
      → IsToldNext (figures_of v) b after v.history command reply v.history
  told_machine b after reply stays is off =
      let answer : Answer = answer_to s command.ask in
      let literal : Reply = record { at = at; answer = answer } in
      let there : answer ≡ with_entries v.history.base v.history.entries command.ask.what (answer_to (replayed v.history) command.ask) =
      ap (λ (t : State). answer_to t command.ask) before.same ∙ sym (answered_alone v.history.base v.history.entries command.ask.what (answer_to (replayed v.history) command.ask) shared) in
      subst (λ (r : Reply). IsToldNext (figures_of v) b after v.history command r v.history) (sym is) (record {
        grows = same literal (unrecorded (is_recorded command.ask.what answer) off);
        place = place;
        told = told_read (figures_of v) b after v.history command.seat command.ask literal place (record { no_change = off; same = there });
        runs = λ made. absurd (false≢true (sym (unrecorded (is_recorded command.ask.what answer) off) ∙ made));
        stays = stays;
      })

  pub told_no_memory : (b after : Bool) (reply : Reply) → (b ≡ true → after ≡ true) → reply ≡ record { at = at; answer = No Memory } → IsToldNext (figures_of v) b after v.history command reply v.history
  told_no_memory b after reply stays is =
      let literal : Reply = record { at = at; answer = No Memory } in
      subst (λ (r : Reply). IsToldNext (figures_of v) b after v.history command r v.history) (sym is) (record {
        grows = same literal (no_refusal_recorded command.ask Memory);
        place = place;
        told = told_memory (figures_of v) b after v.history command.seat command.ask literal place (record { same = refl; takes = λ vote. absurd (not_vote command.ask.what shared vote) });
        runs = λ made. absurd (false≢true (sym (no_refusal_recorded command.ask Memory) ∙ made));
        stays = stays;
      })

  accepted_there : IsAcceptedChange s command → IsTrue (is_recorded command.ask.what (answer_to (replayed v.history) command.ask))
  accepted_there change = subst (λ (t : State). IsTrue (is_recorded command.ask.what (answer_to t command.ask))) before.same change

  pub told_full : (after : Bool) (size : ℕ) (reply : Reply) → (is_stopped v ≡ true → after ≡ true) → size ≡ bytes_of v → IsAcceptedChange s command → journal_limit < size + frame_size command.ask
      → reply ≡ record { at = at; answer = No (JournalFull size) } → IsToldNext (figures_of v) (is_stopped v) after v.history command reply v.history
  told_full after size reply stays bytes change full is =
      let literal : Reply = record { at = at; answer = No (JournalFull size) } in
      let over : nat_lt journal_limit (bytes_of v + frame_size command.ask) ≡ true = lt-ltb journal_limit (bytes_of v + frame_size command.ask) (omega (arith, bytes, full)) in
      subst (λ (r : Reply). IsToldNext (figures_of v) (is_stopped v) after v.history command r v.history) (sym is) (record {
        grows = same literal (no_refusal_recorded command.ask (JournalFull size));
        place = place;
        told = told_by_journal v command.seat command.ask literal after (JournalFull (bytes_of v)) place (accepted_there change) (first_full (bytes_of v) at (is_stopped v) after command.ask over)
            (ap (λ (n : ℕ). No (JournalFull n)) bytes);
        runs = λ made. absurd (false≢true (sym (no_refusal_recorded command.ask (JournalFull size)) ∙ made));
        stays = stays;
      })

  pub told_failed : (size : ℕ) (reply : Reply) → size ≡ bytes_of v → is_stopped v ≡ false → IsAcceptedChange s command → size + frame_size command.ask ≤ journal_limit
      → reply ≡ record { at = at; answer = No DiskFault } → IsToldNext (figures_of v) false true v.history command reply v.history
  told_failed size reply bytes runs change room is =
      let literal : Reply = record { at = at; answer = No DiskFault } in
      let fits : nat_lt journal_limit (bytes_of v + frame_size command.ask) ≡ false = room_told (bytes_of v) command.ask (omega (arith, bytes, room)) in
      let told : IsTold (figures_of v) (is_stopped v) true v.history command.seat command.ask literal =
      told_by_journal v command.seat command.ask literal true DiskFault place (accepted_there change)
      (ap (λ (t : Bool). first_of (house_refusals (bytes_of v) at t true command.ask)) runs ∙ first_failed (bytes_of v) at command.ask fits) refl in
      subst (λ (r : Reply). IsToldNext (figures_of v) false true v.history command r v.history) (sym is) (record {
        grows = same literal (no_refusal_recorded command.ask DiskFault);
        place = place;
        told = subst (λ (t : Bool). IsTold (figures_of v) t true v.history command.seat command.ask literal) runs told;
        runs = λ made. absurd (false≢true (sym (no_refusal_recorded command.ask DiskFault) ∙ made));
        stays = λ _. refl;
      })

  -- at a desk that is stopped
  pub told_stopped : (size : ℕ) (reply : Reply) → size ≡ bytes_of v → is_stopped v ≡ true → IsAcceptedChange s command → size + frame_size command.ask ≤ journal_limit
      → reply ≡ record { at = at; answer = No (Stopped at) } → IsToldNext (figures_of v) true true v.history command reply v.history
  told_stopped size reply bytes stopped change room is =
      let literal : Reply = record { at = at; answer = No (Stopped at) } in
      let fits : nat_lt journal_limit (bytes_of v + frame_size command.ask) ≡ false = room_told (bytes_of v) command.ask (omega (arith, bytes, room)) in
      let told : IsTold (figures_of v) (is_stopped v) true v.history command.seat command.ask literal =
      told_by_journal v command.seat command.ask literal true (Stopped at) place (accepted_there change) (first_stopped (bytes_of v) at (is_stopped v) true command.ask fits stopped) refl in
      subst (λ (r : Reply). IsToldNext (figures_of v) true true v.history command r v.history) (sym is) (record {
        grows = same literal (no_refusal_recorded command.ask (Stopped at));
        place = place;
        told = subst (λ (t : Bool). IsTold (figures_of v) t true v.history command.seat command.ask literal) stopped told;
        runs = λ made. absurd (false≢true (sym (no_refusal_recorded command.ask (Stopped at)) ∙ made));
        stays = λ _. refl;
      })
