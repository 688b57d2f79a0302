-- The ways through a call that leave all as it was.
use Rattle.std.proofs.Common.{◌≡◌, inl, inr, ℕ, ◌+◌, ◌-◌, ◌≤◌, nat_lt, eqb, cond, not, Bool, true, false, List, [], ◌∷◌, drop, length, Option, Some, None, is_some, IsTrue, if◌then◌else◌, refl, sym, ◌∙◌, subst, ap, arith}
use Rattle.std.proofs.Math.Dec.{eqb-suc-zero}
use Rattle.std.proofs.lemmas.Bool.{false≢true}
use Rattle.std.proofs.lemmas.List.{append-nil}
use Rattle.command_types.specs.declared.ask.Ask.{Ask}
use Rattle.command_types.specs.declared.ask.Entry.{Entry}
use Rattle.command_types.specs.declared.ask.What.{What}
use Rattle.command_types.specs.declared.ask.What.TheVariants.{Next, Proof}
use Rattle.command_types.specs.declared.figures.Start.{Start}
use Rattle.command_types.specs.declared.answer.Answer.{Answer}
use Rattle.command_types.specs.declared.answer.Answer.TheVariants.{No, NoNext, ProofRows}
use Rattle.command_types.specs.declared.answer.Reply.{Reply}
use Rattle.command_types.specs.declared.refusal.Refusal.{Refusal}
use Rattle.command_types.specs.declared.refusal.Refusal.TheVariants.{JournalFull, Stopped, Memory, Gone, Ahead}
use Rattle.command_types.specs.declared.figures.State.{State}
use Rattle.command_types.specs.Machine.{answer_to, first_of}
use Rattle.command_types.specs.History.{end_of, longer, recorded, is_recorded, replayed}
use Rattle.command_types.specs.Sizes.{journal_limit, frame_size}
use Rattle.command_types.specs.Told.{is_accept, IsTold, house_refusals}
use Rattle.command_types.specs.Offers.{answer_at, first_behind, with_entries}
use Rattle.command_types.proofs.HistoryFacts.{told_memory, told_read}
use Rattle.cycle_states.specs.Offers.{open_ask}
use Rattle.cycle_states.proofs.OfferFacts.{filled_unkept}
use Rattle.house.specs.Storing.{any_kept, AreStored, AreStoredAs, AreOnDisk}
use Rattle.house.specs.House.{HouseView, JournalNow, figures_of, first_of as first_history, is_stopped, bytes_of, Keeps, IsHouse}
use Rattle.house.specs.Calling.{is_disk_fault, Calls, IsFilled}
use Rattle.house.proofs.StoringFacts.{still, stored_now}
use Rattle.house.proofs.StopFacts.{machine_plain}
use Rattle.house.proofs.VoteFacts.{asks_no_vote}
use Rattle.house.proofs.ToldFacts.{first_full, first_stopped, told_by_journal, no_refusal_recorded, room_told}

pub none_of : {A : Type 0} (o : Option A) → is_some o ≡ false → o ≡ None
none_of None h = refl
none_of (Some x) h = absurd (false≢true (sym h))

-- a house that runs kept nothing
pub nothing_of : (kept : List Entry) → any_kept kept ≡ false → kept ≡ []
nothing_of [] h = refl
nothing_of (entry ∷ others) h = absurd (false≢true (sym h))

-- whether a batch has a change
pub any_by_length : (entries : List Entry) (n : ℕ) → n ≡ length entries → not (eqb n 0) ≡ any_kept entries
any_by_length [] n is = ap (λ (k : ℕ). not (eqb k 0)) is
any_by_length (entry ∷ others) n is = ap (λ (k : ℕ). not (eqb k 0)) is ∙ ap not (eqb-suc-zero (length others))

-- a house stays one over a machine in the same state
pub stays : (s t : State) (now : JournalNow) (v : HouseView) → t ≡ s → IsHouse s now v → IsHouse t now v
stays s t now v same house = subst (λ (n : State). IsHouse n now v) (sym same) house

-- a house that runs has its history on the disk
pub running_stored : (v : HouseView) → Keeps v → is_stopped v ≡ false → AreStored v.disk (bytes_of v) v.history
running_stored v keeps runs =
    stored_now v.journal.first_moment v.opening (first_history v.journal) v.disk (bytes_of v) v.history
    (subst (λ (k : List Entry). AreOnDisk v.journal.first_moment v.opening (first_history v.journal) v.disk (bytes_of v) v.history k) (nothing_of v.kept runs) keeps.on_disk)

pub grows_by_nothing : (v : HouseView) (seat : ℕ) (ask : Ask) (answer : Answer) → is_recorded ask.what answer ≡ false → v.history ≡ longer v.history (recorded seat ask answer)
grows_by_nothing v seat ask answer unrecorded =
    let more : recorded seat ask answer ≡ [] = ap (λ (t : Bool). if t then record { seat = seat; ask = ask } ∷ [] else []) unrecorded in
    ap (λ (es : List Entry). record v.history { entries = es }) (sym (append-nil v.history.entries)) ∙ ap (longer v.history) (sym more)

pub unchanged : (v : HouseView) (seat : ℕ) (ask : Ask) (reply : Reply) → Keeps v → reply.at ≡ end_of v.history → IsTold (figures_of v) (is_stopped v) (is_stopped v) v.history seat ask reply
    → is_recorded ask.what reply.answer ≡ false → is_disk_fault reply.answer ≡ false → Calls v v seat ask reply
unchanged v seat ask reply keeps place told unrecorded no_fault = record {
  place = place;
  told = told;
  grows = grows_by_nothing v seat ask reply.answer unrecorded;
  rests = λ _. refl;
  runs = λ made. absurd (false≢true (sym unrecorded ∙ made));
  same = λ _. refl;
  any_moment = λ runs. still v.disk (bytes_of v) v.history (record { seat = seat; ask = ask } ∷ []) (running_stored v keeps runs);
  counted = omega arith;
  failed = λ fault. absurd (false≢true (sym no_fault ∙ fault));
  figures = refl;
  keeps = keeps;
}

-- what a history tells is no fault of the disk
behind_plain : (position : ℕ) (entries : List Entry) → is_disk_fault (first_behind position entries) ≡ false
behind_plain position [] = refl
behind_plain position (entry ∷ entries) = refl

offered_plain : (gone ahead : Bool) (from end : ℕ) (rest : Answer) → is_disk_fault rest ≡ false →
    is_disk_fault (cond {A = Answer} gone (No (Gone from)) (cond {A = Answer} ahead (No (Ahead end)) rest)) ≡ false
offered_plain true ahead from end rest plain = refl
offered_plain false true from end rest plain = refl
offered_plain false false from end rest plain = plain

with_plain : (base : Start) (entries : List Entry) (what : What) (machine : Answer) → is_disk_fault machine ≡ false → is_disk_fault (with_entries base entries what machine) ≡ false
with_plain base entries (Next position) NoNext plain =
    let end = base.position + length entries in
    let rest = drop (position - base.position) entries in
    offered_plain (nat_lt position base.position) (nat_lt end position) base.position end (first_behind position rest) (behind_plain position rest)
with_plain base entries (Proof cycle) (ProofRows head rows) plain = refl
with_plain base entries what machine plain = plain

module _ (s : State) (now : JournalNow) (v : HouseView) (house : IsHouse s now v) (seat : ℕ) (ask : Ask) where
  -- there is no memory, for a command that is no ACCEPT
  pub memory_call : (at : ℕ) (reply : Reply) → is_accept ask.what ≡ false → at ≡ end_of v.history → reply ≡ record { at = at; answer = No Memory } → Calls v v seat ask reply
  memory_call at reply no_vote place is =
      let told_at : reply.at ≡ end_of v.history = ap (λ (r : Reply). r.at) is ∙ place in
      let answer : reply.answer ≡ No Memory = ap (λ (r : Reply). r.answer) is in
      unchanged v seat ask reply house.keeps told_at (told_memory (figures_of v) (is_stopped v) (is_stopped v) v.history seat ask reply told_at (record { same = answer; takes = λ vote. absurd (false≢true (sym no_vote ∙ vote)) }))
      (ap (λ a. is_recorded ask.what a) answer ∙ no_refusal_recorded ask Memory) (ap is_disk_fault answer)

  -- the machine refuses the command, or it is a read, and the history is told in its answer
  pub read_call : (at : ℕ) (machine answer : Answer) → at ≡ end_of v.history → machine ≡ answer_to s ask → is_recorded ask.what machine ≡ false → IsFilled v.history (open_ask ask.what) machine answer
      → Calls v v seat ask (record { at = at; answer = answer })
  read_call at machine answer place answers unrecorded (inl memory) =
      memory_call at (record { at = at; answer = answer }) (asks_no_vote ask.what memory.1) place (ap (λ (a : Answer). record { at = at; answer = a }) memory.0)
  read_call at machine answer place answers unrecorded (inr tells) =
      let h = v.history in
      let is : answer ≡ with_entries h.base h.entries ask.what machine = tells ask.what refl in
      let unkept : is_recorded ask.what answer ≡ false = ap (is_recorded ask.what) is ∙ filled_unkept h.base h.entries ask.what machine unrecorded in
      let same : answer ≡ answer_at h.base h.entries ask = is ∙ ap (with_entries h.base h.entries ask.what) (answers ∙ ap (λ (m : State). answer_to m ask) house.replayed.same) in
      let reply : Reply = record { at = at; answer = answer } in
      let plain : is_disk_fault machine ≡ false = ap is_disk_fault answers ∙ machine_plain s ask in
      unchanged v seat ask reply house.keeps place
      (told_read (figures_of v) (is_stopped v) (is_stopped v) h seat ask reply place (record { no_change = ap not unkept; same = same }))
      unkept (ap is_disk_fault is ∙ with_plain h.base h.entries ask.what machine plain)

  module _ (change : IsTrue (is_recorded ask.what (answer_to (replayed v.history) ask))) where
    refused_call : (refusal : Refusal) (at : ℕ) (reply : Reply) → at ≡ end_of v.history → reply ≡ record { at = at; answer = No refusal }
        → first_of (house_refusals (bytes_of v) at (is_stopped v) (is_stopped v) ask) ≡ Some refusal → is_disk_fault (No refusal) ≡ false → Calls v v seat ask reply
    refused_call refusal at reply place is first plain =
        let here : reply.at ≡ at = ap (λ (r : Reply). r.at) is in
        let answer : reply.answer ≡ No refusal = ap (λ (r : Reply). r.answer) is in
        unchanged v seat ask reply house.keeps (here ∙ place)
        (told_by_journal v seat ask reply (is_stopped v) refusal (here ∙ place) change (ap (λ (n : ℕ). first_of (house_refusals (bytes_of v) n (is_stopped v) (is_stopped v) ask)) here ∙ first) answer)
        (ap (λ a. is_recorded ask.what a) answer ∙ no_refusal_recorded ask refusal) (ap is_disk_fault answer ∙ plain)

    -- the journal has no room
    pub full_call : (at told : ℕ) (reply : Reply) → at ≡ end_of v.history → told ≡ now.size → reply ≡ record { at = at; answer = No (JournalFull told) } → nat_lt journal_limit (now.size + frame_size ask) ≡ true → Calls v v seat ask reply
    full_call at told reply place same is full =
        let bytes : told ≡ bytes_of v = same ∙ house.sized in
        let full_here : nat_lt journal_limit (bytes_of v + frame_size ask) ≡ true = ap (λ (n : ℕ). nat_lt journal_limit (n + frame_size ask)) (sym house.sized) ∙ full in
        refused_call (JournalFull (bytes_of v)) at reply place (is ∙ ap (λ (n : ℕ). record { at = at; answer = No (JournalFull n) }) bytes)
        (first_full (bytes_of v) at (is_stopped v) (is_stopped v) ask full_here) refl

    -- a fault stopped the house before
    pub stopped_call : (at : ℕ) (reply : Reply) → at ≡ end_of v.history → reply ≡ record { at = at; answer = No (Stopped at) } → now.size + frame_size ask ≤ journal_limit → is_stopped v ≡ true → Calls v v seat ask reply
    stopped_call at reply place is room was =
        let room_here : nat_lt journal_limit (bytes_of v + frame_size ask) ≡ false = ap (λ (n : ℕ). nat_lt journal_limit (n + frame_size ask)) (sym house.sized) ∙ room_told now.size ask room in
        refused_call (Stopped at) at reply place is (first_stopped (bytes_of v) at (is_stopped v) (is_stopped v) ask room_here was) refl

-- a house that runs is ready for a change
pub house_stored : (s : State) (now : JournalNow) (v : HouseView) → IsHouse s now v → is_stopped v ≡ false → AreStoredAs v.disk now.form now.size v.history
house_stored s now v house runs = house.stored (nothing_of v.kept runs)
