-- A change that is made, and one on which the disk fails.
use Rattle.std.proofs.Common.{◌≡◌, inl, inr, ℕ, ◌+◌, ◌≤◌, nat_lt, Bool, true, false, not, ◌||◌, List, [], ◌∷◌, ◌++◌, length, take, drop, All, Option, IsTrue, refl, sym, ◌∙◌, subst, ap, arith, length-append, take-append-drop}
use Rattle.std.proofs.lemmas.Bool.{false≢true}
use Rattle.std.proofs.lemmas.List.{drop-append-le, take-append-le}
use Rattle.std.proofs.lemmas.List.Sums.{sum_by-append, sum_by-cons}
use Rattle.network_laws.specs.Solutions.{IsSolution}
use Rattle.command_types.specs.declared.ask.Ask.{Ask}
use Rattle.command_types.specs.declared.ask.Entry.{Entry}
use Rattle.command_types.specs.declared.answer.Answer.{Answer}
use Rattle.command_types.specs.declared.answer.Answer.TheVariants.{No}
use Rattle.command_types.specs.declared.answer.Reply.{Reply}
use Rattle.command_types.specs.declared.refusal.Refusal.TheVariants.{DiskFault}
use Rattle.command_types.specs.declared.figures.JournalFigures.{JournalFigures}
use Rattle.command_types.specs.declared.figures.State.{State}
use Rattle.command_types.specs.Machine.{answer_to, state_after}
use Rattle.command_types.specs.History.{History, end_of, is_recorded, longer, replayed, solutions_posted}
use Rattle.command_types.specs.Sizes.{journal_limit, frame_size, frames_size}
use Rattle.outside.specs.Disk as disks
use Rattle.outside.specs.Faults.{Rose}
use Rattle.recovery.specs.StandsFor.{StandsFor}
use Rattle.journal_core.specs.Moments.{LeavesOnly, MayLeaveYet}
use Rattle.cycle_states.specs.Replayed.{IsReplayed}
use Rattle.cycle_states.proofs.DeskFacts.{replayed_more, grown, told_recorded}
use Rattle.house.specs.Folding.{OpensWith}
use Rattle.house.specs.Storing.{AreStored, AreStoredAs, AreOnDisk, StandsForEither, moment_of}
use Rattle.house.specs.House.{HouseView, JournalNow, figures_of, first_of, bytes_of, Keeps, IsHouse, house_of}
use Rattle.house.specs.Calling.{is_disk_fault, Calls}
use Rattle.house.proofs.StoringFacts.{stored_as, stored_leaves, on_disk_more, on_disk_broken, moments_rise, tells_on}
use Rattle.house.proofs.GoingFacts.{back_more, back_kept, kept_now, none_kept}
use Rattle.house.proofs.StopFacts.{machine_plain}
use Rattle.house.proofs.ToldFacts.{first_failed, told_by_journal, no_refusal_recorded}
use Rattle.house.proofs.CallingFacts.{grows_by_nothing}

-- a count that rose has risen from what it was before, too
pub rose_from : (a b c : ℕ) → a ≤ b → Rose b c → Rose a c
rose_from a b c le (inl more) = inl (omega (arith, le, more))
rose_from a b c le (inr most) = inr most

neither : (a b : Bool) → a ≡ true → IsTrue (not (a || b)) → ⊥
neither true b is h = false≢true h
neither false b is h = false≢true is

nor : (a b : Bool) → b ≡ true → IsTrue (not (a || b)) → ⊥
nor true b is h = false≢true h
nor false true is h = false≢true h
nor false false is h = false≢true is

module _ (s : State) (h : History) (opening : ℕ) (now : JournalNow) (journal : JournalFigures) (disk : Option disks.History) (count : ℕ)
    (house : IsHouse s now (house_of h opening journal [] disk count)) (seat : ℕ) (ask : Ask) (change : IsTrue (is_recorded ask.what (answer_to s ask))) where
  abbrev entry : Entry
  entry = record { seat = seat; ask = ask }

  abbrev entries : List Entry
  entries = h.entries

  abbrev was : HouseView
  was = house_of h opening journal [] disk count

  abbrev first : History
  first = first_of journal

  on_disk : AreOnDisk journal.first_moment opening first disk (bytes_of was) h []
  on_disk = house.keeps.on_disk

  since : journal.first_moment ≤ moment_of disk
  since = omega (arith, house.keeps.moments.0, house.keeps.moments.1)

  bytes_more : (next : ℕ) → next ≡ now.size + frame_size ask → next ≡ journal.size + frames_size (drop opening (entries ++ entry ∷ []))
  bytes_more next is =
      let split : frames_size (drop opening (entries ++ entry ∷ [])) ≡ frames_size (drop opening entries) + frames_size (entry ∷ []) =
      ap frames_size (drop-append-le opening entries (entry ∷ []) house.keeps.opened) ∙ sum_by-append (λ (e : Entry). frame_size e.ask) (drop opening entries) (entry ∷ []) in
      omega (arith, is, house.sized, split)

  module _ (after : State) (next : JournalNow) (then_disk : Option disks.History) (then_count : ℕ) (on : after ≡ state_after s ask) (sized : next.size ≡ now.size + frame_size ask)
      (leaves : LeavesOnly disk then_disk (StandsForEither h entry)) (yet : MayLeaveYet disk then_disk (λ image. StandsFor image h))
      (stored : AreStoredAs then_disk next.form next.size (longer h (entry ∷ []))) (is_sound : next.sound ≡ true) (rises : count ≤ then_count) (sound : All IsSolution (solutions_posted ask.what)) where
    abbrev done : HouseView
    done = house_of (longer h (entry ∷ [])) opening journal [] then_disk then_count

    goes_on : IsReplayed after (longer h (entry ∷ []))
    goes_on = replayed_more s after h (entries ++ entry ∷ []) entry house.replayed on refl change sound

    keeps_on : Keeps done
    keeps_on =
        let bytes = bytes_more next.size sized in
        let front : take opening (entries ++ entry ∷ []) ≡ take opening entries = take-append-le opening entries (entry ∷ []) house.keeps.opened in
        let stored_there = subst (λ (n : ℕ). AreStored then_disk n (longer h (entry ∷ []))) bytes (stored_as then_disk next.form next.size (longer h (entry ∷ [])) stored) in
        record {
          legal = goes_on.legal;
          opened = omega (arith, house.keeps.opened, length-append entries (entry ∷ []));
          first = subst (λ (es : List Entry). OpensWith first (record h { entries = es })) (sym front) house.keeps.first;
          first_legal = house.keeps.first_legal;
          few = omega (arith, house.keeps.few, ap length front);
          tells = tells_on disk then_disk (StandsForEither h entry) leaves ∙ house.keeps.tells;
          on_disk = on_disk_more opening first h house.keeps.opened journal.first_moment disk then_disk (bytes_of was) (bytes_of done) (entry ∷ []) on_disk leaves stored_there;
          moments = (house.keeps.moments.0, omega (arith, house.keeps.moments.1, moments_rise disk then_disk (StandsForEither h entry) leaves));
          leaves = λ _. stored_leaves then_disk (bytes_of done) (longer h (entry ∷ [])) stored_there;
          few_kept = omega arith;
          kept_legal = goes_on.legal;
          leaves_kept = none_kept then_disk (longer h (entry ∷ [])) (stored_leaves then_disk (bytes_of done) (longer h (entry ∷ [])) stored_there);
          never_back = back_more journal.first_moment opening first h house.keeps.opened disk then_disk (entry ∷ []) (omega arith) since house.keeps.never_back leaves yet;
          counted = omega (arith, house.keeps.counted, rises);
          stopped = λ never. absurd (false≢true never);
        }

    pub made_house : (then : History) → then ≡ longer h (entry ∷ []) → IsHouse after next (house_of then opening journal [] then_disk then_count)
    made_house then is =
        subst (λ (n : History). IsHouse after next (house_of n opening journal [] then_disk then_count)) (sym is)
        (record { replayed = goes_on; sized = bytes_more next.size sized; stored = λ _. stored; sound = λ _. is_sound; keeps = keeps_on })

    made_literally : (answer : Answer) (at : ℕ) → answer ≡ answer_to s ask → at ≡ end_of h + 1 → Calls was done seat ask (record { at = at; answer = answer })
    made_literally answer at answers place =
        let told_so : IsTrue (is_recorded ask.what answer) = subst (λ a. IsTrue (is_recorded ask.what a)) (sym answers) change in
        let plain : is_disk_fault answer ≡ false = ap is_disk_fault answers ∙ machine_plain s ask in
        record {
          place = omega (arith, place, length-append entries (entry ∷ []));
          told = told_recorded s h (entries ++ entry ∷ []) seat at ask answer (figures_of was) house.replayed refl told_so answers place;
          grows = grown h (entries ++ entry ∷ []) seat ask answer refl told_so;
          rests = λ never. absurd (false≢true never);
          runs = λ _. refl;
          same = λ as_before. absurd (neither (is_recorded ask.what answer) (is_disk_fault answer) told_so as_before);
          any_moment = λ _. leaves;
          counted = rises;
          failed = λ fault. absurd (false≢true (sym plain ∙ fault));
          figures = refl;
          keeps = keeps_on;
        }

    pub made : (then : History) (answer : Answer) (at : ℕ) → then ≡ longer h (entry ∷ []) → answer ≡ answer_to s ask → at ≡ end_of h + 1
        → Calls was (house_of then opening journal [] then_disk then_count) seat ask (record { at = at; answer = answer })
    made then answer at is answers place =
        subst (λ (n : History). Calls was (house_of n opening journal [] then_disk then_count) seat ask (record { at = at; answer = answer })) (sym is)
        (made_literally answer at answers place)

  -- ---- the disk failed

  module _ (then_disk : Option disks.History) (then_count : ℕ) (leaves : LeavesOnly disk then_disk (StandsForEither h entry)) (yet : MayLeaveYet disk then_disk (λ image. StandsFor image h))
      (rises : count ≤ then_count) (rose : Rose count then_count) (sound : All IsSolution (solutions_posted ask.what)) where
    abbrev broken : HouseView
    broken = house_of h opening journal (entry ∷ []) then_disk then_count

    keeps_broken : Keeps broken
    keeps_broken = record {
      legal = house.keeps.legal;
      opened = house.keeps.opened;
      first = house.keeps.first;
      first_legal = house.keeps.first_legal;
      few = house.keeps.few;
      tells = tells_on disk then_disk (StandsForEither h entry) leaves ∙ house.keeps.tells;
      on_disk = on_disk_broken opening first h house.keeps.opened journal.first_moment disk then_disk (bytes_of was) entry [] on_disk leaves;
      moments = (house.keeps.moments.0, omega (arith, house.keeps.moments.1, moments_rise disk then_disk (StandsForEither h entry) leaves));
      leaves = λ none. absurd cc;
      few_kept = omega arith;
      kept_legal = (replayed_more s (state_after s ask) h (entries ++ entry ∷ []) entry house.replayed refl refl change sound).legal;
      leaves_kept = kept_now disk then_disk h entry [] leaves;
      never_back = back_kept journal.first_moment opening first h house.keeps.opened disk then_disk entry [] (omega arith) since house.keeps.never_back leaves yet;
      counted = omega (arith, house.keeps.counted, rises);
      stopped = λ _. rose_from journal.faults count then_count house.keeps.counted rose;
    }

    pub broken_house : (then : JournalNow) → then.size ≡ now.size → IsHouse s then broken
    broken_house then same = record { replayed = house.replayed; sized = same ∙ house.sized; stored = λ none. absurd cc; sound = λ none. absurd cc; keeps = keeps_broken }

    pub failed_call : (at : ℕ) → at ≡ end_of h → nat_lt journal_limit (now.size + frame_size ask) ≡ false → Calls was broken seat ask (record { at = at; answer = No DiskFault })
    failed_call at place room =
        let reply : Reply = record { at = at; answer = No DiskFault } in
        let changed : IsTrue (is_recorded ask.what (answer_to (replayed h) ask)) = subst (λ (t : State). IsTrue (is_recorded ask.what (answer_to t ask))) house.replayed.same change in
        let room_there : nat_lt journal_limit (bytes_of was + frame_size ask) ≡ false = ap (λ (n : ℕ). nat_lt journal_limit (n + frame_size ask)) (sym house.sized) ∙ room in
        let unrecorded : is_recorded ask.what (No DiskFault) ≡ false = no_refusal_recorded ask DiskFault in
        record {
          place = omega (arith, place);
          told = told_by_journal was seat ask reply true DiskFault (omega (arith, place)) changed (first_failed (bytes_of was) at ask room_there) refl;
          grows = grows_by_nothing was seat ask (No DiskFault) unrecorded;
          rests = λ never. absurd (false≢true never);
          runs = λ never. absurd (false≢true (sym unrecorded ∙ never));
          same = λ as_before. absurd (nor (is_recorded ask.what (No DiskFault)) true refl as_before);
          any_moment = λ _. leaves;
          counted = rises;
          failed = λ _. (rose, refl);
          figures = refl;
          keeps = keeps_broken;
        }

-- ---- how many changes there are

-- a record takes more than one byte
at_least : (entries : List Entry) → length entries ≤ frames_size entries
at_least [] = omega arith
at_least (e ∷ entries) = omega (arith, sum_by-cons (λ (x : Entry). frame_size x.ask) e entries, at_least entries)

-- there are no more than those at the opening and the journal's bytes
pub entries_within : (s : State) (now : JournalNow) (v : HouseView) → IsHouse s now v → length v.history.entries ≤ journal_limit + now.size
entries_within s now v house =
    let first = take v.opening v.history.entries in
    let back = drop v.opening v.history.entries in
    omega (arith, house.sized, house.keeps.few, at_least back, ap length (take-append-drop v.opening v.history.entries), length-append first back)
