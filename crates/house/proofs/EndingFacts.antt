-- How a call of several commands ends: without a change, with all changes made, or stopped.
use Rattle.std.proofs.Common.{◌≡◌, ℕ, zero, suc, ◌+◌, ◌-◌, ◌^◌, ◌<◌, ◌≤◌, true, false, All, List, [], ◌∷◌, ◌++◌, length, take, drop, Option, refl, sym, ◌∙◌, subst, ap, arith, append_assoc, take-append-drop}
use Rattle.std.proofs.lemmas.Bool.{false≢true}
use Rattle.std.proofs.lemmas.List.{drop-take}
use Rattle.command_types.specs.declared.ask.Entry.{Entry}
use Rattle.command_types.specs.declared.answer.Answer.TheVariants.{No}
use Rattle.command_types.specs.declared.answer.Reply.{Reply}
use Rattle.command_types.specs.declared.figures.JournalFigures.{JournalFigures}
use Rattle.command_types.specs.declared.figures.State.{State}
use Rattle.command_types.specs.declared.refusal.Refusal.TheVariants.{DiskFault}
use Rattle.command_types.specs.History.{History, end_of, longer, replayed}
use Rattle.command_types.specs.Sizes.{frames_size, journal_limit}
use Rattle.outside.specs.Disk as disks
use Rattle.outside.specs.Faults.{Rose}
use Rattle.journal_core.specs.Calls.{AreAppended, AreAppending, IsAppendedLast}
use Rattle.journal_core.specs.Frame.{frames_length}
use Rattle.journal_core.specs.Holds.{limit}
use Rattle.journal_core.specs.Moments.{LeavesOnly, MayLeaveYet}
use Rattle.journal_core.specs.declared.form.Form.{Form}
use Rattle.recovery.specs.StandsFor.{StandsFor}
use Rattle.house.specs.Batch.{BatchView, FitsJournal, IsMade, TakeBack}
use Rattle.house.specs.CallingAll.{IsAskedAlone, tried, CallsAll}
use Rattle.house.specs.Front.{AreFrom, IsFront, IsRunningAt}
use Rattle.house.specs.House.{HouseView, JournalNow, IsHouse, Keeps, house_of}
use Rattle.house.specs.Step.{AreToldAfterFault}
use Rattle.house.specs.Storing.{any_kept, most_together, AreStoredAs, StandsForAllOrNone}
use Rattle.house.proofs.AllFacts.{calls_made, calls_none, done_tried, keeps_made, none_tried, stops_there}
use Rattle.house.proofs.BehindFacts.{adds_all, leaves_all, made_house, running, stopped_house, stored_there}
use Rattle.house.proofs.CallingFacts.{stays}
use Rattle.house.proofs.ChangeFacts.{entries_within}
use Rattle.house.proofs.FailedFacts.{failed_calls, failed_tried, keeps_failed}
use Rattle.house.proofs.JournalFacts.{append_yet}
use Rattle.house.proofs.PushFacts.{as_many_spelled}

some_kept : (entries : List Entry) → any_kept entries ≡ true → 0 < length entries
some_kept [] any = absurd (false≢true any)
some_kept (entry ∷ others) any = omega arith

-- a front with a change has more commands than stand before it
before_below : (before : ℕ) (entries commands : List Entry) → any_kept entries ≡ true → AreFrom before entries commands → before + 1 ≤ length commands
before_below before [] commands any is = absurd (false≢true any)
before_below before (e ∷ entries) [] any is = absurd is
before_below zero (e ∷ entries) (c ∷ commands) any is = omega arith
before_below (suc before) (e ∷ entries) (c ∷ commands) any is = let n = before_below before (e ∷ entries) commands any is in omega (arith, n)

-- those behind the first change
pub between : (commands : List Entry) (a b : ℕ) → a ≤ b → take (b - a) (drop a commands) ≡ drop a (take b commands)
between commands a b within =
    let all : a + (b - a) ≡ b = omega (arith, within) in
    sym (drop-take a (b - a) commands) ∙ ap (λ (n : ℕ). drop a (take n commands)) all

-- what is told again, in other words
pub told_there : (s t : State) (size other_size at other_at : ℕ) (rest other : List Entry) (said : List Reply) → t ≡ s → other_size ≡ size → other_at ≡ at → other ≡ rest
    → AreToldAfterFault t other_size other_at other said → AreToldAfterFault s size at rest said
told_there s t size other_size at other_at rest other said state sizes place same told =
    subst (λ (u : State). AreToldAfterFault u size at rest said) state
    (subst (λ (n : ℕ). AreToldAfterFault t n at rest said) sizes
    (subst (λ (n : ℕ). AreToldAfterFault t other_size n rest said) place
    (subst (λ (es : List Entry). AreToldAfterFault t other_size other_at es said) same told)))

-- the replies where those behind the first change were told again
pub said_again : (all until said : List Reply) (fault : Reply) → take (length until) all ≡ until → until ≡ said ++ fault ∷ [] → all ≡ said ++ fault ∷ drop (length until) all
said_again all until said fault same is =
    sym (take-append-drop (length until) all) ∙ ap (λ (rs : List Reply). rs ++ drop (length until) all) (same ∙ is) ∙ append_assoc said (fault ∷ []) (drop (length until) all)

module _ (s : State) (now : JournalNow) (h : History) (opening : ℕ) (journal : JournalFigures) (disk : Option disks.History) (count : ℕ) (house : IsHouse s now (house_of h opening journal [] disk count))
    (then : State) (batch : BatchView) (before : ℕ) (commands : List Entry) (replies : List Reply) (front : IsFront s then batch before commands replies)
    (sized : batch.size ≡ now.size) (begins : batch.at ≡ end_of h) where
  abbrev was : HouseView
  was = house_of h opening journal [] disk count

  runs : IsRunningAt was s batch.size
  runs = subst (IsRunningAt was s) (sym sized) (running s now h opening journal disk count house)

  pub made_there : IsMade s then h batch
  made_there = front.made h house.replayed

  -- ---- without a change

  pub idle_calls : batch.entries ≡ [] → CallsAll was was commands replies
  idle_calls none = calls_none h opening journal disk count house.keeps s then batch runs before commands replies front begins none

  pub idle_house : batch.entries ≡ [] → IsHouse then now was
  idle_house none = stays s then now was (front.first.unmade none) house

  pub stops_idle : batch.entries ≡ [] → (rest : List Entry) → IsAskedAlone then rest → IsAskedAlone (replayed (longer h (tried was was))) rest
  stops_idle none rest asks =
      stops_there then was was batch.entries rest made_there.replayed (none_tried h opening journal disk count house.keeps s then batch runs before commands replies front begins ∙ sym none) asks

  -- ---- with some

  module _ (any : any_kept batch.entries ≡ true) (fits : FitsJournal batch) where
    pub some_records : 0 < length batch.records
    some_records = omega (arith, some_kept batch.entries any, as_many_spelled batch.records batch.entries made_there.spells)

    pub first_below : before + 1 ≤ length commands
    first_below = before_below before batch.entries commands any front.order

    pub fits_there : now.size + frames_length batch.records ≤ journal_limit
    fits_there = let within = fits some_records in omega (arith, within, sized)

    pub few_there : length batch.entries ≤ most_together → length h.entries + length batch.entries < 2 ^ 62
    few_there few = omega (arith, entries_within s now was house, fits_there, few)

    room : now.size + frames_size batch.entries ≤ limit
    room = omega (arith, fits_there, made_there.sized)

    module _ (few : length batch.entries ≤ most_together) (then_disk : Option disks.History) (then_count : ℕ) (rises : count ≤ then_count)
        (appending : AreAppending disk then_disk now.form now.size batch.records) (last : IsAppendedLast disk then_disk now.form now.size) where
      stored : AreStoredAs disk now.form now.size h
      stored = house.stored refl

      leaves : LeavesOnly disk then_disk (StandsForAllOrNone h batch.entries)
      leaves = leaves_all disk then_disk now.form now.size h batch.records batch.entries any made_there.spells room appending stored

      yet : MayLeaveYet disk then_disk (λ image. StandsFor image h)
      yet = append_yet disk then_disk now.form now.size h last stored

      -- ---- all are made

      abbrev done : HouseView
      done = house_of (longer h batch.entries) opening journal [] then_disk then_count

      pub stops_done : (rest : List Entry) → IsAskedAlone then rest → IsAskedAlone (replayed (longer h (tried was done))) rest
      stops_done rest asks =
          stops_there then was done batch.entries rest made_there.replayed
          (done_tried h opening journal disk count house.keeps s then batch runs before commands replies front begins few then_disk then_count leaves yet rises) asks

      module _ (next : JournalNow) (form : next.form ≡ now.form) (size : next.size ≡ now.size + frames_length batch.records) (appended : AreAppended disk then_disk now.form now.size next.size batch.records) where
        next_size : next.size ≡ now.size + frames_size batch.entries
        next_size = omega (arith, size, made_there.sized)

        next_stored : AreStoredAs then_disk next.form next.size (longer h batch.entries)
        next_stored =
            subst (λ (f : Form). AreStoredAs then_disk f next.size (longer h batch.entries)) (sym form)
            (adds_all disk then_disk now.form now.size next.size h batch.records batch.entries any made_there.spells room appending appended stored)

        pub done_calls : CallsAll was done commands replies
        done_calls =
            calls_made h opening journal disk count house.keeps s then batch runs before commands replies front begins few then_disk then_count leaves yet rises
            (stored_there s now h opening journal disk count house then next batch.entries then_disk then_count next_size next_stored)

        pub done_house : next.sound ≡ true → IsHouse then next done
        done_house sound =
            made_house s now h opening journal disk count house then next batch.entries then_disk then_count next_size next_stored made_there.replayed sound
            (keeps_made h opening journal disk count house.keeps s then batch runs before commands replies front begins few then_disk then_count leaves yet rises
            (stored_there s now h opening journal disk count house then next batch.entries then_disk then_count next_size next_stored))

      -- ---- the disk failed

      module _ (rose : Rose count then_count) where
        abbrev stopped : HouseView
        stopped = house_of h opening journal batch.entries then_disk then_count

        pub stops_failed : (rest : List Entry) → IsAskedAlone then rest → IsAskedAlone (replayed (longer h (tried was stopped))) rest
        stops_failed rest asks =
            stops_there then was stopped batch.entries rest made_there.replayed
            (failed_tried h opening journal disk count house.keeps s then batch runs before commands replies front begins then_disk then_count yet rises rose any few leaves) asks

        pub failed_house : (next : JournalNow) → next.size ≡ now.size → IsHouse s next stopped
        failed_house next same =
            stopped_house s now h opening journal disk count house next batch.entries then_disk then_count any same
            (keeps_failed h opening journal disk count house.keeps s then batch runs before commands replies front begins then_disk then_count yet rises rose any few leaves)

        pub all_failed : (then_said : List Reply) → AreToldAfterFault s batch.size batch.at (drop (before + 1) commands) then_said
            → CallsAll was stopped commands (take before replies ++ record { at = batch.at; answer = No DiskFault } ∷ then_said)
        all_failed then_said two =
            failed_calls h opening journal disk count house.keeps s then batch runs before commands replies front begins then_disk then_count yet rises rose then_said two any few leaves
