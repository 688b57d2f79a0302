-- A call of several commands, from what they came to in memory and on the disk.
use Rattle.std.proofs.Common.{◌≡◌, ◌⊎◌, inl, inr, ⊎_elim, ℕ, zero, suc, ◌+◌, ◌≤◌, Bool, true, false, All, List, [], ◌∷◌, ◌++◌, length, drop, Option, IsTrue, refl, sym, ◌∙◌, subst, ap, arith, append_assoc}
use Rattle.std.proofs.lemmas.Bool.{false≢true}
use Rattle.std.proofs.lemmas.List.{append-nil, drop-append-le, drop_all}
use Rattle.std.proofs.lemmas.List.Elements.{All-drop, All-head, All-tail}
use Rattle.command_types.specs.declared.ask.Entry.{Entry}
use Rattle.command_types.specs.declared.answer.Answer.TheVariants.{No}
use Rattle.command_types.specs.declared.answer.Reply.{Reply}
use Rattle.command_types.specs.declared.figures.JournalFigures.{JournalFigures}
use Rattle.command_types.specs.declared.figures.State.{State}
use Rattle.command_types.specs.declared.refusal.Refusal.TheVariants.{DiskFault}
use Rattle.command_types.specs.History.{History, IsLegal, end_of, longer, replayed}
use Rattle.command_types.specs.Sizes.{frame_size, frames_size, journal_limit}
use Rattle.outside.specs.Disk as disks
use Rattle.outside.specs.Faults.{Rose}
use Rattle.journal_core.specs.Moments.{LeavesOnly, MayLeaveYet}
use Rattle.recovery.specs.StandsFor.{StandsFor}
use Rattle.cycle_states.specs.Replayed.{IsReplayed}
use Rattle.house.specs.Batch.{BatchView, is_shared}
use Rattle.house.specs.Calling.{is_disk_fault}
use Rattle.command_types.specs.InTurn.{AreToldInTurn, IsToldNext}
use Rattle.house.specs.CallingAll.{IsAskedAlone, TellsFault, tried, CallsAll}
use Rattle.house.specs.Front.{AreFrom, IsFront, IsRunningAt}
use Rattle.house.specs.House.{HouseView, bytes_of, figures_of, house_of, is_stopped, Keeps}
use Rattle.house.specs.Step.{IsAcceptedChange, AreToldAfterFault, IsToldAfterFault}
use Rattle.house.specs.Storing.{most_together, AreStored, StandsForAllOrNone}
use Rattle.house.proofs.CallingAllFacts.{are_tried, as_many, told_all}
use Rattle.house.proofs.CallingFacts.{running_stored}
use Rattle.house.proofs.KeepFacts.{keeps_more, keeps_none}
use Rattle.house.proofs.StepFacts.{told_machine, told_no_memory, told_full, told_failed, told_stopped}
use Rattle.house.proofs.StoringFacts.{still}

-- ---- after a fault

-- the first of the changes was told the fault
pub tells_first : (change : Entry) (changes front rest : List Entry) (command : Entry) (said then_said : List Reply) (reply : Reply) → length said ≡ length front → IsTrue (is_disk_fault reply.answer)
    → AreFrom (length front) (change ∷ changes) (front ++ command ∷ rest) → TellsFault (change ∷ changes) (front ++ command ∷ rest) (said ++ reply ∷ then_said)
tells_first change changes [] rest command [] then_said reply same fault is = inl (is.0, fault, is.1)
tells_first change changes [] rest command (r ∷ said) then_said reply same fault is = absurd cc
tells_first change changes (c ∷ front) rest command [] then_said reply same fault is = absurd cc
tells_first change changes (c ∷ front) rest command (r ∷ said) then_said reply same fault is =
    inr (tells_first change changes front rest command said then_said reply (omega (arith, same)) fault is)

module _ (v : HouseView) (s : State) (leads : IsReplayed s v.history) (stopped : is_stopped v ≡ true) (size : ℕ) (bytes : size ≡ bytes_of v) (at : ℕ) (place : at ≡ end_of v.history) where
  -- a command that is answered so is told in the history from before the call, at a desk that is stopped
  told_again : (command : Entry) (reply : Reply) → is_shared command.ask.what ≡ true → IsToldAfterFault s size at command reply → IsToldNext (figures_of v) true true v.history command reply v.history
  told_again command reply shared (inl (inl machine)) = told_machine v s leads command shared at place true true reply (λ stopped. stopped) machine.0 machine.1
  told_again command reply shared (inl (inr (inl full))) =
      subst (λ (t : Bool). IsToldNext (figures_of v) t true v.history command reply v.history) stopped
      (told_full v s leads command shared at place true size reply (λ _. refl) bytes full.0 full.1 full.2)
  told_again command reply shared (inl (inr (inr memory))) = told_no_memory v s leads command shared at place true true reply (λ stopped. stopped) memory
  told_again command reply shared (inr refused) = told_stopped v s leads command shared at place size reply bytes stopped refused.0 refused.1 refused.2

  pub all_told_again : (commands : List Entry) (replies : List Reply) → All (λ (c : Entry). is_shared c.ask.what ≡ true) commands → AreToldAfterFault s size at commands replies
      → AreToldInTurn (figures_of v) true true v.history commands replies v.history
  all_told_again [] [] shared told = (refl, refl)
  all_told_again [] (r ∷ replies) shared told = absurd told
  all_told_again (c ∷ commands) [] shared told = absurd told
  all_told_again (c ∷ commands) (r ∷ replies) shared told = (
    v.history,
    true,
    told_again c r (All-head (λ (x : Entry). is_shared x.ask.what ≡ true) c commands shared) told.0,
    all_told_again commands replies (All-tail (λ (x : Entry). is_shared x.ask.what ≡ true) c commands shared) told.1,
  )

-- the first change is the command behind those before it
first_change : (change : Entry) (changes first rest : List Entry) (command : Entry) → AreFrom (length first) (change ∷ changes) (first ++ command ∷ rest) → change ≡ command
first_change change changes [] rest command is = is.0
first_change change changes (c ∷ first) rest command is = first_change change changes first rest command is

-- ---- the call

-- why its front ends there, in the words of the house
pub stops_there : (then : State) (old new : HouseView) (changes rest : List Entry) → IsReplayed then (longer old.history changes) → tried old new ≡ changes → IsAskedAlone then rest
    → IsAskedAlone (replayed (longer old.history (tried old new))) rest
stops_there then old new changes rest is are asks =
    subst (λ (s : State). IsAskedAlone s rest) (is.same ∙ ap (λ (es : List Entry). replayed (longer old.history es)) (sym are)) asks

module _ (h : History) (opening : ℕ) (journal : JournalFigures) (disk : Option disks.History) (count : ℕ) (keeps : Keeps (house_of h opening journal [] disk count))
    (s then : State) (batch : BatchView) (running : IsRunningAt (house_of h opening journal [] disk count) s batch.size) (before : ℕ) (commands : List Entry) (replies : List Reply)
    (front : IsFront s then batch before commands replies) (begins : batch.at ≡ end_of h) where
  abbrev was : HouseView
  was = house_of h opening journal [] disk count

  abbrev changes : List Entry
  changes = batch.entries

  told : AreToldInTurn (figures_of was) false false h commands replies (longer h changes)
  told = front.told was running begins

  pub none_tried : tried was was ≡ []
  none_tried = are_tried h.entries [] [] h.entries [] (sym (append-nil h.entries)) refl

  -- no change was made
  pub calls_none : changes ≡ [] → CallsAll was was commands replies
  calls_none none = record {
    told =
        let same : longer h changes ≡ h = ap (longer h) none ∙ ap (λ (es : List Entry). record h { entries = es }) (append-nil h.entries) in
        subst (λ (n : History). AreToldInTurn (figures_of was) false false h commands replies n) same told;
    rests = λ _. refl;
    none = λ _. refl;
    any_moment = λ runs. still disk (bytes_of was) h (tried was was) (running_stored was keeps refl);
    counted = omega arith;
    failed = λ runs stopped. absurd (false≢true stopped);
    figures = refl;
    keeps = keeps;
  }

  module _ (few : length changes ≤ most_together) (then_disk : Option disks.History) (then_count : ℕ) (leaves : LeavesOnly disk then_disk (StandsForAllOrNone h changes))
      (yet : MayLeaveYet disk then_disk (λ image. StandsFor image h)) (rises : count ≤ then_count) where
    legal : IsLegal (longer h changes)
    legal = (front.made h running.replayed).replayed.legal

    -- all were made
    abbrev done : HouseView
    done = house_of (longer h changes) opening journal [] then_disk then_count

    pub done_tried : tried was done ≡ changes
    done_tried = are_tried h.entries changes [] (h.entries ++ changes) [] refl refl ∙ append-nil changes

    pub keeps_made : AreStored then_disk (bytes_of was + frames_size changes) (longer h changes) → Keeps done
    keeps_made stored = keeps_more h opening journal disk count keeps then_disk then_count yet rises changes few legal leaves stored

    pub calls_made : AreStored then_disk (bytes_of was + frames_size changes) (longer h changes) → CallsAll was done commands replies
    calls_made stored = record {
      told = told;
      rests = λ never. absurd (false≢true never);
      none = λ never. absurd (false≢true never);
      any_moment = λ _. subst (λ (es : List Entry). LeavesOnly disk then_disk (StandsForAllOrNone h es)) (sym done_tried) leaves;
      counted = rises;
      failed = λ runs never. absurd (false≢true never);
      figures = refl;
      keeps = keeps_made stored;
    }

  -- the disk failed on these
  module _ (change : Entry) (others : List Entry) (are : changes ≡ change ∷ others) (few : length (change ∷ others) ≤ most_together) (then_disk : Option disks.History) (then_count : ℕ)
      (leaves : LeavesOnly disk then_disk (StandsForAllOrNone h (change ∷ others))) (yet : MayLeaveYet disk then_disk (λ image. StandsFor image h)) (rises : count ≤ then_count) (rose : Rose count then_count) where
    abbrev stopped : HouseView
    stopped = house_of h opening journal (change ∷ others) then_disk then_count

    pub stopped_tried : tried was stopped ≡ change ∷ others
    stopped_tried = are_tried h.entries [] (change ∷ others) h.entries (change ∷ others) (sym (append-nil h.entries)) refl

    pub keeps_stopped : Keeps stopped
    keeps_stopped = keeps_none h opening journal disk count keeps then_disk then_count yet rises change others few
        (subst (λ (es : List Entry). IsLegal (longer h es)) are (front.made h running.replayed).replayed.legal) leaves rose

    from : AreFrom before (change ∷ others) commands
    from = subst (λ (es : List Entry). AreFrom before es commands) are front.order

    module _ (first rest : List Entry) (command : Entry) (split : commands ≡ first ++ command ∷ rest) (placed : length first ≡ before) (said then_said : List Reply)
        (one : AreToldInTurn (figures_of was) false false h first said h) (two : AreToldAfterFault s batch.size batch.at rest then_said) where
      abbrev fault : Reply
      fault = record { at = batch.at; answer = No DiskFault }

      from_there : AreFrom (length first) (change ∷ others) (first ++ command ∷ rest)
      from_there = subst (λ (n : ℕ). AreFrom n (change ∷ others) (first ++ command ∷ rest)) (sym placed) (subst (λ (cs : List Entry). AreFrom before (change ∷ others) cs) split from)

      shared_all : All (λ (c : Entry). is_shared c.ask.what ≡ true) (first ++ command ∷ rest)
      shared_all = subst (All (λ (c : Entry). is_shared c.ask.what ≡ true)) split front.shared

      shared_rest : All (λ (c : Entry). is_shared c.ask.what ≡ true) (command ∷ rest)
      shared_rest =
          subst (All (λ (c : Entry). is_shared c.ask.what ≡ true)) (drop-append-le (length first) first (command ∷ rest) (omega arith) ∙ ap (λ (cs : List Entry). cs ++ command ∷ rest) (drop_all (length first) first (omega arith)))
          (All-drop (λ (c : Entry). is_shared c.ask.what ≡ true) (length first) (first ++ command ∷ rest) shared_all)

      here : IsToldNext (figures_of was) false true h command fault h
      here =
          let accepted = front.first.accepted change others are in
          let same : change ≡ command = first_change change others first rest command from_there in
          let mine = subst (λ (c : Entry). IsAcceptedChange s c × (batch.size + frame_size c.ask ≤ journal_limit)) same accepted in
          told_failed was s running.replayed command (All-head (λ (c : Entry). is_shared c.ask.what ≡ true) command rest shared_rest) batch.at begins batch.size fault (sym running.bytes) refl mine.0 mine.1 refl

      again : AreToldInTurn (figures_of was) true true h rest then_said h
      again = all_told_again stopped s running.replayed refl batch.size (sym running.bytes) batch.at begins rest then_said (All-tail (λ (c : Entry). is_shared c.ask.what ≡ true) command rest shared_rest) two

      pub calls_failed : CallsAll was stopped (first ++ command ∷ rest) (said ++ fault ∷ then_said)
      calls_failed = record {
        told = told_all (figures_of was) false false true h h h first (command ∷ rest) said (fault ∷ then_said) one (h, true, here, again);
        rests = λ never. absurd (false≢true never);
        none = λ _. refl;
        any_moment = λ _. subst (λ (es : List Entry). LeavesOnly disk then_disk (StandsForAllOrNone h es)) (sym stopped_tried) leaves;
        counted = rises;
        failed = λ _ _. (
          rose,
          tells_first change others first rest command said then_said fault (as_many (figures_of was) false false h h first said one) refl from_there,
        );
        figures = refl;
        keeps = keeps_stopped;
      }
