-- A call of several commands on whose changes the disk failed.
use Rattle.std.proofs.Common.{◌≡◌, ◌⊎◌, ℕ, zero, suc, ◌+◌, ◌≤◌, Bool, true, false, All, List, [], ◌∷◌, ◌++◌, length, take, drop, Option, refl, sym, ◌∙◌, subst, ap, arith}
use Rattle.std.proofs.lemmas.Bool.{false≢true}
use Rattle.command_types.specs.declared.ask.Entry.{Entry}
use Rattle.command_types.specs.declared.answer.Answer.TheVariants.{No}
use Rattle.command_types.specs.declared.answer.Reply.{Reply}
use Rattle.command_types.specs.declared.figures.JournalFigures.{JournalFigures}
use Rattle.command_types.specs.declared.figures.State.{State}
use Rattle.command_types.specs.declared.refusal.Refusal.TheVariants.{DiskFault}
use Rattle.command_types.specs.History.{History, end_of}
use Rattle.outside.specs.Disk as disks
use Rattle.outside.specs.Faults.{Rose}
use Rattle.journal_core.specs.Moments.{LeavesOnly, MayLeaveYet}
use Rattle.recovery.specs.StandsFor.{StandsFor}
use Rattle.house.specs.Batch.{BatchView}
use Rattle.house.specs.CallingAll.{tried, CallsAll}
use Rattle.house.specs.Front.{AreFrom, IsFront, IsRunningAt}
use Rattle.house.specs.House.{HouseView, house_of, Keeps}
use Rattle.house.specs.Step.{AreToldAfterFault}
use Rattle.house.specs.Storing.{any_kept, most_together, StandsForAllOrNone}
use Rattle.house.proofs.AllFacts.{calls_failed, keeps_stopped, stopped_tried}

-- the command that made the first change, with what stands before and behind it
record Parted (before : ℕ) (commands : List Entry) : Type 0 where
  pub command : Entry
  pub split : commands ≡ take before commands ++ command ∷ drop (before + 1) commands
  pub placed : length (take before commands) ≡ before

parted : (before : ℕ) (change : Entry) (changes commands : List Entry) → AreFrom before (change ∷ changes) commands → Parted before commands
parted before change changes [] is = absurd is
parted zero change changes (c ∷ commands) is = record { command = c; split = refl; placed = refl }
parted (suc before) change changes (c ∷ commands) is =
    let p = parted before change changes commands is in
    let more : suc before + 1 ≡ suc (before + 1) = omega arith in
    record {
      command = p.command;
      split = ap (λ (cs : List Entry). c ∷ cs) p.split ∙ ap (λ (n : ℕ). c ∷ take before commands ++ p.command ∷ drop n (c ∷ commands)) (sym more);
      placed = ap suc p.placed;
    }

module _ (h : History) (opening : ℕ) (journal : JournalFigures) (disk : Option disks.History) (count : ℕ) (keeps : Keeps (house_of h opening journal [] disk count))
    (s then : State) (batch : BatchView) (running : IsRunningAt (house_of h opening journal [] disk count) s batch.size) (before : ℕ) (commands : List Entry) (replies : List Reply)
    (front : IsFront s then batch before commands replies) (begins : batch.at ≡ end_of h)
    (then_disk : Option disks.History) (then_count : ℕ) (yet : MayLeaveYet disk then_disk (λ image. StandsFor image h)) (rises : count ≤ then_count) (rose : Rose count then_count) where
  abbrev was : HouseView
  was = house_of h opening journal [] disk count

  abbrev stopped : List Entry → HouseView
  stopped kept = house_of h opening journal kept then_disk then_count

  abbrev Leaves : List Entry → Type 0
  Leaves kept = LeavesOnly disk then_disk (StandsForAllOrNone h kept)

  keeps_by : (kept : List Entry) → batch.entries ≡ kept → any_kept kept ≡ true → length kept ≤ most_together → Leaves kept → Keeps (stopped kept)
  keeps_by [] are any few leaves = absurd (false≢true any)
  keeps_by (change ∷ others) are any few leaves =
      keeps_stopped h opening journal disk count keeps s then batch running before commands replies front begins change others are few then_disk then_count leaves yet rises rose

  pub keeps_failed : any_kept batch.entries ≡ true → length batch.entries ≤ most_together → Leaves batch.entries → Keeps (stopped batch.entries)
  keeps_failed any few leaves = keeps_by batch.entries refl any few leaves

  tried_by : (kept : List Entry) → batch.entries ≡ kept → any_kept kept ≡ true → length kept ≤ most_together → Leaves kept → tried was (stopped kept) ≡ kept
  tried_by [] are any few leaves = absurd (false≢true any)
  tried_by (change ∷ others) are any few leaves =
      stopped_tried h opening journal disk count keeps s then batch running before commands replies front begins change others are few then_disk then_count leaves yet rises rose

  pub failed_tried : any_kept batch.entries ≡ true → length batch.entries ≤ most_together → Leaves batch.entries → tried was (stopped batch.entries) ≡ batch.entries
  failed_tried any few leaves = tried_by batch.entries refl any few leaves

  module _ (then_said : List Reply) (two : AreToldAfterFault s batch.size batch.at (drop (before + 1) commands) then_said) where
    abbrev all_said : List Reply
    all_said = take before replies ++ record { at = batch.at; answer = No DiskFault } ∷ then_said

    calls_by : (kept : List Entry) → batch.entries ≡ kept → any_kept kept ≡ true → length kept ≤ most_together → Leaves kept → CallsAll was (stopped kept) commands all_said
    calls_by [] are any few leaves = absurd (false≢true any)
    calls_by (change ∷ others) are any few leaves =
        let p : Parted before commands = parted before change others commands (subst (λ (es : List Entry). AreFrom before es commands) are front.order) in
        subst (λ (cs : List Entry). CallsAll was (stopped (change ∷ others)) cs all_said) (sym p.split)
        (calls_failed h opening journal disk count keeps s then batch running before commands replies front begins change others are few then_disk then_count leaves yet rises rose
        (take before commands) (drop (before + 1) commands) p.command p.split p.placed (take before replies) then_said (front.idle was running begins) two)

    pub failed_calls : any_kept batch.entries ≡ true → length batch.entries ≤ most_together → Leaves batch.entries → CallsAll was (stopped batch.entries) commands all_said
    failed_calls any few leaves = calls_by batch.entries refl any few leaves
