-- The disk and the house at the opening.
use Rattle.std.proofs.Common.{◌≡◌, inl, ℕ, ◌+◌, ◌≤◌, true, List, [], length, take, drop, Option, Some, None, is_some, sym, ◌∙◌, subst, ap, arith}
use Rattle.std.proofs.lemmas.Bool.{false≢true}
use Rattle.std.proofs.lemmas.List.{drop_all, take_all}
use Rattle.command_types.specs.declared.ask.Entry.{Entry}
use Rattle.command_types.specs.declared.figures.JournalFigures.{JournalFigures}
use Rattle.command_types.specs.declared.figures.State.{State}
use Rattle.command_types.specs.History.{History, IsLegal}
use Rattle.command_types.specs.Sizes.{frames_size, journal_limit}
use Rattle.outside.specs.Disk.{IsSettled}
use Rattle.outside.specs.Disk as disks
use Rattle.journal_core.specs.Moments.{LeavesOnly}
use Rattle.journal_core.proofs.MomentFacts.{leaves_more, started}
use Rattle.recovery.specs.StandsFor.{StandsFor}
use Rattle.cycle_states.specs.Replayed.{IsReplayed}
use Rattle.house.specs.Folding.{LeavesOpenedAs, OpensWith, StandsForOne, StandsForOpened}
use Rattle.house.specs.Storing.{AreStored, AreStoredAs, AreOnDisk, NeverGoBack, moment_of, ContentStandsFor}
use Rattle.house.specs.House.{JournalNow, IsHouse, first_of, house_of}
use Rattle.house.proofs.GoingFacts.{back_first, none_kept}
use Rattle.house.proofs.StoringFacts.{stored_as, stored_leaves, on_disk_first, moments_rise, tells_on}

-- where nothing is written, a crash leaves only what stands for the same
pub still_standing : (o after : Option disks.History) (h : History) → after ≡ o → IsSettled o → ContentStandsFor o h → LeavesOnly o after (λ image. StandsFor image h)
still_standing None after h same settled stands = same
still_standing (Some disk) after h same settled stands =
    subst (λ (a : Option disks.History). LeavesOnly (Some disk) a (λ image. StandsFor image h)) (sym same)
    (started disk (λ image. StandsFor image h) (λ image now. subst (λ (f : List ℕ). StandsFor f h) (sym (settled image now)) stands))

-- which is what may be left at an opening
pub only_opened : (o after : Option disks.History) (h : History) → LeavesOnly o after (λ image. StandsFor image h) → LeavesOpenedAs o after h
only_opened None after h leaves = leaves
only_opened (Some disk) after h leaves = leaves_more (Some disk) after (λ image. StandsFor image h) (StandsForOpened disk.content h) (λ image stands. inl stands) leaves

-- the house of what was recovered, whose journal was started
pub opened_house : (s : State) (h : History) (opening : ℕ) (now : JournalNow) (journal : JournalFigures) (o after : Option disks.History) (count : ℕ) → IsReplayed s h → opening ≡ length h.entries
    → journal.size ≡ now.size → journal.faults ≡ count → OpensWith (first_of journal) h → IsLegal (first_of journal) → length h.entries ≤ journal_limit → journal.first_moment ≡ moment_of o
    → journal.moment ≡ moment_of after → journal.tells ≡ is_some o → LeavesOnly o after (StandsForOne h (first_of journal)) → AreStoredAs after now.form now.size h → now.sound ≡ true
    → IsHouse s now (house_of h opening journal [] after count)
opened_house s h opening now journal o after count replayed all same_size same_count opens legal few first_moment moment tells leaves stored sound =
    let entries = h.entries in
    let first = first_of journal in
    let P : List ℕ → Type 0 = StandsForOne h first in
    let nothing : frames_size (drop opening entries) ≡ 0 = ap frames_size (drop_all opening entries (omega (arith, all))) in
    let whole : take opening entries ≡ entries = take_all opening entries (omega (arith, all)) in
    let sized : now.size ≡ journal.size + frames_size (drop opening entries) = omega (arith, same_size, nothing) in
    let plain : AreStored after now.size h = stored_as after now.form now.size h stored in
    let on : AreOnDisk (moment_of o) (length entries) first after now.size h [] = on_disk_first o after now.size first h leaves plain in
    let later : moment_of o ≤ moment_of after = moments_rise o after P leaves in
    let here : AreOnDisk journal.first_moment opening first after now.size h [] =
    subst (λ (n : ℕ). AreOnDisk journal.first_moment n first after now.size h []) (sym all)
    (subst (λ (t : ℕ). AreOnDisk t (length entries) first after now.size h []) (sym first_moment) on) in
    record {
      replayed = replayed;
      sized = sized;
      stored = λ _. stored;
      sound = λ _. sound;
      keeps = record {
        legal = replayed.legal;
        opened = omega (arith, all);
        first = subst (λ (es : List Entry). OpensWith first (record h { entries = es })) (sym whole) opens;
        first_legal = legal;
        few = omega (arith, few, ap length whole);
        tells = tells_on o after P leaves ∙ sym tells;
        on_disk = subst (λ (n : ℕ). AreOnDisk journal.first_moment opening first after n h []) sized here;
        moments = (omega (arith, first_moment, moment, later), omega (arith, moment));
        leaves = λ _. stored_leaves after now.size h plain;
        few_kept = omega arith;
        kept_legal = replayed.legal;
        leaves_kept = none_kept after h (stored_leaves after now.size h plain);
        never_back = subst (λ (n : ℕ). NeverGoBack journal.first_moment n first after h []) (sym all)
            (subst (λ (t : ℕ). NeverGoBack t (length entries) first after h []) (sym first_moment) (back_first o after first h leaves));
        counted = omega (arith, same_count);
        stopped = λ never. absurd (false≢true never);
      };
    }
