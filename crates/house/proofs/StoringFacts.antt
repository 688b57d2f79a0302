-- What stands on the disk after a change, and what a crash during it leaves.
use Rattle.std.proofs.Common.{◌≡◌, inl, inr, ⊎_elim, ℕ, ◌≤◌, List, [], ◌∷◌, ◌++◌, length, Option, Some, None, is_some, refl, sym, ◌∙◌, subst, ap, arith, append_assoc, length-append}
use Rattle.std.proofs.lemmas.List.{append-nil}
use Rattle.command_types.specs.declared.ask.Entry.{Entry}
use Rattle.command_types.specs.History.{History, longer}
use Rattle.outside.specs.Disk.{may_leave}
use Rattle.outside.specs.Disk as disks
use Rattle.journal_core.specs.Moments.{LeavesOnly}
use Rattle.journal_core.proofs.MomentFacts.{started}
use Rattle.recovery.specs.StandsFor.{StandsFor}
use Rattle.journal_core.specs.declared.form.Form.{Form}
use Rattle.house.specs.Folding.{StandsForOne}
use Rattle.house.specs.Storing.{IsStored, AreStored, AreStoredAs, StandsForAllOrNone, StandsForFront, AreOnDisk, moment_of, LeavesHistory}
use Rattle.house.proofs.JournalFacts.{stored_stand}

-- ---- a stored history

-- what a crash now leaves stands for it
left_now : (disk : disks.History) (size : ℕ) (h : History) → IsStored disk size h → (image : List ℕ) → may_leave disk.now image → StandsFor image h
left_now disk size h stored image now = subst (λ (file : List ℕ). StandsFor file h) (sym (stored.1.1.2.0 image now)) (stored_stand disk size h stored)

pub stored_leaves : (o : Option disks.History) (size : ℕ) (h : History) → AreStored o size h → LeavesHistory o h
stored_leaves None size h stored = tt
stored_leaves (Some disk) size h stored = left_now disk size h stored

-- what is stored in a journal of a form is stored
pub stored_as : (o : Option disks.History) (form : Form) (size : ℕ) (h : History) → AreStoredAs o form size h → AreStored o size h
stored_as None form size h stored = tt
stored_as (Some disk) form size h stored = (form, stored)

-- where nothing is done, a crash leaves only what stands for it
pub still : (o : Option disks.History) (size : ℕ) (h : History) (more : List Entry) → AreStored o size h → LeavesOnly o o (StandsForAllOrNone h more)
still None size h more stored = refl
still (Some disk) size h more stored = started disk (StandsForAllOrNone h more) (λ image now. inl (left_now disk size h stored image now))

-- ---- since the opening

module _ (opening : ℕ) (first h : History) (within : opening ≤ length h.entries) where
  -- all changes are a front
  front_all : (image : List ℕ) → StandsFor image h → StandsForFront opening first h image
  front_all image stands = record { front = h.entries; back = []; split = sym (append-nil h.entries); long = within; stands = inl stands }

  front_more : (more : List Entry) (image : List ℕ) → StandsForFront opening first h image → StandsForFront opening first (longer h more) image
  front_more more image f = record {
    front = f.front;
    back = f.back ++ more;
    split = ap (λ (es : List Entry). es ++ more) f.split ∙ append_assoc f.front f.back more;
    long = f.long;
    stands = f.stands;
  }

  front_all_more : (more : List Entry) (image : List ℕ) → StandsFor image (longer h more) → StandsForFront opening first (longer h more) image
  front_all_more more image stands = record {
    front = h.entries ++ more;
    back = [];
    split = sym (append-nil (h.entries ++ more));
    long = omega (arith, within, length-append h.entries more);
    stands = inl stands;
  }

  more_of_either : (more : List Entry) (image : List ℕ) → StandsForAllOrNone h more image → StandsForFront opening first (longer h more) image
  more_of_either more image = ⊎_elim (λ without. front_more more image (front_all image without)) (λ with_them. front_all_more more image with_them)

  module _ (since : ℕ) where
    -- after changes that were made
    pub on_disk_more : (o after : Option disks.History) (size next : ℕ) (more : List Entry) → AreOnDisk since opening first o size h [] → LeavesOnly o after (StandsForAllOrNone h more)
        → AreStored after next (longer h more) → AreOnDisk since opening first after next (longer h more) []
    on_disk_more None after size next more on leaves stored = subst (λ (a : Option disks.History). AreOnDisk since opening first a next (longer h more) []) (sym leaves) tt
    on_disk_more (Some disk) None size next more on leaves stored = absurd leaves
    on_disk_more (Some disk) (Some later) size next more on leaves stored = record {
      later = omega (arith, on.later, leaves.later);
      stored = λ none. stored;
      each = λ image left. inl (⊎_elim
          (λ was. ⊎_elim (λ front. front_more more image front) (λ never. absurd never) (on.each image was))
          (λ either. more_of_either more image either)
          (leaves.before since image on.later left));
    }

    -- after those on which the disk failed
    pub on_disk_broken : (o after : Option disks.History) (size : ℕ) (entry : Entry) (others : List Entry) → AreOnDisk since opening first o size h [] → LeavesOnly o after (StandsForAllOrNone h (entry ∷ others))
        → AreOnDisk since opening first after size h (entry ∷ others)
    on_disk_broken None after size entry others on leaves = subst (λ (a : Option disks.History). AreOnDisk since opening first a size h (entry ∷ others)) (sym leaves) tt
    on_disk_broken (Some disk) None size entry others on leaves = absurd leaves
    on_disk_broken (Some disk) (Some later) size entry others on leaves = record {
      later = omega (arith, on.later, leaves.later);
      stored = λ none. absurd cc;
      each = λ image left. ⊎_elim
          (λ was. ⊎_elim (λ front. inl front) (λ never. absurd never) (on.each image was))
          (λ either. ⊎_elim (λ without. inl (front_all image without)) (λ with_them. inr with_them) either)
          (leaves.before since image on.later left);
    }

-- at the opening
pub on_disk_first : (o after : Option disks.History) (size : ℕ) (first h : History) → LeavesOnly o after (StandsForOne h first) → AreStored after size h
    → AreOnDisk (moment_of o) (length h.entries) first after size h []
on_disk_first None after size first h leaves stored = subst (λ (a : Option disks.History). AreOnDisk 0 (length h.entries) first a size h []) (sym leaves) tt
on_disk_first (Some disk) None size first h leaves stored = absurd leaves
on_disk_first (Some disk) (Some later) size first h leaves stored = record {
  later = leaves.later;
  stored = λ none. stored;
  each = λ image left. inl (record {
    front = h.entries;
    back = [];
    split = sym (append-nil h.entries);
    long = omega arith;
    stands = ⊎_elim (λ own. inl own) (λ was. inr (refl, was)) (leaves.each image left);
  });
}

-- a house in which no change was kept has its history on the disk
pub stored_now : (since opening : ℕ) (first : History) (o : Option disks.History) (size : ℕ) (h : History) → AreOnDisk since opening first o size h [] → AreStored o size h
stored_now since opening first None size h on = tt
stored_now since opening first (Some disk) size h on = on.stored refl

-- a disk goes on as it is: it tells what it holds, or nothing
pub tells_on : (o after : Option disks.History) (P : List ℕ → Type 0) → LeavesOnly o after P → is_some after ≡ is_some o
tells_on None after P leaves = ap (λ (x : Option disks.History). is_some x) leaves
tells_on (Some disk) None P leaves = absurd leaves
tells_on (Some disk) (Some later) P leaves = refl

-- no moment comes again
pub moments_rise : (o after : Option disks.History) (P : List ℕ → Type 0) → LeavesOnly o after P → moment_of o ≤ moment_of after
moments_rise None after P leaves = omega arith
moments_rise (Some disk) None P leaves = absurd leaves
moments_rise (Some disk) (Some later) P leaves = leaves.later
