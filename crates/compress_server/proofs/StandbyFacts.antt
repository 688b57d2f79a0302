-- What a crash of a standby leaves, from the disk that came in on.
use Rattle.std.proofs.Common.{◌≡◌, ◌⊎◌, ℕ, ◌+◌, List, [], ◌∷◌, ◌++◌, length, Option, Some, None, refl, sym, ap, ◌∙◌, subst, inl, inr, ⊎_elim, arith, append_assoc}
use Rattle.command_types.specs.declared.ask.Entry.{Entry}
use Rattle.command_types.specs.Folds.{folded}
use Rattle.command_types.specs.History.{History, end_of}
use Rattle.command_types.specs.Roster.{Rows}
use Rattle.outside.specs.Disk as disks
use Rattle.recovery.specs.StandsFor.{StandsFor}
use Rattle.house.specs.Folding.{OpensOn, OpensWith}
use Rattle.house.specs.House.{HouseView, first_of}
use Rattle.house.specs.Storing.{StandsForFront, StandsForKept}
use Rattle.standby.specs.Following.{IsLinked}
use Rattle.standby.specs.Laws.{FoldsKeepTheList}
use Rattle.standby.specs.Link.{World, AreAmong, moved, IsSound}
use Rattle.standby.specs.Lists.{IsHistoryOf, StandsForList, BeginsWith}
use Rattle.standby.specs.Sent.{numbers_in}
use Rattle.standby.specs.declared.follow.FollowEnd.{FollowEnd}
use Rattle.standby.proofs.LeftFacts.{begins_with_next, stands_list}
use Rattle.standby.proofs.LinkFacts.{stays_sound, begins_on, folds_keep}
use Rattle.standby_link.specs.Followed.{Followed}
use Rattle.standby_link.specs.Laws.{CrashesLeaveSoundWorlds}
use Rattle.compress_server.specs.Follow.{login_of, link_of, Follows}
use Rattle.compress_server.specs.Housed.{DiskState, AtAnyMoment, IsHoused}
use Rattle.compress_server.specs.Seen.{Streams}
use Rattle.compress_server.specs.StandbyLaws.{StandbysHoldPrefixes, StandbysLeaveSoundWorlds}
use Rattle.program_words.specs.Words.{Standby}

opens_with : (disk : Option disks.History) (first h : History) (size : ℕ) → OpensOn disk first h size → OpensWith first h
opens_with None first h size opens = opens
opens_with (Some disk) first h size (inl (never, same, end)) = inl same
opens_with (Some disk) first h size (inr (to_fold, same, end)) = inr (to_fold.may.at_rest, same)

-- an opening keeps the list
list_of : FoldsKeepTheList → (rows : Rows) (first h : History) (entries : List Entry) → OpensWith first h → IsHistoryOf rows first entries → IsHistoryOf rows h entries
list_of folds rows first h entries (inl same) is = subst (λ (x : History). IsHistoryOf rows x entries) (sym same) is
list_of folds rows first h entries (inr (rest, same)) is = subst (λ (x : History). IsHistoryOf rows x entries) (sym same) (folds rows first entries is).0

at_any : (P Q : List ℕ → Type 0) → ((image : List ℕ) → P image → Q image) → (before after : Option disks.History) → AtAnyMoment before after P → AtAnyMoment before after Q
at_any P Q to None after none = none
at_any P Q to (Some before) None none = absurd none
at_any P Q to (Some before) (Some after) (later, each) = (later, λ image left. to image (each image left))

module _ (folds : FoldsKeepTheList) (standby : Standby) (before after : Streams) (rows : Rows) (disk left : DiskState) (v w : HouseView) (end : FollowEnd)
    (housed : IsHoused rows disk left v w) (follows : Follows standby before after left v w end) (f : Followed (login_of standby) (link_of before) (link_of after) v w end)
    (world : World) (sound : IsSound world) (is : IsHistoryOf rows (first_of v.journal) world.standby) (among : AreAmong f.follows.follows.offers world.sent) where
  -- the house opened with the same list
  opened : IsHistoryOf rows v.history world.standby
  opened = list_of folds rows (first_of v.journal) v.history world.standby (opens_with disk.history (first_of v.journal) v.history v.journal.size housed.opened.opens) is

  abbrev Holds : List ℕ → Type 0
  Holds image = (entries : List Entry) × StandsForList image entries × BeginsWith world.primary entries

  -- the list of the house as it came back
  abbrev link : IsLinked rows v w (numbers_in f.follows.follows.sends) world
  link = f.follows.follows.linked rows world opened among

  begins : BeginsWith world.primary link.entries
  begins = (stays_sound link.events world (moved world link.entries (numbers_in f.follows.follows.sends)) sound link.leads).front

  -- a front of its history
  front_holds : (image : List ℕ) (front back : List Entry) → w.history.entries ≡ front ++ back → StandsFor image (record w.history { entries = front }) → Holds image
  front_holds image front back split stands =
      let whole : link.entries ≡ (link.stands.front ++ front) ++ back =
      link.stands.split ∙ ap (λ es. link.stands.front ++ es) split ∙ sym (append_assoc link.stands.front front back) in (
        link.stands.front ++ front,
        stands_list rows image w.history link.entries front link.stands stands,
        begins_on (link.stands.front ++ front) link.entries world.primary (back, whole) begins,
      )

  -- all of it with what was kept
  kept_front : BeginsWith world.primary (link.entries ++ w.kept)
  kept_front =
      let long : end_of w.history ≡ length link.entries = (folds_keep rows w.history link.entries link.stands).1 in
      begins_with_next world.primary world.sent f.follows.follows.offers sound.fits among link.entries w.kept (end_of w.history + 1) (omega (arith, long)) f.follows.follows.kept begins

  kept_holds : (image : List ℕ) (kept : List Entry) → w.kept ≡ kept → StandsForKept w.history kept image → Holds image
  kept_holds image [] none never = absurd never
  kept_holds image (entry ∷ others) some stands =
      let whole : link.entries ++ entry ∷ others ≡ link.stands.front ++ (w.history.entries ++ entry ∷ others) =
      ap (λ es. es ++ entry ∷ others) link.stands.split ∙ append_assoc link.stands.front w.history.entries (entry ∷ others) in (
        link.stands.front ++ (w.history.entries ++ entry ∷ others),
        stands_list rows image w.history link.entries (w.history.entries ++ entry ∷ others) link.stands stands,
        subst (BeginsWith world.primary) whole (subst (λ (es : List Entry). BeginsWith world.primary (link.entries ++ es)) some kept_front),
      )

  -- the first history is that of the standby's list
  as_first : (image : List ℕ) → StandsFor image (first_of v.journal) → Holds image
  as_first image stands =
      (world.standby, subst (StandsForList image) (sym is.split) (stands_list rows image (first_of v.journal) world.standby v.journal.first is stands), sound.front)

  any : (image : List ℕ) → StandsForFront v.opening (first_of v.journal) w.history image ⊎ StandsForKept w.history w.kept image → Holds image
  any image (inr kept) = kept_holds image w.kept refl kept
  any image (inl front) = ⊎_elim
      (λ (own : StandsFor image (record w.history { entries = front.front })). front_holds image front.front front.back front.split own)
      (λ (was : (length front.front ≡ v.opening) × StandsFor image (first_of v.journal)). as_first image was.1)
      front.stands

  prefixes : AtAnyMoment disk.history left.history Holds
  prefixes = at_any (λ image. StandsForFront v.opening (first_of v.journal) w.history image ⊎ StandsForKept w.history w.kept image) Holds any disk.history left.history housed.any_moment

pub hold_prefixes : FoldsKeepTheList → StandbysHoldPrefixes
unfolding prefixes
hold_prefixes folds standby before after rows disk left v w end housed follows f world sound is among = prefixes folds standby before after rows disk left v w end housed follows f world sound is among

pub leave_sound_worlds : FoldsKeepTheList → CrashesLeaveSoundWorlds → StandbysLeaveSoundWorlds
leave_sound_worlds folds crashes standby before after rows disk left v w end housed follows f world sound is among said others split now tells image since each =
    crashes (login_of standby) (link_of before) (link_of after) v w end f rows world sound
    (list_of folds rows (first_of v.journal) v.history world.standby (opens_with disk.history (first_of v.journal) v.history v.journal.size housed.opened.opens) is)
    among follows.keeps housed.opened.running said others split now (sym follows.disk ∙ tells) image since each
