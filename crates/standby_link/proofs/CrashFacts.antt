-- What a crash leaves of a standby over bytes, with the question for its last entry.
use Rattle.std.proofs.Common.{◌≡◌, ℕ, List, [], ◌∷◌, ◌++◌, Some, None, refl, sym, ap, ◌∙◌, subst, inl, inr}
use Rattle.std.specs.Prelude.{All}
use Rattle.std.proofs.lemmas.List.{append-nil}
use Rattle.std.proofs.lemmas.List.Elements.{All-tail}
use Rattle.command_types.specs.declared.ask.Entry.{Entry}
use Rattle.command_types.specs.Roster.{Rows}
use Rattle.outside.specs.Disk as disks
use Rattle.outside.specs.Disk.{left_since}
use Rattle.house.specs.House.{HouseView, Keeps}
use Rattle.house.specs.Storing.{moment_of}
use Rattle.standby.specs.Following.{Follows, IsLinked}
use Rattle.standby.specs.Laws.{WorldsStaySound, CrashesKeepWorldsSound}
use Rattle.standby.specs.Link.{Offer, World, AreAmong, moved, IsSound}
use Rattle.standby.specs.Lists.{IsHistoryOf, StandsForList}
use Rattle.standby.specs.Sent.{Sent, number_in, numbers_in}
use Rattle.standby.proofs.RunFacts.{moved_twice}
use Rattle.standby_link.specs.Compared.{Compares}
use Rattle.standby_link.specs.Laws.{CrashesLeaveSoundWorlds}

module _ (stay : WorldsStaySound) (crashes : CrashesKeepWorldsSound) (old new : HouseView) (asked said : List Sent) (heard heard' : List Offer) (f : Follows old new asked said heard heard')
    (roster : Rows) (w : World) (sound : IsSound w) (history : IsHistoryOf roster old.history w.standby) (among : AreAmong f.offers w.sent) (keeps : Keeps old) (runs : old.kept ≡ [])
    (linked : IsLinked roster old old (numbers_in asked) w) (disk : disks.History) (tells : new.disk ≡ Some disk)
    (image : List ℕ) (since : left_since disk (moment_of old.disk) image) where
  abbrev Left : List Sent → Type 0
  Left lines = All (λ (sent : Sent). left_since disk (moment_of sent.house.disk) image) lines

  abbrev Again : List ℕ → Type 0
  Again numbers = (entries : List Entry) × StandsForList image entries × IsSound (moved w entries numbers)

  -- nothing was asked before following
  unasked : asked ≡ [] → (first others : List Sent) → said ≡ first ++ others → Left first → Again (numbers_in first)
  unasked none first others split left =
      crashes old new asked said heard heard' f roster w sound history among keeps runs first others
      (ap (λ (ss : List Sent). ss ++ f.sends) (sym none) ∙ sym f.says ∙ split) disk tells image since left

  abbrev mid : World
  mid = moved w linked.entries (numbers_in asked)

  heads : (s t : Sent) (ss ts : List Sent) → s ∷ ss ≡ t ∷ ts → (s ≡ t) × (ss ≡ ts)
  heads s t ss ts is = (cc, cc)

  -- a line was, and by then it was said
  asked_by_then : (one : Sent) → asked ≡ one ∷ [] → (sent : Sent) (first others : List Sent) → said ≡ sent ∷ first ++ others → Left first → Again (numbers_in (sent ∷ first))
  asked_by_then one is sent first others split left =
      let both = heads one sent f.sends (first ++ others) (ap (λ (ss : List Sent). ss ++ f.sends) (sym is) ∙ sym f.says ∙ split) in
      let got = crashes old new asked said heard heard' f roster mid (stay linked.events w mid sound linked.leads) linked.stands among keeps runs first others both.1 disk tells image since left in
      let numbers : numbers_in asked ≡ number_in sent.line =
      ap numbers_in is ∙ append-nil (number_in one.line) ∙ ap (λ (s : Sent). number_in s.line) both.0 in (
        got.0,
        got.1,
        subst IsSound (moved_twice w linked.entries got.0 (numbers_in asked) (numbers_in first) ∙ ap (λ ns. moved w got.0 (ns ++ numbers_in first)) numbers) got.2,
      )

  asked_or_not : (one : Sent) → asked ≡ one ∷ [] → (first others : List Sent) → said ≡ first ++ others → Left first → Again (numbers_in first)
  asked_or_not one is [] others split left = crashes old new asked said heard heard' f roster w sound history among keeps runs [] f.sends refl disk tells image since left
  asked_or_not one is (sent ∷ first) others split left =
      asked_by_then one is sent first others split (All-tail (λ (s : Sent). left_since disk (moment_of s.house.disk) image) sent first left)

pub crashes_leave : WorldsStaySound → CrashesKeepWorldsSound → CrashesLeaveSoundWorlds
crashes_leave stay crashes login first now old new end f roster w sound history among keeps runs said others split disk tells image since left = by_compared f.begins.compares
  where
    by_compared : Compares login old f.hearing f.asked f.replied None → (entries : List Entry) × StandsForList image entries × IsSound (moved w entries (numbers_in said))
    by_compared (inl (none, unread, why)) =
        unasked stay crashes old new f.asked f.greeted.wire.said _ _ f.follows.follows roster w sound history among keeps runs (f.begins.linked roster w history) disk tells image since none said others split left
    by_compared (inr (does, asks)) =
        asked_or_not stay crashes old new f.asked f.greeted.wire.said _ _ f.follows.follows roster w sound history among keeps runs (f.begins.linked roster w history) disk tells image since _ asks.one said others split left
