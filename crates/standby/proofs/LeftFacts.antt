-- What a crash in following leaves, as the world sees it.
use Rattle.std.proofs.Common.{◌≡◌, ◌⊎◌, ℕ, ◌+◌, ◌≤◌, List, [], ◌∷◌, ◌++◌, length, Option, Some, None, refl, sym, ap, ◌∙◌, subst, inl, inr, ⊎_elim, arith, length-append, append_assoc}
use Rattle.std.specs.Prelude.{All}
use Rattle.std.specs.List.{Contains}
use Rattle.std.proofs.lemmas.List.{append-nil}
use Rattle.std.proofs.lemmas.List.Elements.{All-nil, All-cons, All-append, All-weaker, All-head, All-tail, All-contains}
use Rattle.command_types.specs.declared.ask.Entry.{Entry}
use Rattle.command_types.specs.declared.figures.Start.{Start}
use Rattle.command_types.specs.declared.figures.State.{State}
use Rattle.command_types.specs.History.{History, end_of, longer, replayed_from}
use Rattle.command_types.specs.Machine.{empty_state}
use Rattle.command_types.specs.Roster.{Rows}
use Rattle.outside.specs.Disk as disks
use Rattle.outside.specs.Disk.{left_since}
use Rattle.recovery.specs.StandsFor.{StandsFor}
use Rattle.house.specs.Storing.{StandsForFront, StandsForKept, AreOnDisk, moment_of}
use Rattle.house.specs.House.{HouseView, bytes_of, Keeps}
use Rattle.house.proofs.JournalFacts.{one_place}
use Rattle.standby.specs.Lists.{IsHistoryOf, StandsForList, BeginsWith}
use Rattle.standby.specs.Link.{Offer, Fits, World, AreAmong, moved, AreAtMost, IsSound}
use Rattle.standby.specs.Sent.{Sent, number_in, numbers_in}
use Rattle.standby.specs.Following.{HeldSince, IsSaidBefore, IsLinked, Follows, offers_from}
use Rattle.standby.specs.declared.peer.Said.TheVariants.{Hello, Next, Bye}
use Rattle.trade_history.proofs.Rosters.{roster_on}
use Rattle.standby.proofs.LinkFacts.{stays_sound, front_and_next, begins_on, folds_keep}
use Rattle.standby.proofs.HeldFacts.{held_now}

front_of_all : (P : Sent → Type 0) (xs ys : List Sent) → All P (xs ++ ys) → All P xs
front_of_all P [] ys all = All-nil P
front_of_all P (x ∷ xs) ys all = All-cons P x xs (All-head P x (xs ++ ys) all) (front_of_all P xs ys (All-tail P x (xs ++ ys) all))

among_contains : (P : Offer → Type 0) (sent offers : List Offer) (offer : Offer) → All P sent → AreAmong offers sent → Contains offers offer → P offer
among_contains P sent offers offer all among here = All-contains P offers offer (all_among P sent offers all among) here
  where
    all_among : (P : Offer → Type 0) (sent offers : List Offer) → All P sent → AreAmong offers sent → All P offers
    all_among P sent [] all among = All-nil P
    all_among P sent (x ∷ xs) all (here, others) = All-cons P x xs (All-contains P sent x all here) (all_among P sent xs all others)

-- the primary's entries begin with a front and what was sent behind it, each at the next position
pub begins_with_next : (primary : List Entry) (sent offers : List Offer) → All (Fits primary) sent → AreAmong offers sent → (front next : List Entry) (position : ℕ) → position ≡ length front + 1
    → AreAmong (offers_from position next) offers → BeginsWith primary front → BeginsWith primary (front ++ next)
begins_with_next primary sent offers all among front [] position place heard begins = subst (BeginsWith primary) (sym (append-nil front)) begins
begins_with_next primary sent offers all among front (entry ∷ next) position place (here, others) begins =
    let offer : Offer = record { position = position; entry = entry } in
    let fits : Fits primary offer = among_contains (Fits primary) sent offers offer all among here in
    let later : position + 1 ≡ length (front ++ entry ∷ []) + 1 = omega (arith, place, length-append front (entry ∷ [])) in
    subst (BeginsWith primary) (append_assoc front (entry ∷ []) next)
    (begins_with_next primary sent offers all among (front ++ entry ∷ []) next (position + 1) later others (front_and_next primary front offer begins fits place))

-- a history of a list has its roster
own_roster : (roster : Rows) (h : History) (entries : List Entry) → IsHistoryOf roster h entries → h.base.state.roster ≡ roster
own_roster roster h entries is = ap (λ (s : State). s.roster) is.state ∙ roster_on (empty_state roster) is.front

-- a file that stands for the changes of a history of a list, up to some or with more, stands for a list
pub stands_list : (roster : Rows) (file : List ℕ) (h : History) (entries others : List Entry) (is : IsHistoryOf roster h entries) → StandsFor file (record h { entries = others }) → StandsForList file (is.front ++ others)
stands_list roster file h entries others is stands = (
  record h { entries = others },
  stands,
  record { front = is.front; split = refl; place = is.place; state = is.state ∙ ap (λ (r : Rows). replayed_from (empty_state r) is.front) (sym (own_roster roster h entries is)) },
)

-- a file stands for lists of one length
one_length : (file : List ℕ) (a b : List Entry) → StandsForList file a → StandsForList file b → length a ≡ length b
one_length file a b first second =
    let same = one_place file first.0 second.0 first.1 second.1 in
    omega (arith, (folds_keep first.0.base.state.roster first.0 a first.2).1, (folds_keep second.0.base.state.roster second.0 b second.2).1, same.0, ap length same.1)

-- What an image stands for that a house left: a list with which the primary's begins, of at least so many.
pub record Left (primary : List Entry) (n : ℕ) (image : List ℕ) : Type 0 where
  pub entries : List Entry
  pub stands : StandsForList image entries
  pub front : BeginsWith primary entries
  pub long : n ≤ length entries

module _ (old new : HouseView) (said said' : List Sent) (heard heard' : List Offer) (f : Follows old new said said' heard heard') (roster : Rows) (w : World)
    (sound : IsSound w) (is : IsHistoryOf roster old.history w.standby) (among : AreAmong f.offers w.sent) where
  -- the list of the new house
  abbrev link : IsLinked roster old new (numbers_in f.sends) w
  link = f.linked roster w is among

  -- the primary's entries begin with it
  new_front : BeginsWith w.primary link.entries
  new_front = (stays_sound link.events w (moved w link.entries (numbers_in f.sends)) sound link.leads).front

  new_long : end_of new.history ≡ length link.entries
  new_long = (folds_keep roster new.history link.entries link.stands).1

  -- and with those that were kept behind it
  kept_front : BeginsWith w.primary (link.entries ++ new.kept)
  kept_front = begins_with_next w.primary w.sent f.offers sound.fits among link.entries new.kept (end_of new.history + 1) (omega (arith, new_long)) f.kept new_front

  -- a front of the new house's history
  left_front : (n : ℕ) (image : List ℕ) (front back : List Entry) → new.history.entries ≡ front ++ back → n ≤ new.history.base.position + length front
      → StandsFor image (record new.history { entries = front }) → Left w.primary n image
  left_front n image front back split long stands =
      let whole : link.entries ≡ (link.stands.front ++ front) ++ back =
      link.stands.split ∙ ap (λ es. link.stands.front ++ es) split ∙ sym (append_assoc link.stands.front front back) in
      record {
        entries = link.stands.front ++ front;
        stands = stands_list roster image new.history link.entries front link.stands stands;
        front = begins_on (link.stands.front ++ front) link.entries w.primary (back, whole) new_front;
        long = omega (arith, long, link.stands.place, length-append link.stands.front front);
      }

  -- what a house left that had this history, since it had it
  left_fits : (then : History) (more : List Entry) → new.history ≡ longer then more → (image : List ℕ)
      → StandsForFront (length then.entries) then new.history image ⊎ StandsForKept new.history new.kept image → Left w.primary (end_of then) image
  left_fits then more grows image (inl front) =
      let same : new.history.base ≡ then.base = ap (λ (h : History). h.base) grows in
      let place : new.history.base.position ≡ then.base.position = ap (λ (b : Start). b.position) same in
      ⊎_elim
      (λ (own : StandsFor image (record new.history { entries = front.front })). left_front (end_of then) image front.front front.back front.split (omega (arith, place, front.long)) own)
      (λ (was : (length front.front ≡ length then.entries) × StandsFor image then).
      left_front (end_of then) image then.entries more (ap (λ (h : History). h.entries) grows) (omega (arith, place))
      (subst (λ (b : Start). StandsFor image (record { base = b; entries = then.entries })) (sym same) was.1))
      front.stands
  left_fits then more grows image (inr kept) = by new.kept refl kept
    where
      by : (k : List Entry) → new.kept ≡ k → StandsForKept new.history k image → Left w.primary (end_of then) image
      by [] none never = absurd never
      by (entry ∷ others) some stands =
          let whole : link.entries ++ entry ∷ others ≡ link.stands.front ++ (new.history.entries ++ entry ∷ others) =
          ap (λ es. es ++ entry ∷ others) link.stands.split ∙ append_assoc link.stands.front new.history.entries (entry ∷ others) in
          record {
            entries = link.stands.front ++ (new.history.entries ++ entry ∷ others);
            stands = stands_list roster image new.history link.entries (new.history.entries ++ entry ∷ others) link.stands stands;
            front = subst (BeginsWith w.primary) whole (subst (λ (es : List Entry). BeginsWith w.primary (link.entries ++ es)) some kept_front);
            long = omega (arith, ap length (sym whole), length-append link.entries (entry ∷ others), new_long, ap end_of grows, length-append then.entries more);
          }

  at_most_line : (sent : Sent) (entries : List Entry) → (sent.line ≡ Hello) ⊎ (sent.line ≡ Next (end_of sent.house.history)) ⊎ (sent.line ≡ Bye)
      → end_of sent.house.history ≤ length entries → AreAtMost (length entries) (number_in sent.line)
  at_most_line sent entries (inl is) le = subst (λ line. AreAtMost (length entries) (number_in line)) (sym is) (All-nil (λ n. n ≤ length entries))
  at_most_line sent entries (inr (inl is)) le = subst (λ line. AreAtMost (length entries) (number_in line)) (sym is) (All-cons (λ n. n ≤ length entries) _ [] le (All-nil (λ n. n ≤ length entries)))
  at_most_line sent entries (inr (inr is)) le = subst (λ line. AreAtMost (length entries) (number_in line)) (sym is) (All-nil (λ n. n ≤ length entries))

  holds_said : (sent : Sent) → IsSaidBefore new sent → (now : disks.History) → new.disk ≡ Some now → (image : List ℕ) → left_since now (moment_of sent.house.disk) image
      → (entries : List Entry) × StandsForList image entries × BeginsWith w.primary entries × AreAtMost (length entries) (number_in sent.line)
  holds_said sent said_so now there image left =
      let on = subst (λ o. AreOnDisk (moment_of sent.house.disk) (length sent.house.history.entries) sent.house.history o (bytes_of new) new.history new.kept) there said_so.since in
      let got = left_fits sent.house.history said_so.more said_so.grows image (on.each image left) in
      (got.entries, got.stands, got.front, at_most_line sent got.entries said_so.line got.long)

  pub holds : (sent : Sent) → Contains f.sends sent → (now : disks.History) → new.disk ≡ Some now → (image : List ℕ) → left_since now (moment_of sent.house.disk) image
      → (entries : List Entry) × StandsForList image entries × BeginsWith w.primary entries × AreAtMost (length entries) (number_in sent.line)
  holds sent here now there image left = holds_said sent (All-contains (IsSaidBefore new) f.sends sent f.before here) now there image left

  -- the numbers of lines that were said are at most what an image stands for that was left since then
  numbers_held : (now : disks.History) → new.disk ≡ Some now → (image : List ℕ) (entries : List Entry) → StandsForList image entries
      → (first others : List Sent) → All (IsSaidBefore new) first → All (λ sent. left_since now (moment_of sent.house.disk) image) first → AreAtMost (length entries) (numbers_in first)
  numbers_held now there image entries stands [] others before left = All-nil (λ n. n ≤ length entries)
  numbers_held now there image entries stands (sent ∷ first) others before left =
      let got = holds_said sent (All-head (IsSaidBefore new) sent first before) now there image (All-head (λ (s : Sent). left_since now (moment_of s.house.disk) image) sent first left) in
      let same : length got.0 ≡ length entries = one_length image got.0 entries got.1 stands in
      let here : AreAtMost (length entries) (number_in sent.line) = subst (λ (n : ℕ). AreAtMost n (number_in sent.line)) same got.3 in
      All-append (λ n. n ≤ length entries) (number_in sent.line) (numbers_in first) here
      (numbers_held now there image entries stands first others (All-tail (IsSaidBefore new) sent first before) (All-tail (λ (s : Sent). left_since now (moment_of s.house.disk) image) sent first left))

  pub sound_again : Keeps old → old.kept ≡ [] → (first others : List Sent) → f.sends ≡ first ++ others → (now : disks.History) → new.disk ≡ Some now
      → (image : List ℕ) → left_since now (moment_of old.disk) image → All (λ sent. left_since now (moment_of sent.house.disk) image) first
      → (entries : List Entry) × StandsForList image entries × IsSound (moved w entries (numbers_in first))
  sound_again keeps none first others split now there image left_old left =
      let held : HeldSince old new = f.held old (omega arith) (held_now old keeps none) in
      let on = subst (λ o. AreOnDisk (moment_of old.disk) (length old.history.entries) old.history o (bytes_of new) new.history new.kept) there held in
      let got = left_fits old.history f.taken f.grows image (on.each image left_old) in
      let before : All (IsSaidBefore new) first = front_of_all (IsSaidBefore new) first others (subst (All (IsSaidBefore new)) split f.before) in
      let was : end_of old.history ≡ length w.standby = (folds_keep roster old.history w.standby is).1 in (
        got.entries,
        got.stands,
        record {
          fits = sound.fits;
          front = got.front;
          asked = All-append (λ n. n ≤ length got.entries) w.asked (numbers_in first)
              (All-weaker (λ n. n ≤ length w.standby) (λ n. n ≤ length got.entries) (λ n (h : n ≤ length w.standby). omega (arith, h, was, got.long)) w.asked sound.asked)
              (numbers_held now there image got.entries got.stands first others before left);
        },
      )
