-- Runs of events, put together, and the events of a standby that asks and takes.
use Rattle.std.proofs.Common.{◌≡◌, ℕ, ◌+◌, ◌<◌, ◌==◌, Bool, true, false, List, [], ◌∷◌, ◌++◌, length, refl, sym, ap, ◌∙◌, subst, arith, append_assoc, length-append, cond}
use Rattle.std.proofs.lemmas.List.{append-nil}
use Rattle.std.proofs.lemmas.Bool.Decides.{nat_tests}
use Rattle.std.specs.List.{Contains}
use Rattle.command_types.specs.declared.ask.Entry.{Entry}
use Rattle.command_types.specs.History.{History, end_of, longer}
use Rattle.command_types.specs.Roster.{Rows}
use Rattle.standby.specs.Lists.{IsHistoryOf}
use Rattle.standby.specs.Link.{Offer, World, Event, with_offer, Lead, AreAmong, moved}
use Rattle.standby.specs.Link.Event.{Asks, AsksAgain, Arrives}

pub lead_on : (first others : List Event) (a b c : World) → Lead first a b → Lead others b c → Lead (first ++ others) a c
lead_on [] others a b c is lead = subst (λ w. Lead others w c) is lead
lead_on (event ∷ events) others a b c (mid, here, more) lead = (mid, here, lead_on events others mid b c more lead)

pub among_left : (xs ys sent : List Offer) → AreAmong (xs ++ ys) sent → AreAmong xs sent
among_left [] ys sent all = tt
among_left (x ∷ xs) ys sent (here, others) = (here, among_left xs ys sent others)

pub among_right : (xs ys sent : List Offer) → AreAmong (xs ++ ys) sent → AreAmong ys sent
among_right [] ys sent all = all
among_right (x ∷ xs) ys sent (here, others) = among_right xs ys sent others

pub moved_twice : (w : World) (first second : List Entry) (m n : List ℕ) → moved (moved w first m) second n ≡ moved w second (m ++ n)
moved_twice w first second m n = ap (λ (ns : List ℕ). record w { standby = second; asked = ns }) (append_assoc w.asked m n)

pub moved_not : (w : World) → moved w w.standby [] ≡ w
moved_not w = ap (λ (ns : List ℕ). record w { asked = ns }) (append-nil w.asked)

-- the list has as many entries as the history
pub list_length : (roster : Rows) (h : History) (entries : List Entry) → IsHistoryOf roster h entries → length entries ≡ end_of h
list_length roster h entries is = ap length is.split ∙ length-append is.front h.entries ∙ ap (λ n. n + length h.entries) (sym is.place)

-- a history with more entries stands for the list with these
pub list_longer : (roster : Rows) (h : History) (more entries : List Entry) → IsHistoryOf roster h entries → IsHistoryOf roster (longer h more) (entries ++ more)
list_longer roster h more entries is = record {
  front = is.front;
  split = ap (λ es. es ++ more) is.split ∙ append_assoc is.front h.entries more;
  place = is.place;
  state = is.state;
}

-- a standby asks
pub one_asks : (roster : Rows) (h : History) (w : World) → IsHistoryOf roster h w.standby → Lead (Asks ∷ []) w (moved w w.standby (end_of h ∷ []))
one_asks roster h w is =
    let n : length w.standby ≡ end_of h = list_length roster h w.standby is in
    (moved w w.standby (length w.standby ∷ []), refl, ap (λ k. moved w w.standby (k ∷ [])) (sym n))

-- it asks for an entry again
pub one_asks_again : (roster : Rows) (h : History) (w : World) (number : ℕ) → number < end_of h → IsHistoryOf roster h w.standby → Lead (AsksAgain number ∷ []) w (moved w w.standby (number ∷ []))
one_asks_again roster h w number fewer is =
    let n : length w.standby ≡ end_of h = list_length roster h w.standby is in
    (moved w w.standby (number ∷ []), (omega (arith, fewer, n), refl), refl)

with_next : (entries : List Entry) (offer : Offer) (t : Bool) → (offer.position == length entries + 1) ≡ t → offer.position ≡ length entries + 1
    → cond {A = List Entry} t (entries ++ offer.entry ∷ []) entries ≡ entries ++ offer.entry ∷ []
with_next entries offer true is place = refl
with_next entries offer false is place = absurd (grind (arith, nat_tests))

-- it asks, and takes the next entry
pub asks_and_takes : (roster : Rows) (h : History) (w : World) (offer : Offer) → IsHistoryOf roster h w.standby → offer.position ≡ end_of h + 1 → Contains w.sent offer
    → Lead (Asks ∷ Arrives offer ∷ []) w (moved w (w.standby ++ offer.entry ∷ []) (end_of h ∷ []))
asks_and_takes roster h w offer is place among =
    let n : length w.standby ≡ end_of h = list_length roster h w.standby is in
    let next : with_offer w.standby offer ≡ w.standby ++ offer.entry ∷ [] = with_next w.standby offer (offer.position == length w.standby + 1) refl (omega arith) in (
      moved w w.standby (length w.standby ∷ []),
      refl,
      (
        moved w (with_offer w.standby offer) (length w.standby ∷ []),
        (among, refl),
        ap (λ es. moved w es (end_of h ∷ [])) (sym next) ∙ ap (λ k. moved w (with_offer w.standby offer) (k ∷ [])) (sym n),
      ),
    )
