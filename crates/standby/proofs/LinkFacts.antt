-- What holds after every list of events.
use Rattle.std.proofs.Common.{◌≡◌, ℕ, ◌+◌, ◌==◌, ◌≤◌, Bool, true, false, List, [], ◌∷◌, ◌++◌, length, take, refl, sym, ap, ◌∙◌, subst, arith, append_assoc, length-append, cond, ⊎_elim}
use Rattle.std.proofs.lemmas.List.{append-nil}
use Rattle.std.proofs.lemmas.List.Elements.{All-nil, All-cons, All-push, All-weaker, All-contains}
use Rattle.std.specs.Prelude.{All}
use Rattle.std.proofs.Math.Seq.{take-append_seam}
use Rattle.std.proofs.lemmas.List.Sums.{fold-append}
use Rattle.std.proofs.lemmas.Bool.Decides.{nat_tests}
use Rattle.command_types.specs.declared.ask.Entry.{Entry}
use Rattle.command_types.specs.Machine.{empty_state, state_after}
use Rattle.command_types.specs.Folds.{folded}
use Rattle.command_types.specs.History.{History, end_of, replayed_from}
use Rattle.command_types.specs.Roster.{Rows}
use Rattle.standby.specs.Lists.{IsHistoryOf, BeginsWith}
use Rattle.standby.specs.Link.{Offer, Fits, World, Event, Leads, Lead, opening, AreAtMost, IsSound}
use Rattle.standby.specs.Link.Event.{Grows, Replies, Asks, AsksAgain, Arrives, Stops, StopsIn}

fits_longer : (entries : List Entry) (entry : Entry) (offer : Offer) → Fits entries offer → Fits (entries ++ entry ∷ []) offer
fits_longer entries entry offer f = record {
  before = f.before;
  behind = f.behind ++ entry ∷ [];
  split = ap (λ es. es ++ entry ∷ []) f.split ∙ append_assoc f.before (offer.entry ∷ f.behind) (entry ∷ []);
  place = f.place;
}

all_fit_longer : (entries : List Entry) (entry : Entry) (offers : List Offer) → All (Fits entries) offers → All (Fits (entries ++ entry ∷ [])) offers
all_fit_longer entries entry offers fits = All-weaker (Fits entries) (Fits (entries ++ entry ∷ [])) (fits_longer entries entry) offers fits

at_most_more : (n : ℕ) (most : ℕ) (numbers : List ℕ) → n ≤ most → AreAtMost n numbers → AreAtMost most numbers
at_most_more n most numbers le few = All-weaker (λ x. x ≤ n) (λ x. x ≤ most) (λ x (h : x ≤ n). omega arith) numbers few

front_longer : (entries : List Entry) (entry : Entry) (front : List Entry) → BeginsWith entries front → BeginsWith (entries ++ entry ∷ []) front
front_longer entries entry front (more, split) = (more ++ entry ∷ [], ap (λ es. es ++ entry ∷ []) split ∙ append_assoc front more (entry ∷ []))

-- the next entry of a list that begins with a front is the one that fits behind it
pub front_and_next : (entries front : List Entry) (offer : Offer) → BeginsWith entries front → Fits entries offer → offer.position ≡ length front + 1 → BeginsWith entries (front ++ offer.entry ∷ [])
front_and_next entries front offer (more, split) f place =
    let long : length f.before ≡ length front = (let p = f.place in omega arith) in
    let both : front ++ more ≡ f.before ++ offer.entry ∷ f.behind = sym split ∙ f.split in
    let same : front ≡ f.before = sym (take-append_seam front more) ∙ ap (take (length front)) both ∙ ap (λ n. take n (f.before ++ offer.entry ∷ f.behind)) (sym long) ∙ take-append_seam f.before (offer.entry ∷ f.behind) in
    (f.behind, f.split ∙ ap (λ es. es ++ offer.entry ∷ f.behind) (sym same) ∙ sym (append_assoc front (offer.entry ∷ []) f.behind))

longer_by_one : (front : List Entry) (entry : Entry) → length front ≤ length (front ++ entry ∷ [])
longer_by_one front entry = simp (length-append {A = Entry}) (omega arith)

-- an entry is taken where it is the next
taken : (w : World) (offer : Offer) → IsSound w → Fits w.primary offer → offer.position ≡ length w.standby + 1 → IsSound (record w { standby = w.standby ++ offer.entry ∷ [] })
taken w offer k f place = record {
  fits = k.fits;
  front = front_and_next w.primary w.standby offer k.front f place;
  asked = at_most_more (length w.standby) (length (w.standby ++ offer.entry ∷ [])) w.asked (longer_by_one w.standby offer.entry) k.asked;
}

arrived : (w : World) (offer : Offer) (t : Bool) → (offer.position == length w.standby + 1) ≡ t → IsSound w → Fits w.primary offer
    → IsSound (record w { standby = cond {A = List Entry} t (w.standby ++ offer.entry ∷ []) w.standby })
arrived w offer true is k f = let place : offer.position ≡ length w.standby + 1 = grind (arith, nat_tests) in taken w offer k f place
arrived w offer false is k f = k

keeps_on : (event : Event) (old new : World) → IsSound old → Leads event old new → IsSound new
keeps_on (Grows entry) old new k is = subst IsSound (sym is) (record {
  fits = all_fit_longer old.primary entry old.sent k.fits;
  front = front_longer old.primary entry old.standby k.front;
  asked = k.asked;
})
keeps_on (Replies offer) old new k (fits, is) = subst IsSound (sym is) (record { fits = All-cons (Fits old.primary) offer old.sent fits k.fits; front = k.front; asked = k.asked })
keeps_on Asks old new k is = subst IsSound (sym is) (record { fits = k.fits; front = k.front; asked = All-push (λ n. n ≤ length old.standby) old.asked (length old.standby) k.asked (omega arith) })
keeps_on (AsksAgain number) old new k (fewer, is) =
    subst IsSound (sym is) (record { fits = k.fits; front = k.front; asked = All-push (λ n. n ≤ length old.standby) old.asked number k.asked (omega (arith, fewer)) })
keeps_on (Arrives offer) old new k (among, is) =
    subst IsSound (sym is) (arrived old offer (offer.position == length old.standby + 1) refl k (All-contains (Fits old.primary) old.sent offer k.fits among))
keeps_on (Stops image) old new k (stands, is) = subst IsSound (sym is) k
keeps_on (StopsIn offer image) old new k (among, place, (left, rest, is)) = subst IsSound (sym is) (
    ⊎_elim (λ (e : left ≡ old.standby). subst (λ es. IsSound (record old { standby = es })) (sym e) k)
    (λ (e : left ≡ old.standby ++ offer.entry ∷ []). subst (λ es. IsSound (record old { standby = es })) (sym e) (taken old offer k (All-contains (Fits old.primary) old.sent offer k.fits among) place))
    rest.either)

pub stays_sound : (events : List Event) (old new : World) → IsSound old → Lead events old new → IsSound new
stays_sound [] old new k is = subst IsSound (sym is) k
stays_sound (event ∷ events) old new k (mid, first, others) = stays_sound events mid new (keeps_on event old mid k first) others

opens : (entries : List Entry) → IsSound (opening entries)
opens entries = record { fits = All-nil (Fits entries); front = (entries, refl); asked = All-nil (λ n. n ≤ 0) }

pub holds_a_prefix : (events : List Event) (entries : List Entry) (w : World) → Lead events (opening entries) w → BeginsWith w.primary w.standby × AreAtMost (length w.standby) w.asked
holds_a_prefix events entries w lead = let k = stays_sound events (opening entries) w (opens entries) lead in (k.front, k.asked)

begins_itself : (entries : List Entry) → BeginsWith entries entries
begins_itself entries = ([], sym (append-nil entries))

pub begins_on : (a b c : List Entry) → BeginsWith b a → BeginsWith c b → BeginsWith c a
begins_on a b c (m, p) (n, q) = (m ++ n, q ∙ ap (λ es. es ++ n) p ∙ append_assoc a m n)

one_grows : (event : Event) (old new : World) → Leads event old new → BeginsWith new.primary old.primary
one_grows (Grows entry) old new is = (entry ∷ [], ap (λ (w : World). w.primary) is)
one_grows (Replies offer) old new (fits, is) = ([], ap (λ (w : World). w.primary) is ∙ sym (append-nil old.primary))
one_grows Asks old new is = ([], ap (λ (w : World). w.primary) is ∙ sym (append-nil old.primary))
one_grows (AsksAgain number) old new (fewer, is) = ([], ap (λ (w : World). w.primary) is ∙ sym (append-nil old.primary))
one_grows (Arrives offer) old new (among, is) = ([], ap (λ (w : World). w.primary) is ∙ sym (append-nil old.primary))
one_grows (Stops image) old new (stands, is) = ([], ap (λ (w : World). w.primary) is ∙ sym (append-nil old.primary))
one_grows (StopsIn offer image) old new (among, place, (left, rest, is)) = ([], ap (λ (w : World). w.primary) is ∙ sym (append-nil old.primary))

pub grows : (events : List Event) (old new : World) → Lead events old new → BeginsWith new.primary old.primary
grows [] old new is = ([], ap (λ (w : World). w.primary) is ∙ sym (append-nil old.primary))
grows (event ∷ events) old new (mid, first, others) = begins_on old.primary mid.primary new.primary (one_grows event old mid first) (grows events mid new others)

pub folds_keep : (roster : Rows) (h : History) (entries : List Entry) → IsHistoryOf roster h entries → IsHistoryOf roster (folded h) entries × (end_of h ≡ length entries)
folds_keep roster h entries is =
    let long : end_of h ≡ length entries = ap (λ n. n + length h.entries) is.place ∙ sym (length-append is.front h.entries) ∙ ap length (sym is.split) in (
      record {
        front = entries;
        split = sym (append-nil entries);
        place = long;
        state = ap (λ s. replayed_from s h.entries) is.state ∙ sym (fold-append (λ state e. state_after state e.ask) (empty_state roster) is.front h.entries) ∙ ap (replayed_from (empty_state roster)) (sym is.split);
      },
      long,
    )
