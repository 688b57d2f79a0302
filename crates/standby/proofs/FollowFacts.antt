-- How following goes on, from what is said to what is taken.
use Rattle.std.proofs.Common.{◌≡◌, ◌⊎◌, ℕ, ◌+◌, ◌≤◌, Bool, true, false, not, List, [], ◌∷◌, ◌++◌, length, IsTrue, refl, sym, ap, ◌∙◌, subst, inl, inr, arith, append_assoc, length-append}
use Rattle.std.specs.Prelude.{◌||◌}
use Rattle.std.proofs.lemmas.List.{append-nil}
use Rattle.std.proofs.lemmas.List.Elements.{All-nil, All-cons, All-append, All-weaker, Contains-append_right}
use Rattle.command_types.specs.declared.ask.Ask.{Ask}
use Rattle.command_types.specs.declared.ask.Entry.{Entry}
use Rattle.command_types.specs.declared.answer.Reply.{Reply}
use Rattle.command_types.specs.History.{History, end_of, longer, is_recorded}
use Rattle.house.specs.House.{HouseView, Keeps}
use Rattle.house.specs.Calling.{is_disk_fault, Calls}
use Rattle.standby.specs.Lists.{IsHistoryOf}
use Rattle.standby.specs.Link.{Offer, World, Lead, AreAmong, moved}
use Rattle.standby.specs.Link.Event.{Asks, Arrives}
use Rattle.standby.specs.Sent.{Sent, number_in, numbers_in}
use Rattle.standby.specs.Following.{HeldSince, IsSaidBefore, Follows, offers_from}
use Rattle.standby.specs.declared.peer.Said.{Said}
use Rattle.standby.specs.declared.peer.Said.TheVariants.{Hello, Next, Bye}
use Rattle.standby.proofs.RunFacts.{lead_on, among_left, among_right, moved_twice, moved_not, list_longer, one_asks, asks_and_takes}
use Rattle.standby.proofs.HeldFacts.{held_now, grows_by_one, grows_not, runs_on, held_on, longer_nil}

-- ---- what is said

numbers_append : (xs ys : List Sent) → numbers_in (xs ++ ys) ≡ numbers_in xs ++ numbers_in ys
numbers_append [] ys = refl
numbers_append (x ∷ xs) ys = ap (λ ns. number_in x.line ++ ns) (numbers_append xs ys) ∙ sym (append_assoc (number_in x.line) (numbers_in xs) (numbers_in ys))

longer_twice : (h : History) (xs ys : List Entry) → longer (longer h xs) ys ≡ longer h (xs ++ ys)
longer_twice h xs ys = ap (λ (es : List Entry). record h { entries = es }) (append_assoc h.entries xs ys)

pub within_longer : (a b : HouseView) (more : List Entry) → b.history ≡ longer a.history more → length a.history.entries ≤ length b.history.entries
within_longer a b more grows =
    let es : length b.history.entries ≡ length a.history.entries + length more = ap (λ (h : History). length h.entries) grows ∙ length-append a.history.entries more in omega arith

-- what is among some replies is among these and more
among_longer : (xs first others : List Offer) → AreAmong xs others → AreAmong xs (first ++ others)
among_longer [] first others all = tt
among_longer (x ∷ xs) first others (here, there) = (Contains-append_right first others x here, among_longer xs first others there)

-- a house that runs kept nothing
none_among : (v : HouseView) (offers : List Offer) → v.kept ≡ [] → AreAmong (offers_from (end_of v.history + 1) v.kept) offers
none_among v offers none = subst (λ (es : List Entry). AreAmong (offers_from (end_of v.history + 1) es) offers) (sym none) tt

-- nothing was said or done
pub follows_start : (v : HouseView) (said : List Sent) (heard : List Offer) → Keeps v → v.kept ≡ [] → (f : Follows v v said said heard heard) × (f.rest ≡ [])
follows_start v said heard keeps none = (
  record {
    kept = none_among v [] none;
    counted = omega arith;
    figures = refl;
    sends = [];
    says = sym (append-nil said);
    before = All-nil (IsSaidBefore v);
    offers = [];
    hears = sym (append-nil heard);
    taken = [];
    rest = [];
    order = refl;
    few = omega arith;
    grows = sym (longer_nil v.history);
    held = λ start within held. held;
    keeps = keeps;
    linked = λ roster w is among. record { events = []; entries = w.standby; leads = moved_not w; stands = is };
  },
  refl,
)

-- what was said before one time was said before a later one
said_before : (a b c : HouseView) (s0 s1 : List Sent) (h0 h1 : List Offer) → Follows b c s0 s1 h0 h1 → (sent : Sent) → IsSaidBefore b sent → IsSaidBefore c sent
said_before a b c s0 s1 h0 h1 f sent is = record {
  line = is.line;
  running = is.running;
  has = is.has;
  since = f.held sent.house (within_longer sent.house b is.more is.grows) is.since;
  more = is.more ++ f.taken;
  grows = f.grows ∙ ap (λ h. longer h f.taken) is.grows ∙ longer_twice sent.house.history is.more f.taken;
}

offers_append : (n : ℕ) (xs ys : List Entry) → offers_from n (xs ++ ys) ≡ offers_from n xs ++ offers_from (n + length xs) ys
offers_append n [] ys = ap (λ k. offers_from k ys) (let e : n ≡ n + 0 = omega arith in e)
offers_append n (x ∷ xs) ys =
    let e : n + 1 + length xs ≡ n + length (x ∷ xs) = omega arith in
    ap (λ os. record { position = n; entry = x } ∷ os) (offers_append (n + 1) xs ys ∙ ap (λ k. offers_from (n + 1) xs ++ offers_from k ys) e)

later_end : (a b : HouseView) (taken : List Entry) → b.history ≡ longer a.history taken → end_of b.history ≡ end_of a.history + length taken
later_end a b taken grows = ap end_of grows ∙ (let l = length-append a.history.entries taken in omega arith)

order_on : (m n : ℕ) (xs ys : List Entry) (os ps rs ss : List Offer) → n ≡ m + length xs → rs ≡ [] → os ≡ offers_from (m + 1) xs ++ rs → ps ≡ offers_from (n + 1) ys ++ ss
    → os ++ ps ≡ offers_from (m + 1) (xs ++ ys) ++ ss
order_on m n xs ys os ps rs ss is none p q =
    let first : os ≡ offers_from (m + 1) xs = p ∙ ap (λ r. offers_from (m + 1) xs ++ r) none ∙ append-nil (offers_from (m + 1) xs) in
    let place : n + 1 ≡ m + 1 + length xs = omega arith in
    ap (λ o. o ++ ps) first ∙ ap (λ o. offers_from (m + 1) xs ++ o) (q ∙ ap (λ k. offers_from k ys ++ ss) place)
    ∙ sym (append_assoc (offers_from (m + 1) xs) (offers_from (m + 1 + length xs) ys) ss) ∙ ap (λ o. o ++ ss) (sym (offers_append (m + 1) xs ys))

-- following goes on
pub follows_on : (a b c : HouseView) (s0 s1 s2 : List Sent) (h0 h1 h2 : List Offer) → (f : Follows a b s0 s1 h0 h1) → f.rest ≡ [] → (g : Follows b c s1 s2 h1 h2) → (k : Follows a c s0 s2 h0 h2) × (k.rest ≡ g.rest)
follows_on a b c s0 s1 s2 h0 h1 h2 f whole g = (
  record {
    sends = f.sends ++ g.sends;
    says = g.says ∙ ap (λ ss. ss ++ g.sends) f.says ∙ append_assoc s0 f.sends g.sends;
    before = All-append (IsSaidBefore c) f.sends g.sends (All-weaker (IsSaidBefore b) (IsSaidBefore c) (said_before a b c s1 s2 h1 h2 g) f.sends f.before) g.before;
    offers = f.offers ++ g.offers;
    hears = g.hears ∙ ap (λ os. os ++ g.offers) f.hears ∙ append_assoc h0 f.offers g.offers;
    taken = f.taken ++ g.taken;
    rest = g.rest;
    order = order_on (end_of a.history) (end_of b.history) f.taken g.taken f.offers g.offers f.rest g.rest (later_end a b f.taken f.grows) whole f.order g.order;
    few = g.few;
    grows = g.grows ∙ ap (λ h. longer h g.taken) f.grows ∙ longer_twice a.history f.taken g.taken;
    held = λ start within held. g.held start (let le = within_longer a b f.taken f.grows in omega arith) (f.held start within held);
    keeps = g.keeps;
    counted = let p = f.counted in let q = g.counted in omega arith;
    figures = g.figures ∙ f.figures;
    kept = among_longer (offers_from (end_of c.history + 1) c.kept) f.offers g.offers g.kept;
    linked = λ roster w is among.
        let first = f.linked roster w is (among_left f.offers g.offers w.sent among) in
        let w1 : World = moved w first.entries (numbers_in f.sends) in
        let later = g.linked roster w1 first.stands (among_right f.offers g.offers w.sent among) in
        record {
          events = first.events ++ later.events;
          entries = later.entries;
          leads = lead_on first.events later.events w w1 (moved w later.entries (numbers_in (f.sends ++ g.sends))) first.leads
              (subst (λ (x : World). Lead later.events w1 x)
              (moved_twice w first.entries later.entries (numbers_in f.sends) (numbers_in g.sends) ∙ ap (moved w later.entries) (sym (numbers_append f.sends g.sends)))
              later.leads);
          stands = later.stands;
        };
  },
  refl,
)

-- ---- one turn

module _ (v : HouseView) (keeps : Keeps v) (none : v.kept ≡ []) where
  -- a line that is said now
  said_now : (line : Said) → (line ≡ Hello) ⊎ (line ≡ Next (end_of v.history)) ⊎ (line ≡ Bye) → IsSaidBefore v (record { house = v; line = line })
  said_now line is = record { line = is; running = none; has = keeps.leaves none; since = held_now v keeps none; more = []; grows = sym (longer_nil v.history) }

  -- it asks, and takes nothing
  pub asks_only : (said : List Sent) (heard offers : List Offer) → length offers ≤ 1 → (f : Follows v v said (said ++ record { house = v; line = Next (end_of v.history) } ∷ []) heard (heard ++ offers)) × (f.rest ≡ offers)
  asks_only said heard offers few = (
    record {
      sends = record { house = v; line = Next (end_of v.history) } ∷ [];
      says = refl;
      before = All-cons (IsSaidBefore v) _ [] (said_now (Next (end_of v.history)) (inr (inl refl))) (All-nil (IsSaidBefore v));
      offers = offers;
      hears = refl;
      taken = [];
      rest = offers;
      order = refl;
      few = few;
      grows = sym (longer_nil v.history);
      held = λ start within held. held;
      keeps = keeps;
      counted = omega arith;
      figures = refl;
      kept = none_among v offers none;
      linked = λ roster w is among. record { events = Asks ∷ []; entries = w.standby; leads = one_asks roster v.history w is; stands = is };
    },
    refl,
  )

  -- it says goodbye
  pub says_bye : (said : List Sent) (heard : List Offer) → (f : Follows v v said (said ++ record { house = v; line = Bye } ∷ []) heard heard) × (f.rest ≡ [])
  says_bye said heard = (
    record {
      sends = record { house = v; line = Bye } ∷ [];
      says = refl;
      before = All-cons (IsSaidBefore v) _ [] (said_now Bye (inr (inr refl))) (All-nil (IsSaidBefore v));
      offers = [];
      hears = sym (append-nil heard);
      taken = [];
      rest = [];
      order = refl;
      few = omega arith;
      grows = sym (longer_nil v.history);
      held = λ start within held. held;
      keeps = keeps;
      counted = omega arith;
      figures = refl;
      kept = none_among v [] none;
      linked = λ roster w is among. record { events = []; entries = w.standby; leads = moved_not w; stands = is };
    },
    refl,
  )

  module _ (b : HouseView) (seat : ℕ) (ask : Ask) (reply : Reply) (calls : Calls v b seat ask reply) where
    kept_here : (position : ℕ) → position ≡ end_of v.history + 1 → is_recorded ask.what reply.answer ≡ false → (f : Bool) → is_disk_fault reply.answer ≡ f
        → AreAmong (offers_from (end_of b.history + 1) b.kept) (record { position = position; entry = record { seat = seat; ask = ask } } ∷ [])
    kept_here position place made true fault =
        let same : b.history ≡ v.history = grows_not v b seat ask reply keeps none calls made in
        let there : position ≡ end_of b.history + 1 = place ∙ ap (λ h. end_of h + 1) (sym same) in
        let entry : Entry = record { seat = seat; ask = ask } in
        let offer : Offer = record { position = position; entry = entry } in
        let is : offer ≡ record { position = end_of b.history + 1; entry = entry } = ap (λ n. record { position = n; entry = entry }) there in
        subst (λ (es : List Entry). AreAmong (offers_from (end_of b.history + 1) es) (offer ∷ [])) (sym (calls.failed fault).1) ((0, omega arith, is), tt)
    kept_here position place made false fault =
        let plain : IsTrue (not (is_recorded ask.what reply.answer || is_disk_fault reply.answer)) = ap not (ap (λ t. t || is_disk_fault reply.answer) made ∙ fault) in
        none_among b _ (ap (λ (x : HouseView). x.kept) (calls.same plain) ∙ none)

    -- it asks, and the change of the next entry is not made
    pub not_taken : (said : List Sent) (heard : List Offer) (position : ℕ) → position ≡ end_of v.history + 1 → is_recorded ask.what reply.answer ≡ false
        → Follows v b said (said ++ record { house = v; line = Next (end_of v.history) } ∷ []) heard (heard ++ record { position = position; entry = record { seat = seat; ask = ask } } ∷ [])
    not_taken said heard position place made =
        let same : b.history ≡ v.history = grows_not v b seat ask reply keeps none calls made in
        let held : (start : HouseView) → length start.history.entries ≤ length v.history.entries → HeldSince start v → HeldSince start b = (λ start within held. held_on v b seat ask reply keeps none calls start within held) in
        let first : IsSaidBefore v (record { house = v; line = Next (end_of v.history) }) = said_now (Next (end_of v.history)) (inr (inl refl)) in record {
          sends = record { house = v; line = Next (end_of v.history) } ∷ [];
          says = refl;
          before = All-cons (IsSaidBefore b) _ [] (record {
            line = first.line;
            running = first.running;
            has = first.has;
            since = held v (omega arith) first.since;
            more = [];
            grows = same ∙ sym (longer_nil v.history);
          }) (All-nil (IsSaidBefore b));
          offers = record { position = position; entry = record { seat = seat; ask = ask } } ∷ [];
          hears = refl;
          taken = [];
          rest = record { position = position; entry = record { seat = seat; ask = ask } } ∷ [];
          order = refl;
          few = omega arith;
          grows = same ∙ sym (longer_nil v.history);
          held = held;
          keeps = calls.keeps;
          counted = calls.counted;
          figures = calls.figures;
          kept = kept_here position place made (is_disk_fault reply.answer) refl;
          linked = λ roster w is among. record {
            events = Asks ∷ [];
            entries = w.standby;
            leads = one_asks roster v.history w is;
            stands = subst (λ h. IsHistoryOf roster h w.standby) (sym same) is;
          };
        }

    -- it asks, and takes the next entry
    pub takes : (said : List Sent) (heard : List Offer) (position : ℕ) → position ≡ end_of v.history + 1 → is_recorded ask.what reply.answer ≡ true
        → (f : Follows v b said (said ++ record { house = v; line = Next (end_of v.history) } ∷ []) heard (heard ++ record { position = position; entry = record { seat = seat; ask = ask } } ∷ [])) × (f.rest ≡ [])
    takes said heard position place made =
        let entry : Entry = record { seat = seat; ask = ask } in
        let offer : Offer = record { position = position; entry = entry } in
        let more : b.history ≡ longer v.history (entry ∷ []) = grows_by_one v b seat ask reply keeps none calls made in
        let held : (start : HouseView) → length start.history.entries ≤ length v.history.entries → HeldSince start v → HeldSince start b = (λ start within held. held_on v b seat ask reply keeps none calls start within held) in
        let first : IsSaidBefore v (record { house = v; line = Next (end_of v.history) }) = said_now (Next (end_of v.history)) (inr (inl refl)) in (
          record {
            sends = record { house = v; line = Next (end_of v.history) } ∷ [];
            says = refl;
            before = All-cons (IsSaidBefore b) _ [] (record {
              line = first.line;
              running = first.running;
              has = first.has;
              since = held v (omega arith) first.since;
              more = entry ∷ [];
              grows = more;
            }) (All-nil (IsSaidBefore b));
            offers = offer ∷ [];
            hears = refl;
            taken = entry ∷ [];
            rest = [];
            order = ap (λ n. record { position = n; entry = entry } ∷ []) place;
            few = omega arith;
            grows = more;
            held = held;
            keeps = calls.keeps;
            counted = calls.counted;
            figures = calls.figures;
            kept = none_among b (offer ∷ []) (runs_on v b seat ask reply keeps none calls made);
            linked = λ roster w is among. record {
              events = Asks ∷ Arrives offer ∷ [];
              entries = w.standby ++ entry ∷ [];
              leads = asks_and_takes roster v.history w offer is place among.0;
              stands = subst (λ h. IsHistoryOf roster h (w.standby ++ entry ∷ [])) (sym more) (list_longer roster v.history (entry ∷ []) w.standby is);
            };
          },
          refl,
        )
