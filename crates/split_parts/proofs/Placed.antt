-- The places of members in parts.
use Rattle.std.proofs.Common.{◌≡◌, ◌≢◌, ℕ, ◌<◌, ◌≤◌, ◌+◌, List, [], length, get_or, set, replicate, Some, None, ◌⊎◌, inl, inr, refl, sym, ap, ◌∙◌, subst, arith, ⊎_elim}
use Rattle.std.specs.Prelude.{AllPairs}
use Rattle.std.proofs.lemmas.Bool.{cases_eq, eq-eqb, ne_eqb}
use Rattle.std.proofs.lemmas.List.{get_or-set_other, get_or-replicate, length-replicate}
use Rattle.std.proofs.lemmas.Grind.{get_or-set_at}
use Rattle.split_parts.specs.declared.places.Place.{Place}
use Rattle.split_parts.specs.Own.{number_in}
use Rattle.split_parts.specs.Parts.{AreApart, IsRisingPart}
use Rattle.split_parts.specs.Places.{ArePlaces, number_for, place_or}
use Rattle.split_parts.proofs.Numbers.{option_cases, number_some, number_none, number_contains}

-- who is in the part has its place there, and all others have theirs
pub placed : (members : List ℕ) (part : ℕ) (before places : List Place) (n : ℕ) → ((q : ℕ) (d : Place) → q < n → get_or places (get_or members q 0) d ≡ record { part = part; number = q }) → ((m : ℕ) (d : Place) → ((q : ℕ) → q < n → get_or members q 0 ≢ m) → get_or places m d ≡ get_or before m d) → length members ≡ n →
    (m : ℕ) (d : Place) → m < length before → get_or places m d ≡ place_or (number_in members m) part (get_or before m d)
placed members part before places n here rest is m d lm = by_cases (option_cases (number_in members m))
  where
    by_cases : (number_in members m ≡ None) ⊎ ((q : ℕ) × (number_in members m ≡ Some q)) → get_or places m d ≡ place_or (number_in members m) part (get_or before m d)
    by_cases (inl e) = rest m d (λ q lq. number_none members m e q (omega arith)) ∙ ap (λ o. place_or o part (get_or before m d)) (sym e)
    by_cases (inr q) =
        let h = number_some members m q.0 q.1 in
        let l = h.0 in
        ap (λ x. get_or places x d) (sym h.1) ∙ here q.0 d (omega arith) ∙ ap (λ o. place_or o part (get_or before m d)) (sym q.1)

number_for-yes : (k : ℕ) (place : Place) → place.part ≡ k → number_for k place ≡ Some place.number
number_for-yes k place e = rw (eq-eqb place.part k e) refl

number_for-no : (k : ℕ) (place : Place) → place.part ≢ k → number_for k place ≡ None
number_for-no k place n = rw (ne_eqb place.part k n) refl

-- who stands behind the last part is in none
pub places_none : (parts : List (List ℕ)) (members : ℕ) (none : Place) (places : List Place) → none.part ≡ length parts → places ≡ replicate members none → ArePlaces parts members 0 places
places_none parts members none places behind is = subst (ArePlaces parts members 0) (sym is) (record {
  size = length-replicate members none;
  own = λ m k d lm lk. absurd (omega arith);
  later = λ m k d lm le lk. ap (number_for k) (get_or-replicate members m none d lm) ∙ number_for-no k none (λ e. omega arith);
})

-- one part more
pub places_more : (parts : List (List ℕ)) (members k : ℕ) (before places : List Place) → AllPairs AreApart parts → k < length parts → length places ≡ length before → ArePlaces parts members k before →
    ((m : ℕ) (d : Place) → m < length before → get_or places m d ≡ place_or (number_in (get_or parts k []) m) k (get_or before m d)) → ArePlaces parts members (k + 1) places
places_more parts members k before places apart lk size h now = record {
  size = size ∙ h.size;
  own = λ m j d lm lj.
      ap (number_for j) (now m d (here m lm))
      ∙ ⊎_elim (λ (e : j ≡ k). ap (λ x. number_for x (place_or (number_in (get_or parts k []) m) k (get_or before m d))) e ∙ last m d lm (option_cases (number_in (get_or parts k []) m)) ∙ ap (λ x. number_in (get_or parts x []) m) (sym e))
      (λ (n : j ≢ k). earlier m j d lm (omega arith) (option_cases (number_in (get_or parts k []) m)))
      (cases_eq j k);
  later = λ m j d lm le lj. ap (number_for j) (now m d (here m lm)) ∙ behind m j d lm le lj (option_cases (number_in (get_or parts k []) m));
}
  where
    here : (m : ℕ) → m < members → m < length before
    here m lm = let s = h.size in omega arith

    last : (m : ℕ) (d : Place) → m < members → (number_in (get_or parts k []) m ≡ None) ⊎ ((q : ℕ) × (number_in (get_or parts k []) m ≡ Some q)) → number_for k (place_or (number_in (get_or parts k []) m) k (get_or before m d)) ≡ number_in (get_or parts k []) m
    last m d lm (inl e) = ap (λ o. number_for k (place_or o k (get_or before m d))) e ∙ h.later m k d lm (omega arith) lk ∙ sym e
    last m d lm (inr q) = ap (λ o. number_for k (place_or o k (get_or before m d))) q.1 ∙ number_for-yes k (record { part = k; number = q.0 }) refl ∙ sym q.1

    clash : (m j q : ℕ) → j < k → number_in (get_or parts k []) m ≡ Some q → (number_in (get_or parts j []) m ≡ None) ⊎ ((r : ℕ) × (number_in (get_or parts j []) m ≡ Some r)) → number_in (get_or parts j []) m ≡ None
    clash m j q lj e (inl none) = none
    clash m j q lj e (inr r) = absurd (apart j k [] lj lk m (number_contains (get_or parts j []) m r.0 r.1) (number_contains (get_or parts k []) m q e))

    earlier : (m j : ℕ) (d : Place) → m < members → j < k → (number_in (get_or parts k []) m ≡ None) ⊎ ((q : ℕ) × (number_in (get_or parts k []) m ≡ Some q)) → number_for j (place_or (number_in (get_or parts k []) m) k (get_or before m d)) ≡ number_in (get_or parts j []) m
    earlier m j d lm lj (inl e) = ap (λ o. number_for j (place_or o k (get_or before m d))) e ∙ h.own m j d lm lj
    earlier m j d lm lj (inr q) =
        ap (λ o. number_for j (place_or o k (get_or before m d))) q.1 ∙ number_for-no j (record { part = k; number = q.0 }) (λ e. omega arith) ∙ sym (clash m j q.0 lj q.1 (option_cases (number_in (get_or parts j []) m)))

    behind : (m j : ℕ) (d : Place) → m < members → k + 1 ≤ j → j < length parts → (number_in (get_or parts k []) m ≡ None) ⊎ ((q : ℕ) × (number_in (get_or parts k []) m ≡ Some q)) → number_for j (place_or (number_in (get_or parts k []) m) k (get_or before m d)) ≡ None
    behind m j d lm le lj (inl e) = ap (λ o. number_for j (place_or o k (get_or before m d))) e ∙ h.later m j d lm (omega arith) lj
    behind m j d lm le lj (inr q) = ap (λ o. number_for j (place_or o k (get_or before m d))) q.1 ∙ number_for-no j (record { part = k; number = q.0 }) (λ e. omega arith)

-- the place of one member more
pub record AreHere (members : List ℕ) (part n : ℕ) (before places : List Place) : Type 0 where
  pub here : (q : ℕ) (d : Place) → q < n → get_or places (get_or members q 0) d ≡ record { part = part; number = q }
  pub rest : (m : ℕ) (d : Place) → ((q : ℕ) → q < n → get_or members q 0 ≢ m) → get_or places m d ≡ get_or before m d

pub here_more : (members : List ℕ) (part n : ℕ) (before places : List Place) → IsRisingPart members → n < length members → get_or members n 0 < length places → AreHere members part n before places →
    AreHere members part (n + 1) before (set places (get_or members n 0) (record { part = part; number = n }))
here_more members part n before places rising l within h = record {
  here = λ q d lq. ⊎_elim (λ (e : q ≡ n). get_or-set_at places m (get_or members q 0) (record { part = part; number = n }) d (ap (λ k. get_or members k 0) e) within ∙ ap (λ k. at k) (sym e))
      (λ (ne : q ≢ n). get_or-set_other places m (get_or members q 0) (record { part = part; number = n }) d (let up = rising q n 0 (omega arith) l in λ e. omega arith) ∙ h.here q d (omega arith))
      (cases_eq q n);
  rest = λ k d none. get_or-set_other places m k (record { part = part; number = n }) d (λ e. none n (omega arith) (sym e)) ∙ h.rest k d (λ q lq. none q (omega arith));
}
  where
    at : ℕ → Place
    at k = record { part = part; number = k }

    m : ℕ
    m = get_or members n 0
