-- The rows of a part, found by its members, where rows are in the order of their sellers.
use Rattle.std.proofs.Common.{◌≡◌, ◌≢◌, ℕ, zero, suc, ◌<◌, ◌≤◌, ◌+◌, ◌*◌, ◌-◌, List, length, get_or, take, None, Some, Option, ◌⊎◌, inl, inr, ap, ◌∙◌, subst, arith, ⊎_elim}
use Rattle.std.specs.Prelude.{AllPairs, filter_map}
use Rattle.std.proofs.lemmas.Bool.{cases_eq, cases_lt}
use Rattle.std.proofs.lemmas.List.{get_or_default, take_all}
use Rattle.split_parts.specs.Own.{number_in}
use Rattle.split_parts.specs.Parts.{IsRisingPart}
use Rattle.split_parts.proofs.Kept.{kept_none}
use Rattle.split_parts.proofs.Numbers.{option_cases, number_some}

-- who is none of a part's members has no number there
pub not_inside : (part : List ℕ) (m : ℕ) → ((q : ℕ) → q < length part → get_or part q 0 ≢ m) → number_in part m ≡ None
not_inside part m none = by_cases (option_cases (number_in part m))
  where
    by_cases : (number_in part m ≡ None) ⊎ ((q : ℕ) × (number_in part m ≡ Some q)) → number_in part m ≡ None
    by_cases (inl e) = e
    by_cases (inr q) = let h = number_some part m q.0 q.1 in absurd (none q.0 h.0 h.1)

-- the rows before a place are of sellers before the part's members from number n on, and those from it on of sellers behind
-- the members before
pub record StandsAt {X : Type 0} (seller : X → ℕ) (part : List ℕ) (rows : List X) (at n : ℕ) : Type 0 where
  pub before : (k : ℕ) (d : X) → k < at → (q : ℕ) → n ≤ q → q < length part → seller (get_or rows k d) < get_or part q 0
  pub behind : (k : ℕ) (d : X) → at ≤ k → k < length rows → (q : ℕ) → q < n → q < length part → get_or part q 0 < seller (get_or rows k d)

-- those before it are of this seller or of earlier ones, and those from it on of this or of later ones
pub record StandsIn {X : Type 0} (seller : X → ℕ) (rows : List X) (at s : ℕ) : Type 0 where
  pub before : (k : ℕ) (d : X) → k < at → seller (get_or rows k d) ≤ s
  pub behind : (k : ℕ) (d : X) → at ≤ k → k < length rows → s ≤ seller (get_or rows k d)

passed_by : {X Y : Type 0} (f : X → Option Y) (rows : List X) (d : X) (from n : ℕ) (ys : List Y) → from + n ≤ length rows → ((k : ℕ) → from ≤ k → k < from + n → f (get_or rows k d) ≡ None) → ys ≡ filter_map f (take from rows) → ys ≡ filter_map f (take (from + n) rows)
passed_by {X} {Y} f rows d from zero ys within none is = let e : from ≡ from + zero = omega arith in subst (λ k. ys ≡ filter_map f (take k rows)) e is
passed_by {X} {Y} f rows d from (suc n) ys within none is =
    let e : from + n + 1 ≡ from + suc n = omega arith in
    subst (λ k. ys ≡ filter_map f (take k rows)) e
    (kept_none f rows (from + n) d ys (omega arith) (passed_by f rows d from n ys (omega arith) (λ k low high. none k low (omega arith)) is) (none (from + n) (omega arith) (omega arith)))

-- rows that give nothing are passed over
passed : {X Y : Type 0} (f : X → Option Y) (rows : List X) (d : X) (from to : ℕ) (ys : List Y) → from ≤ to → to ≤ length rows → ((k : ℕ) → from ≤ k → k < to → f (get_or rows k d) ≡ None) → ys ≡ filter_map f (take from rows) → ys ≡ filter_map f (take to rows)
passed {X} {Y} f rows d from to ys le within none is =
    let e : from + (to - from) ≡ to = omega arith in
    subst (λ k. ys ≡ filter_map f (take k rows)) e (passed_by f rows d from (to - from) ys (omega arith) (λ k low high. none k low (omega arith)) is)

-- from the rows of earlier members, over rows between, to the first row of member number n
pub skipped : {X Y : Type 0} (seller : X → ℕ) (f : X → Option Y) (part : List ℕ) (rows : List X) (d : X) (at to n : ℕ) (ys : List Y) → IsRisingPart part → n < length part → ((x : X) → number_in part (seller x) ≡ None → f x ≡ None) →
    StandsAt seller part rows at n → at ≤ length rows → to ≤ length rows → ((k : ℕ) (e : X) → k < to → seller (get_or rows k e) < get_or part n 0) → ((k : ℕ) (e : X) → to ≤ k → k < length rows → get_or part n 0 ≤ seller (get_or rows k e)) →
    ys ≡ filter_map f (take at rows) → ys ≡ filter_map f (take to rows)
skipped seller f part rows d at to n ys rising ln gives h end within below above is =
    passed f rows d at to ys (⊎_elim (λ (l : to < at). absurd (let a = h.before to d l n (omega arith) ln in let b = above to d (omega arith) (omega arith) in omega arith)) (λ (l : at ≤ to). l) (cases_lt to at)) within
    (λ k low high. gives (get_or rows k d) (not_inside part (seller (get_or rows k d)) (λ q lq.
    ⊎_elim (λ (l : q < n). let a = h.behind k d low (omega arith) q l lq in λ e. omega arith)
    (λ (l : n ≤ q). let a = below k d high in ⊎_elim (λ (s : n ≡ q). let b : get_or part n 0 ≡ get_or part q 0 = ap (λ j. get_or part j 0) s in λ e. omega arith)
    (λ (s : n ≢ q). let b = rising n q 0 (omega arith) lq in λ e. omega arith) (cases_eq n q)) (cases_lt q n)))) is

-- all rows from one on stand at a place or behind it, where that one does
pub behind_one : {X : Type 0} (place : X → ℕ) (rows : List X) (at w : ℕ) (x : X) → AllPairs (λ a b. place a < place b) rows → at < length rows → w ≤ place (get_or rows at x) → (k : ℕ) (d : X) → at ≤ k → k < length rows → w ≤ place (get_or rows k d)
behind_one place rows at w x sorted within here k d le lk =
    let same : place (get_or rows at d) ≡ place (get_or rows at x) = ap place (get_or_default rows at d x within) in
    ⊎_elim (λ (e : k ≡ at). let a : place (get_or rows k d) ≡ place (get_or rows at d) = ap (λ j. place (get_or rows j d)) e in omega arith)
    (λ (ne : k ≢ at). let up = sorted at k d (omega arith) lk in omega arith) (cases_eq k at)

-- the first row of a seller or of a later one
pub at_seller : {X : Type 0} (seller : X → ℕ) (rows : List X) (at s : ℕ) → ((k : ℕ) (d : X) → k < at → seller (get_or rows k d) < s) → ((k : ℕ) (d : X) → at ≤ k → k < length rows → s ≤ seller (get_or rows k d)) → StandsIn seller rows at s
at_seller seller rows at s before behind = record { before = λ k d lk. let a = before k d lk in omega arith; behind = behind }

-- one row of the seller more
pub next_row : {X : Type 0} (seller : X → ℕ) (rows : List X) (at s : ℕ) (x : X) → at < length rows → seller (get_or rows at x) ≡ s → StandsIn seller rows at s → StandsIn seller rows (at + 1) s
next_row seller rows at s x within own h = record {
  before = λ k d lk. ⊎_elim (λ (e : k ≡ at). let a : seller (get_or rows k d) ≡ s = ap (λ j. seller (get_or rows j d)) e ∙ ap seller (get_or_default rows at d x within) ∙ own in omega arith)
      (λ (ne : k ≢ at). h.before k d (omega arith))
      (cases_eq k at);
  behind = λ k d le lk. h.behind k d (omega arith) lk;
}

-- behind the rows of member number n
pub left : {X : Type 0} (seller buyer : X → ℕ) (part : List ℕ) (rows : List X) (at n s : ℕ) → IsRisingPart part → n < length part → s ≡ get_or part n 0 → AllPairs (λ a b. seller a * 65536 + buyer a < seller b * 65536 + buyer b) rows →
    ((k : ℕ) (d : X) → k < length rows → buyer (get_or rows k d) < 65536) → ((d : X) → at < length rows → seller (get_or rows at d) ≢ s) → StandsIn seller rows at s → StandsAt seller part rows at (n + 1)
left {X} seller buyer part rows at n s rising ln here sorted short other h = record {
  before = λ k d lk q lq l. let a = h.before k d lk in let b = rising n q 0 (omega arith) l in omega arith;
  behind = λ k d le lk q lq l. let a = later k d le lk in let b = no_later q lq in omega arith;
}
  where
    later : (k : ℕ) (d : X) → at ≤ k → k < length rows → s < seller (get_or rows k d)
    later k d le lk =
        let own = other d (omega arith) in
        let from = h.behind at d (omega arith) (omega arith) in
        ⊎_elim (λ (e : k ≡ at). let a : seller (get_or rows k d) ≡ seller (get_or rows at d) = ap (λ j. seller (get_or rows j d)) e in omega arith)
        (λ (ne : k ≢ at). let up = sorted at k d (omega arith) lk in let few = short k d lk in omega arith) (cases_eq k at)

    no_later : (q : ℕ) → q < n + 1 → get_or part q 0 ≤ s
    no_later q lq =
        ⊎_elim (λ (e : q ≡ n). let a : get_or part q 0 ≡ get_or part n 0 = ap (λ j. get_or part j 0) e in omega arith)
        (λ (ne : q ≢ n). let up = rising q n 0 (omega arith) ln in omega arith) (cases_eq q n)

-- behind the rows of the last member
pub done : {X Y : Type 0} (seller : X → ℕ) (f : X → Option Y) (part : List ℕ) (rows : List X) (d : X) (at n : ℕ) (ys : List Y) → length part ≤ n → ((x : X) → number_in part (seller x) ≡ None → f x ≡ None) →
    StandsAt seller part rows at n → at ≤ length rows → ys ≡ filter_map f (take at rows) → ys ≡ filter_map f rows
done seller f part rows d at n ys all gives h end is =
    passed f rows d at (length rows) ys end (omega arith) (λ k low high. gives (get_or rows k d) (not_inside part (seller (get_or rows k d)) (λ q lq. let a = h.behind k d low high q (omega arith) lq in λ e. omega arith))) is
    ∙ ap (filter_map f) (take_all (length rows) rows (omega arith))
