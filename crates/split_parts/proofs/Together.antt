-- The rows of all parts: which amounts, potentials, net positions and gross they have.
use Rattle.std.proofs.Common.{◌≡◌, ◌≢◌, ℕ, zero, suc, ◌<◌, List, [], ◌∷◌, length, get_or, map, Some, None, ◌⊎◌, inl, inr, refl, sym, ap, ◌∙◌, subst, arith, ⊎_elim}
use Rattle.std.specs.Prelude.{All, AllPairs, Contains}
use Rattle.std.proofs.lemmas.Bool.{cases_eq}
use Rattle.std.proofs.lemmas.List.{get_or_default}
use Rattle.std.proofs.lemmas.List.Elements.{All-nil, All-head, All-tail, All-append, All-map, All-weaker}
use Rattle.std.proofs.lemmas.List.Sums.{sum_by-append}
use Rattle.network_laws.specs.declared.rows.Row.{Row}
use Rattle.network_laws.specs.Networks.{NetworkData, at, amount_in, sold_in, bought_in, pair_part, sold_part, bought_part}
use Rattle.network_laws.specs.Limits.{LimitsData, potential}
use Rattle.network_laws.specs.Solutions.{SolutionData}
use Rattle.network_laws.specs.Solved.{IsSolved, AreSolved}
use Rattle.network_laws.proofs.RowSums.{pair_part-seller, pair_part-is, sold_part-other, sold_part-same, bought_part-other, bought_part-same}
use Rattle.network_laws.proofs.RowOrder.{pair_part-other_buyer}
use Rattle.split_parts.specs.Own.{number_in, own_problem}
use Rattle.split_parts.specs.Parts.{SharePart, IsRisingPart, IsPart, AreApart}
use Rattle.split_parts.specs.Merged.{named, rows_of, own_or, potential_in}
use Rattle.split_parts.proofs.Numbers.{option_cases, some_is, number_at, number_contains}
use Rattle.split_parts.proofs.Summing.{sum_by_map, sum_by_agree, sum_by_zero}

-- a part with its solution
pub record Fits (limits : LimitsData) (y : NetworkData) (part : List ℕ) (s : SolutionData) : Type 0 where
  pub rising : IsRisingPart part
  pub within : All (λ m. m < y.members) part
  pub solved : IsSolved (own_problem limits y part) s

-- parts with their solutions, no member in two
abbrev pub AreFit : LimitsData → NetworkData → List (List ℕ) → List SolutionData → Type 0
AreFit limits y [] [] = Unit {0}
AreFit limits y [] (s ∷ ss) = ⊥
AreFit limits y (part ∷ parts) [] = ⊥
AreFit limits y (part ∷ parts) (s ∷ ss) = Fits limits y part s × All (AreApart part) parts × AreFit limits y parts ss

pub fit_all : (limits : LimitsData) (y : NetworkData) (parts : List (List ℕ)) (ss : List SolutionData) → All IsPart parts → AllPairs AreApart parts → All (λ part. All (λ m. m < y.members) part) parts → AreSolved (map (own_problem limits y) parts) ss → AreFit limits y parts ss
fit_all limits y [] [] each apart within solved = tt
fit_all limits y [] (s ∷ ss) each apart within solved = absurd solved
fit_all limits y (part ∷ parts) [] each apart within solved = absurd solved
fit_all limits y (part ∷ parts) (s ∷ ss) each apart within solved = (
  record { rising = (All-head IsPart part parts each).rising; within = All-head (λ p. All (λ m. m < y.members) p) part parts within; solved = solved.0 },
  (λ k d l. apart 0 (suc k) d (omega arith) (omega arith)),
  fit_all limits y parts ss (All-tail IsPart part parts each) (λ i j d lt lj. apart (suc i) (suc j) d (omega arith) (omega arith)) (All-tail (λ p. All (λ m. m < y.members) p) part parts within) solved.1,
)

pub in_part : (limits : LimitsData) (y : NetworkData) (part : List ℕ) (s : SolutionData) → Fits limits y part s → All (λ r. (r.seller < length part) × (r.buyer < length part)) s.network.rows
in_part limits y part s f k d l =
    let row = f.solved.fits.network.rows.good k d l in
    let size = f.solved.solves.certified.admissible.new_members in
    let a = row.seller in
    let b = row.buyer in
    (omega arith, omega arith)

contains_at : (part : List ℕ) (q : ℕ) → q < length part → Contains part (get_or part q 0)
contains_at part q l = (q, l, get_or_default part q (get_or part q 0) 0 l)

share_here : (part : List ℕ) (parts : List (List ℕ)) (i j : ℕ) → Contains part i → Contains part j → SharePart (part ∷ parts) i j
share_here part parts i j a b = (0, part, omega arith, refl, (a, b))

share_later : (part : List ℕ) (parts : List (List ℕ)) (i j : ℕ) → SharePart parts i j → SharePart (part ∷ parts) i j
share_later part parts i j h = (suc h.0, h.1, (let l = h.2 in omega arith), h.3, h.4)

-- each row is between members of one part
pub share_rows : (limits : LimitsData) (y : NetworkData) (parts : List (List ℕ)) (ss : List SolutionData) → AreFit limits y parts ss → All (λ r. SharePart parts r.seller r.buyer) (rows_of parts ss)
share_rows limits y [] [] fit = All-nil (λ r. SharePart [] r.seller r.buyer)
share_rows limits y [] (s ∷ ss) fit = absurd fit
share_rows limits y (part ∷ parts) [] fit = absurd fit
share_rows limits y (part ∷ parts) (s ∷ ss) fit =
    let P : Row → Type 0 = λ r. SharePart (part ∷ parts) r.seller r.buyer in
    let inside = in_part limits y part s fit.0 in
    All-append P (map (named part) s.network.rows) (rows_of parts ss)
    (All-map P (named part) s.network.rows (λ k d l. let h = inside k d l in share_here part parts _ _ (contains_at part (get_or s.network.rows k d).seller h.0) (contains_at part (get_or s.network.rows k d).buyer h.1)))
    (All-weaker (λ (r : Row). SharePart parts r.seller r.buyer) P (λ r h. share_later part parts r.seller r.buyer h) (rows_of parts ss) (share_rows limits y parts ss fit.2))

-- neither seller nor buyer
abbrev pub IsAway : ℕ → Row → Type 0
IsAway i r = (r.seller ≢ i) × (r.buyer ≢ i)

-- a member of the first part is in no row of the others
pub away_later : (limits : LimitsData) (y : NetworkData) (part : List ℕ) (parts : List (List ℕ)) (ss : List SolutionData) → All (AreApart part) parts → AreFit limits y parts ss → (i : ℕ) → Contains part i → All (IsAway i) (rows_of parts ss)
away_later limits y part parts ss apart fit i here k d l =
    let share = share_rows limits y parts ss fit k d l in
    let other : AreApart part share.1 = subst (AreApart part) share.3 (apart share.0 share.1 share.2) in
    ((λ e. other i here (subst (Contains share.1) e share.4.0)), (λ e. other i here (subst (Contains share.1) e share.4.1)))

-- who is not in a part is in no row of it
pub away_here : (limits : LimitsData) (y : NetworkData) (part : List ℕ) (s : SolutionData) → Fits limits y part s → (i : ℕ) → (Contains part i → ⊥) → All (IsAway i) (map (named part) s.network.rows)
away_here limits y part s f i none =
    All-map (IsAway i) (named part) s.network.rows (λ k d l.
    let h = in_part limits y part s f k d l in
    ((λ e. none (subst (Contains part) e (contains_at part (get_or s.network.rows k d).seller h.0))), (λ e. none (subst (Contains part) e (contains_at part (get_or s.network.rows k d).buyer h.1)))))

pub no_amount : (i j : ℕ) (rows : List Row) → All (IsAway i) rows → amount_in rows i j ≡ 0
no_amount i j rows away = sum_by_zero (pair_part i j) rows (λ k d l. pair_part-seller i j (get_or rows k d) (λ e. (away k d l).0 (sym e)))

pub no_sold : (i : ℕ) (rows : List Row) → All (IsAway i) rows → sold_in rows i ≡ 0
no_sold i rows away = sum_by_zero (sold_part i) rows (λ k d l. sold_part-other i (get_or rows k d) (λ e. (away k d l).0 (sym e)))

pub no_bought : (i : ℕ) (rows : List Row) → All (IsAway i) rows → bought_in rows i ≡ 0
no_bought i rows away = sum_by_zero (bought_part i) rows (λ k d l. bought_part-other i (get_or rows k d) (λ e. (away k d l).1 (sym e)))

-- different places have different members
pub same_place : (part : List ℕ) (p q : ℕ) → IsRisingPart part → p < length part → q < length part → get_or part p 0 ≡ get_or part q 0 → p ≡ q
same_place part p q rising lp lq e = some_is p q (sym (number_at part p rising lp) ∙ ap (number_in part) e ∙ number_at part q rising lq)

-- what a row counts for is what it counts for in own numbers
abbrev pub AreInside : List ℕ → List Row → Type 0
AreInside part rows = All (λ r. (r.seller < length part) × (r.buyer < length part)) rows

pub named_amount : (part : List ℕ) (rows : List Row) → IsRisingPart part → AreInside part rows → (a b : ℕ) → a < length part → b < length part → amount_in (map (named part) rows) (get_or part a 0) (get_or part b 0) ≡ amount_in rows a b
named_amount part rows rising inside a b la lb =
    sum_by_map (pair_part (get_or part a 0) (get_or part b 0)) (named part) rows ∙ sum_by_agree (λ r. pair_part (get_or part a 0) (get_or part b 0) (named part r)) (pair_part a b) rows (λ k d l. one (get_or rows k d) (inside k d l))
  where
    one : (r : Row) → (r.seller < length part) × (r.buyer < length part) → pair_part (get_or part a 0) (get_or part b 0) (named part r) ≡ pair_part a b r
    one r h =
        ⊎_elim (λ (e : r.seller ≡ a).
        ⊎_elim (λ (f : r.buyer ≡ b). pair_part-is (get_or part a 0) (get_or part b 0) (named part r) (ap (λ q. get_or part q 0) e) (ap (λ q. get_or part q 0) f) ∙ sym (pair_part-is a b r e f))
        (λ (n : r.buyer ≢ b). pair_part-other_buyer (get_or part a 0) (get_or part b 0) (named part r) (λ q. n (same_place part r.buyer b rising h.1 lb q)) ∙ sym (pair_part-other_buyer a b r n))
        (cases_eq r.buyer b))
        (λ (n : r.seller ≢ a). pair_part-seller (get_or part a 0) (get_or part b 0) (named part r) (λ q. n (same_place part r.seller a rising h.0 la (sym q))) ∙ sym (pair_part-seller a b r (λ q. n (sym q))))
        (cases_eq r.seller a)

pub named_sold : (part : List ℕ) (rows : List Row) → IsRisingPart part → AreInside part rows → (a : ℕ) → a < length part → sold_in (map (named part) rows) (get_or part a 0) ≡ sold_in rows a
named_sold part rows rising inside a la =
    sum_by_map (sold_part (get_or part a 0)) (named part) rows ∙ sum_by_agree (λ r. sold_part (get_or part a 0) (named part r)) (sold_part a) rows (λ k d l. one (get_or rows k d) (inside k d l))
  where
    one : (r : Row) → (r.seller < length part) × (r.buyer < length part) → sold_part (get_or part a 0) (named part r) ≡ sold_part a r
    one r h =
        ⊎_elim (λ (e : r.seller ≡ a). subst (λ q. sold_part (get_or part q 0) (named part r) ≡ sold_part q r) e (sold_part-same (named part r) ∙ sym (sold_part-same r)))
        (λ (n : r.seller ≢ a). sold_part-other (get_or part a 0) (named part r) (λ q. n (same_place part r.seller a rising h.0 la (sym q))) ∙ sym (sold_part-other a r (λ q. n (sym q))))
        (cases_eq r.seller a)

pub named_bought : (part : List ℕ) (rows : List Row) → IsRisingPart part → AreInside part rows → (a : ℕ) → a < length part → bought_in (map (named part) rows) (get_or part a 0) ≡ bought_in rows a
named_bought part rows rising inside a la =
    sum_by_map (bought_part (get_or part a 0)) (named part) rows ∙ sum_by_agree (λ r. bought_part (get_or part a 0) (named part r)) (bought_part a) rows (λ k d l. one (get_or rows k d) (inside k d l))
  where
    one : (r : Row) → (r.seller < length part) × (r.buyer < length part) → bought_part (get_or part a 0) (named part r) ≡ bought_part a r
    one r h =
        ⊎_elim (λ (e : r.buyer ≡ a). subst (λ q. bought_part (get_or part q 0) (named part r) ≡ bought_part q r) e (bought_part-same (named part r) ∙ sym (bought_part-same r)))
        (λ (n : r.buyer ≢ a). bought_part-other (get_or part a 0) (named part r) (λ q. n (same_place part r.buyer a rising h.1 la (sym q))) ∙ sym (bought_part-other a r (λ q. n (sym q))))
        (cases_eq r.buyer a)

-- a part's amounts and potentials are those of its solution
pub record PartOf (limits : LimitsData) (y : NetworkData) (parts : List (List ℕ)) (ss : List SolutionData) (part : List ℕ) : Type 0 where
  pub s : SolutionData
  pub fits : Fits limits y part s
  pub amount : (a b : ℕ) → a < length part → b < length part → amount_in (rows_of parts ss) (get_or part a 0) (get_or part b 0) ≡ at s.network a b
  pub price : (a : ℕ) → a < length part → potential_in parts ss (get_or part a 0) ≡ potential s.potentials a

part_first : (limits : LimitsData) (y : NetworkData) (part : List ℕ) (parts : List (List ℕ)) (s : SolutionData) (ss : List SolutionData) → AreFit limits y (part ∷ parts) (s ∷ ss) → PartOf limits y (part ∷ parts) (s ∷ ss) part
part_first limits y part parts s ss fit = record {
  s = s;
  fits = fit.0;
  amount = λ a b la lb.
      let i = get_or part a 0 in
      let j = get_or part b 0 in
      omega (
        arith,
        sum_by-append (pair_part i j) (map (named part) s.network.rows) (rows_of parts ss),
        named_amount part s.network.rows fit.0.rising (in_part limits y part s fit.0) a b la lb,
        no_amount i j (rows_of parts ss) (away_later limits y part parts ss fit.1 fit.2 i (contains_at part a la)),
      );
  price = λ a la. ap (λ o. own_or o s.potentials (potential_in parts ss (get_or part a 0))) (number_at part a fit.0.rising la);
}

pub part_of : (limits : LimitsData) (y : NetworkData) (parts : List (List ℕ)) (ss : List SolutionData) → AreFit limits y parts ss → (k : ℕ) (part : List ℕ) → k < length parts → get_or parts k part ≡ part → PartOf limits y parts ss part
part_of limits y [] [] fit k part l is = absurd (omega arith)
part_of limits y [] (s ∷ ss) fit k part l is = absurd fit
part_of limits y (p ∷ parts) [] fit k part l is = absurd fit
part_of limits y (p ∷ parts) (s ∷ ss) fit zero part l is = subst (PartOf limits y (p ∷ parts) (s ∷ ss)) is (part_first limits y p parts s ss fit)
part_of limits y (p ∷ parts) (s ∷ ss) fit (suc k) part l is =
    let later = part_of limits y parts ss fit.2 k part (omega arith) is in
    let other : AreApart p part = subst (AreApart p) is (fit.1 k part (omega arith)) in
    let out = λ (a : ℕ) (la : a < length part) (h : Contains p (get_or part a 0)). other (get_or part a 0) h (contains_at part a la) in
    record {
      s = later.s;
      fits = later.fits;
      amount = λ a b la lb.
          let i = get_or part a 0 in
          let j = get_or part b 0 in
          omega (
            arith,
            sum_by-append (pair_part i j) (map (named p) s.network.rows) (rows_of parts ss),
            later.amount a b la lb,
            no_amount i j (map (named p) s.network.rows) (away_here limits y p s fit.0 i (out a la)),
          );
      price = λ a la. ap (λ o. own_or o s.potentials (potential_in parts ss (get_or part a 0))) (not_in p (get_or part a 0) (out a la) (option_cases (number_in p (get_or part a 0)))) ∙ later.price a la;
    }
  where
    not_in : (part' : List ℕ) (i : ℕ) → (Contains part' i → ⊥) → (number_in part' i ≡ None) ⊎ ((q : ℕ) × (number_in part' i ≡ Some q)) → number_in part' i ≡ None
    not_in part' i none (inl e) = e
    not_in part' i none (inr q) = absurd (none (number_contains part' i q.0 q.1))
