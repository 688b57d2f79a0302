-- The rows of the product are the rows of its parts, in the members' numbers.
use Rattle.std.proofs.Common.{◌≡◌, ℕ, zero, suc, ◌<◌, ◌+◌, List, [], ◌∷◌, length, get_or, map, Some, None, Option, ◌⊎◌, inl, inr, refl, sym, ap, ◌∙◌, subst, arith}
use Rattle.std.specs.Prelude.{All, AllPairs, Contains, filter_map, sum_by}
use Rattle.std.proofs.lemmas.List.Elements.{All-head, All-tail}
use Rattle.std.proofs.lemmas.List.Sums.{sum_by-append, get_or-le-sum_by}
use Rattle.network_laws.specs.declared.rows.Row.{Row}
use Rattle.network_laws.specs.Networks.{NetworkData, IsNetwork, at, pair_part}
use Rattle.network_laws.specs.Limits.{LimitsData, IsWithin, IsWithinLimits}
use Rattle.network_laws.specs.Solutions.{SolutionData}
use Rattle.network_laws.proofs.RowSums.{pair_part-same}
use Rattle.split_parts.specs.Chains.{IsOpen}
use Rattle.split_parts.specs.Own.{number_in, own_row, own_network, row_between}
use Rattle.split_parts.specs.Parts.{IsRisingPart, IsPart, AreApart, IsPartition}
use Rattle.split_parts.specs.Merged.{named, rows_of}
use Rattle.split_parts.proofs.Joining.{joined_once}
use Rattle.split_parts.proofs.Numbers.{option_cases, number_some, number_contains, contains_number}
use Rattle.split_parts.proofs.Summing.{sum_by_map, sum_by_agree, sum_by_zero, sum_by_add}
use Rattle.split_parts.proofs.Kept.{kept_sum}
use Rattle.split_parts.proofs.OwnFacts.{BecomesRow, row_from}

-- the part's network as it was, without potentials
abbrev pub old_of : NetworkData → List ℕ → SolutionData
old_of y part = record { network = own_network y part; potentials = [] }

abbrev counted_by : (Row → ℕ) → Row → Option Row → ℕ
counted_by g row None = 0
counted_by g row (Some own) = g row

-- what a row counts for in a part
abbrev counted : (Row → ℕ) → List ℕ → Row → ℕ
counted g part row = counted_by g row (own_row part row)

-- and in all parts
abbrev count_all : (Row → ℕ) → List (List ℕ) → Row → ℕ
count_all g [] row = 0
count_all g (part ∷ parts) row = counted g part row + count_all g parts row

named_back : (part : List ℕ) (row own : Row) → BecomesRow (number_in part row.seller) (number_in part row.buyer) row.amount own → named part own ≡ row
named_back part row own is =
    let s = (number_some part row.seller own.seller is.seller).1 in
    let b = (number_some part row.buyer own.buyer is.buyer).1 in
    let a = is.amounts in
    λ i. record { seller = s i; buyer = b i; amount = a i }

counted_some : (g : Row → ℕ) (part : List ℕ) (row own : Row) → own_row part row ≡ Some own → counted g part row ≡ g row
counted_some g part row own e = ap (counted_by g row) e

counted_none : (g : Row → ℕ) (part : List ℕ) (row : Row) → own_row part row ≡ None → counted g part row ≡ 0
counted_none g part row e = ap (counted_by g row) e

sums_by_parts : (g : Row → ℕ) (y : NetworkData) (parts : List (List ℕ)) → sum_by g (rows_of parts (map (old_of y) parts)) ≡ sum_by (count_all g parts) y.rows
sums_by_parts g y [] = sym (sum_by_zero (λ row. 0) y.rows (λ k d l. refl))
sums_by_parts g y (part ∷ parts) =
    let head : sum_by g (map (named part) (filter_map (own_row part) y.rows)) ≡ sum_by (counted g part) y.rows =
    sum_by_map g (named part) (filter_map (own_row part) y.rows)
    ∙ kept_sum (own_row part) (λ x. Unit {0}) (counted g part) (λ r. g (named part r)) (λ x own u e. ap g (named_back part x own (row_from (number_in part x.seller) (number_in part x.buyer) x.amount own e)) ∙ sym (counted_some g part x own e)) (λ x u e. counted_none g part x e) y.rows (λ k d l. tt) in
    omega (
      arith,
      sum_by-append g (map (named part) (filter_map (own_row part) y.rows)) (rows_of parts (map (old_of y) parts)),
      head,
      sums_by_parts g y parts,
      sum_by_add (counted g part) (count_all g parts) (count_all g (part ∷ parts)) (λ x. refl) y.rows,
    )

out_of : (g : Row → ℕ) (part : List ℕ) (row : Row) → (Contains part row.seller → ⊥) → counted g part row ≡ 0
out_of g part row none = by_cases (option_cases (number_in part row.seller))
  where
    by_cases : (number_in part row.seller ≡ None) ⊎ ((q : ℕ) × (number_in part row.seller ≡ Some q)) → counted g part row ≡ 0
    by_cases (inl e) = ap (λ o. counted_by g row (row_between o (number_in part row.buyer) row.amount)) e
    by_cases (inr q) = absurd (none (number_contains part row.seller q.0 q.1))

out_of_all : (g : Row → ℕ) (parts : List (List ℕ)) (row : Row) → All (λ part. Contains part row.seller → ⊥) parts → count_all g parts row ≡ 0
out_of_all g [] row none = refl
out_of_all g (part ∷ parts) row none =
    omega (arith, out_of g part row (All-head (λ p. Contains p row.seller → ⊥) part parts none), out_of_all g parts row (All-tail (λ p. Contains p row.seller → ⊥) part parts none))

counted_in : (g : Row → ℕ) (part : List ℕ) (row : Row) → IsRisingPart part → Contains part row.seller → Contains part row.buyer → counted g part row ≡ g row
counted_in g part row rising s b =
    let p = contains_number part row.seller rising s in
    let q = contains_number part row.buyer rising b in
    counted_some g part row (record { seller = p.0; buyer = q.0; amount = row.amount }) (ap (λ o. row_between o (number_in part row.buyer) row.amount) p.1 ∙ ap (λ o. row_between (Some p.0) o row.amount) q.1)

-- a row between members of one part counts once
counted_once : (g : Row → ℕ) (parts : List (List ℕ)) (row : Row) → All IsPart parts → AllPairs AreApart parts → (k : ℕ) (part : List ℕ) → k < length parts → get_or parts k part ≡ part → Contains part row.seller → Contains part row.buyer → count_all g parts row ≡ g row
counted_once g [] row each apart k part l is s b = absurd (omega arith)
counted_once g (p ∷ parts) row each apart zero part l is s b =
    let s' : Contains p row.seller = subst (λ x. Contains x row.seller) (sym is) s in
    let b' : Contains p row.buyer = subst (λ x. Contains x row.buyer) (sym is) b in
    omega (arith, counted_in g p row (All-head IsPart p parts each).rising s' b', out_of_all g parts row (λ k d lk c. apart 0 (suc k) d (omega arith) (omega arith) row.seller s' c))
counted_once g (p ∷ parts) row each apart (suc k) part l is s b =
    let later = counted_once g parts row (All-tail IsPart p parts each) (λ i j d lt lj. apart (suc i) (suc j) d (omega arith) (omega arith)) k part (omega arith) is s b in
    let other : AreApart p part = subst (AreApart p) is (apart 0 (suc k) part (omega arith) l) in
    omega (arith, later, out_of g p row (λ c. other row.seller c s))

-- the pair of each row of the product is open
row_open : (limits : LimitsData) (y : NetworkData) → limits.members ≡ y.members → IsNetwork y → IsWithinLimits limits y → (k : ℕ) (d : Row) → k < length y.rows → IsOpen limits (get_or y.rows k d).seller (get_or y.rows k d).buyer
row_open limits y same good within k d l e =
    let row = get_or y.rows k d in
    let ok = good.rows.good k d l in
    let most : IsWithin (at y row.seller row.buyer) (Some 0) = subst (IsWithin (at y row.seller row.buyer)) e (within.below row.seller row.buyer ok.seller ok.buyer) in
    let le = get_or-le-sum_by (pair_part row.seller row.buyer) y.rows k d l in
    let here = pair_part-same row in
    let one = ok.positive in
    absurd (omega arith)

pub whole_sum : (limits : LimitsData) (y : NetworkData) (parts : List (List ℕ)) → limits.members ≡ y.members → IsNetwork y → IsWithinLimits limits y → IsPartition limits parts → (g : Row → ℕ) → sum_by g (rows_of parts (map (old_of y) parts)) ≡ sum_by g y.rows
whole_sum limits y parts same good within p g =
    sums_by_parts g y parts ∙ sum_by_agree (count_all g parts) g y.rows (λ k d l.
    let row = get_or y.rows k d in
    let joined = joined_once limits row.seller row.buyer (inl (row_open limits y same good within k d l)) in
    let share = (p.joined row.seller row.buyer).1 joined in
    counted_once g parts row p.each p.apart share.0 share.1 share.2 share.3 share.4.0 share.4.1)
