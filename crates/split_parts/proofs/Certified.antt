-- The solutions of parts, put together, are a network, and certified.
use Rattle.std.proofs.Common.{◌≡◌, ◌≢◌, ℕ, zero, suc, ◌<◌, ◌≤◌, ◌+◌, cond, eqb, List, [], ◌∷◌, ◌++◌, length, get_or, map, Some, None, ℤ, pos, ◌-ℤ◌, ◌≤ℤ◌, ◌⊎◌, inl, inr, refl, sym, ap, ◌∙◌, subst, arith, ⊎_elim}
use Rattle.std.specs.Prelude.{All, AllPairs, Contains, IsPermutation, sum_by}
use Rattle.std.specs.List.Sorted.{IsNonDecreasingBy}
use Rattle.std.proofs.lemmas.Bool.{cases_eq, cases_lt, eq-eqb, ne_eqb}
use Rattle.std.proofs.lemmas.Int.{ints}
use Rattle.std.proofs.lemmas.List.{get_or_default}
use Rattle.std.proofs.lemmas.List.Elements.{All-nil, All-head, All-tail, All-append, All-map}
use Rattle.std.proofs.lemmas.List.Kept.{AllPairs-cons}
use Rattle.std.proofs.lemmas.List.Sorted.{sum_by-IsPermutation, All-permutation}
use Rattle.std.proofs.lemmas.List.Sums.{sum_by-append, sum_by-cons}
use Rattle.network_laws.specs.declared.rows.Row.{Row}
use Rattle.network_laws.specs.Networks.{NetworkData, IsNetwork, IsGoodRow, place, at, amount_in, sold_in, bought_in, total, pair_part, sold_part, bought_part}
use Rattle.network_laws.specs.Limits.{LimitsData, IsWithin, IsBelow, IsWithinLimits, lower, upper, reduced, potential}
use Rattle.network_laws.specs.Solutions.{SolutionData, IsProblem}
use Rattle.network_laws.specs.Solved.{AreSolved}
use Rattle.network_laws.proofs.Duality.{certified_is_least}
use Rattle.network_laws.proofs.RowSums.{pair_part-seller}
use Rattle.network_laws.proofs.RowOrder.{pair_part-other_buyer}
use Rattle.split_parts.specs.Own.{number_in, own_network, own_limits}
use Rattle.split_parts.specs.Parts.{SharePart, PartsData, ArePartsOf}
use Rattle.split_parts.specs.Merged.{named, rows_of, potential_in, AreGoodParts, MergedIsSolution}
use Rattle.split_parts.proofs.Joining.{joined_once}
use Rattle.split_parts.proofs.Labelled.{upper_cases}
use Rattle.split_parts.proofs.Numbers.{option_cases, number_some, number_contains, contains_number}
use Rattle.split_parts.proofs.Partitions.{part_within}
use Rattle.split_parts.proofs.Summing.{sum_by_map, sum_by_zero, sum_by_two, sum_by_once}
use Rattle.split_parts.proofs.OwnFacts.{own_within, own_network_good, own_lower, own_upper}
use Rattle.split_parts.proofs.Together.{Fits, AreFit, fit_all, in_part, share_rows, IsAway, away_later, away_here, no_sold, no_bought, same_place, AreInside, named_sold, named_bought, part_of}
use Rattle.split_parts.proofs.Whole.{old_of, whole_sum}

pub fit_parts : (limits : LimitsData) (y : NetworkData) (parts : PartsData) (ss : List SolutionData) → IsProblem (record { limits = limits; network = y }) → ArePartsOf limits y parts → AreSolved parts.problems ss → AreFit limits y parts.members ss
fit_parts limits y parts ss problem are solved =
    let p = are.members in
    fit_all limits y parts.members ss p.each p.apart
    (λ k d l. subst (λ n. All (λ m. m < n) (get_or parts.members k d)) problem.same_members (part_within limits parts.members k (get_or parts.members k d) problem.limits p l (get_or_default parts.members k (get_or parts.members k d) d l)))
    (subst (λ ps. AreSolved ps ss) are.problems solved)

pub good_parts : (limits : LimitsData) (y : NetworkData) (parts : List (List ℕ)) (ss : List SolutionData) → AreFit limits y parts ss → AreGoodParts y.members parts ss
good_parts limits y [] [] fit = tt
good_parts limits y [] (s ∷ ss) fit = absurd fit
good_parts limits y (part ∷ parts) [] fit = absurd fit
good_parts limits y (part ∷ parts) (s ∷ ss) fit = (record { rising = fit.0.rising; within = fit.0.within; size = fit.0.solved.solves.certified.admissible.new_members }, good_parts limits y parts ss fit.2)

-- net positions
swapped : (a b c d : ℕ) → (pos a -ℤ pos b) ≡ (pos c -ℤ pos d) → a + d ≡ c + b
swapped a b c d e = omega (arith, ints, e)

back_swapped : (a b c d : ℕ) → a + d ≡ c + b → (pos a -ℤ pos b) ≡ (pos c -ℤ pos d)
back_swapped a b c d e = omega (arith, ints, e)

own_inside : (limits : LimitsData) (y : NetworkData) (part : List ℕ) (s : SolutionData) → IsNetwork y → Fits limits y part s → AreInside part (own_network y part).rows
own_inside limits y part s good f k d l = let r = (own_network_good y part good f.rising f.within).rows.good k d l in (r.seller, r.buyer)

net_head : (limits : LimitsData) (y : NetworkData) (part : List ℕ) (s : SolutionData) → IsNetwork y → Fits limits y part s → (i : ℕ) → (number_in part i ≡ None) ⊎ ((q : ℕ) × (number_in part i ≡ Some q)) →
    sold_in (map (named part) s.network.rows) i + bought_in (map (named part) (own_network y part).rows) i ≡ sold_in (map (named part) (own_network y part).rows) i + bought_in (map (named part) s.network.rows) i
net_head limits y part s good f i (inl e) =
    let out : Contains part i → ⊥ = λ c. let q = contains_number part i f.rising c in none_is (sym e ∙ q.1) in
    let own : SolutionData = old_of y part in
    let away = away_here limits y part s f i out in
    let away' = away_own out in
    omega (arith, no_sold i (map (named part) s.network.rows) away, no_bought i (map (named part) s.network.rows) away, no_sold i (map (named part) (own_network y part).rows) away', no_bought i (map (named part) (own_network y part).rows) away')
  where
    none_is : {q : ℕ} → None ≡ Some q → ⊥
    none_is h = let g = h in cc

    away_own : (Contains part i → ⊥) → All (IsAway i) (map (named part) (own_network y part).rows)
    away_own out =
        All-map (IsAway i) (named part) (own_network y part).rows (λ k d l.
        let h = own_inside limits y part s good f k d l in
        let r = get_or (own_network y part).rows k d in
        ((λ e'. out (r.seller, h.0, get_or_default part r.seller i 0 h.0 ∙ e')), (λ e'. out (r.buyer, h.1, get_or_default part r.buyer i 0 h.1 ∙ e'))))
net_head limits y part s good f i (inr q) =
    let n = number_some part i q.0 q.1 in
    subst (λ m. sold_in (map (named part) s.network.rows) m + bought_in (map (named part) (own_network y part).rows) m ≡ sold_in (map (named part) (own_network y part).rows) m + bought_in (map (named part) s.network.rows) m) n.1
    (omega (
      arith,
      named_sold part s.network.rows f.rising (in_part limits y part s f) q.0 n.0,
      named_bought part s.network.rows f.rising (in_part limits y part s f) q.0 n.0,
      named_sold part (own_network y part).rows f.rising (own_inside limits y part s good f) q.0 n.0,
      named_bought part (own_network y part).rows f.rising (own_inside limits y part s good f) q.0 n.0,
      swapped (sold_in s.network.rows q.0) (bought_in s.network.rows q.0) (sold_in (own_network y part).rows q.0) (bought_in (own_network y part).rows q.0) (f.solved.solves.certified.admissible.nets q.0 n.0),
    ))

nets_all : (limits : LimitsData) (y : NetworkData) (parts : List (List ℕ)) (ss : List SolutionData) → IsNetwork y → AreFit limits y parts ss → (i : ℕ) →
    sold_in (rows_of parts ss) i + bought_in (rows_of parts (map (old_of y) parts)) i ≡ sold_in (rows_of parts (map (old_of y) parts)) i + bought_in (rows_of parts ss) i
nets_all limits y [] [] good fit i = refl
nets_all limits y [] (s ∷ ss) good fit i = absurd fit
nets_all limits y (part ∷ parts) [] good fit i = absurd fit
nets_all limits y (part ∷ parts) (s ∷ ss) good fit i =
    omega (
      arith,
      net_head limits y part s good fit.0 i (option_cases (number_in part i)),
      nets_all limits y parts ss good fit.2 i,
      sum_by-append (sold_part i) (map (named part) s.network.rows) (rows_of parts ss),
      sum_by-append (bought_part i) (map (named part) s.network.rows) (rows_of parts ss),
      sum_by-append (sold_part i) (map (named part) (own_network y part).rows) (rows_of parts (map (old_of y) parts)),
      sum_by-append (bought_part i) (map (named part) (own_network y part).rows) (rows_of parts (map (old_of y) parts)),
    )

-- the gross of a part does not rise
gross_head : (limits : LimitsData) (y : NetworkData) (part : List ℕ) (s : SolutionData) → IsNetwork y → IsWithinLimits limits y → Fits limits y part s → total s.network.rows ≤ total (own_network y part).rows
gross_head limits y part s good within f =
    let c = f.solved.solves.certified in
    let fits = f.solved.fits.network.rows.good in
    (certified_is_least (own_limits limits part) (own_network y part) s.network s.potentials (λ k d l. (let r = fits k d l in (r.seller, r.buyer))) c).least (own_network y part) (own_inside limits y part s good f)
    (record { limit_members = refl; new_members = refl; within = own_within limits y part within f.rising f.within; nets = λ i l. refl })

total_named : (part : List ℕ) (rows : List Row) → total (map (named part) rows) ≡ total rows
total_named part rows = sum_by_map (λ (r : Row). r.amount) (named part) rows

gross_all : (limits : LimitsData) (y : NetworkData) (parts : List (List ℕ)) (ss : List SolutionData) → IsNetwork y → IsWithinLimits limits y → AreFit limits y parts ss → total (rows_of parts ss) ≤ total (rows_of parts (map (old_of y) parts))
gross_all limits y [] [] good within fit = omega arith
gross_all limits y [] (s ∷ ss) good within fit = absurd fit
gross_all limits y (part ∷ parts) [] good within fit = absurd fit
gross_all limits y (part ∷ parts) (s ∷ ss) good within fit =
    omega (
      arith,
      gross_head limits y part s good within fit.0,
      gross_all limits y parts ss good within fit.2,
      total_named part s.network.rows,
      total_named part (own_network y part).rows,
      sum_by-append (λ (r : Row). r.amount) (map (named part) s.network.rows) (rows_of parts ss),
      sum_by-append (λ (r : Row). r.amount) (map (named part) (own_network y part).rows) (rows_of parts (map (old_of y) parts)),
    )

same_all : (limits : LimitsData) (y : NetworkData) (parts : List (List ℕ)) (ss : List SolutionData) → IsNetwork y → IsWithinLimits limits y → AreFit limits y parts ss → total (rows_of parts ss) ≡ total (rows_of parts (map (old_of y) parts)) → rows_of parts ss ≡ rows_of parts (map (old_of y) parts)
same_all limits y [] [] good within fit e = refl
same_all limits y [] (s ∷ ss) good within fit e = absurd fit
same_all limits y (part ∷ parts) [] good within fit e = absurd fit
same_all limits y (part ∷ parts) (s ∷ ss) good within fit e =
    let a = gross_head limits y part s good within fit.0 in
    let b = gross_all limits y parts ss good within fit.2 in
    let x = total_named part s.network.rows in
    let z = total_named part (own_network y part).rows in
    let u = sum_by-append (λ (r : Row). r.amount) (map (named part) s.network.rows) (rows_of parts ss) in
    let v = sum_by-append (λ (r : Row). r.amount) (map (named part) (own_network y part).rows) (rows_of parts (map (old_of y) parts)) in
    let head : total s.network.rows ≡ total (own_network y part).rows = omega arith in
    let tail : total (rows_of parts ss) ≡ total (rows_of parts (map (old_of y) parts)) = omega arith in
    let is : s.network ≡ own_network y part = fit.0.solved.solves.same_gross head in
    let first : map (named part) s.network.rows ≡ map (named part) (own_network y part).rows = ap (λ (n : NetworkData). map (named part) n.rows) is in
    let rest = same_all limits y parts ss good within fit.2 tail in
    ap (λ (xs : List Row). xs ++ rows_of parts ss) first ∙ ap (λ (xs : List Row). map (named part) (own_network y part).rows ++ xs) rest

-- each row is one of a network
good_rows : (limits : LimitsData) (y : NetworkData) (parts : List (List ℕ)) (ss : List SolutionData) → AreFit limits y parts ss → All (IsGoodRow y.members) (rows_of parts ss)
good_rows limits y [] [] fit = All-nil (IsGoodRow y.members)
good_rows limits y [] (s ∷ ss) fit = absurd fit
good_rows limits y (part ∷ parts) [] fit = absurd fit
good_rows limits y (part ∷ parts) (s ∷ ss) fit =
    All-append (IsGoodRow y.members) (map (named part) s.network.rows) (rows_of parts ss)
    (All-map (IsGoodRow y.members) (named part) s.network.rows (λ k d l.
    let h = in_part limits y part s fit.0 k d l in
    let r = fit.0.solved.fits.network.rows.good k d l in
    record { seller = fit.0.within _ 0 h.0; buyer = fit.0.within _ 0 h.1; different = λ e. r.different (same_place part _ _ fit.0.rising h.0 h.1 e); positive = r.positive }))
    (good_rows limits y parts ss fit.2)

-- no two rows are of one pair
pairs_append : (R : Row → Row → Type 0) (xs ys : List Row) → AllPairs R xs → AllPairs R ys → All (λ x. All (R x) ys) xs → AllPairs R (xs ++ ys)
pairs_append R [] ys a b cross = b
pairs_append R (x ∷ xs) ys a b cross =
    AllPairs-cons R x (xs ++ ys) (All-append (R x) xs ys (λ k d l. a 0 (suc k) d (omega arith) (omega arith)) (All-head (λ z. All (R z) ys) x xs cross))
    (pairs_append R xs ys (λ i j d lt l. a (suc i) (suc j) d (omega arith) (omega arith)) b (All-tail (λ z. All (R z) ys) x xs cross))

pairs_map : (f : Row → Row) (P : Row → Type 0) (R S : Row → Row → Type 0) → ((x z : Row) → P x → P z → R x z → S (f x) (f z)) → (xs : List Row) → All P xs → AllPairs R xs → AllPairs S (map f xs)
pairs_map f P R S step [] h r = λ i j d lt l. absurd (omega arith)
pairs_map f P R S step (x ∷ xs) h r =
    AllPairs-cons S (f x) (map f xs) (All-map (S (f x)) f xs (λ k d l. step x (get_or xs k d) (All-head P x xs h) (All-tail P x xs h k d l) (r 0 (suc k) d (omega arith) (omega arith))))
    (pairs_map f P R S step xs (All-tail P x xs h) (λ i j d lt l. r (suc i) (suc j) d (omega arith) (omega arith)))

same_seller : (n : ℕ) (x z : Row) → n ≤ 256 → x.buyer < n → z.buyer < n → place x ≡ place z → (x.seller ≡ z.seller) × (x.buyer ≡ z.buyer)
same_seller n x z few a b e = (omega arith, omega arith)

distinct_rows : (limits : LimitsData) (y : NetworkData) (parts : List (List ℕ)) (ss : List SolutionData) → y.members ≤ 256 → AreFit limits y parts ss → AllPairs (λ x z. place x ≢ place z) (rows_of parts ss)
distinct_rows limits y [] [] few fit = λ i j d lt l. absurd (omega arith)
distinct_rows limits y [] (s ∷ ss) few fit = absurd fit
distinct_rows limits y (part ∷ parts) [] few fit = absurd fit
distinct_rows limits y (part ∷ parts) (s ∷ ss) few fit =
    let f = fit.0 in
    pairs_append (λ x z. place x ≢ place z) (map (named part) s.network.rows) (rows_of parts ss)
    (pairs_map (named part) (λ r. (r.seller < length part) × (r.buyer < length part)) (λ x z. place x < place z) (λ x z. place x ≢ place z)
    (λ x z a b lt e.
    let both = same_seller y.members (named part x) (named part z) few (f.within x.buyer 0 a.1) (f.within z.buyer 0 b.1) e in
    let p = same_place part x.seller z.seller f.rising a.0 b.0 both.0 in
    let q = same_place part x.buyer z.buyer f.rising a.1 b.1 both.1 in
    omega arith) s.network.rows (in_part limits y part s f) f.solved.fits.network.rows.rising)
    (distinct_rows limits y parts ss few fit.2)
    (All-map (λ x. All (λ z. place x ≢ place z) (rows_of parts ss)) (named part) s.network.rows (λ k d l.
    let r = get_or s.network.rows k d in
    let h = in_part limits y part s f k d l in
    let here : Contains part (named part r).seller = (r.seller, h.0, get_or_default part r.seller (get_or part r.seller 0) 0 h.0) in
    λ k' d' l' e.
    let z = good_rows limits y parts ss fit.2 k' d' l' in
    let both = same_seller y.members (named part r) (get_or (rows_of parts ss) k' d') few (f.within r.buyer 0 h.1) z.buyer e in
    (away_later limits y part parts ss fit.1 fit.2 (named part r).seller here k' d' l').0 (sym both.0)))

abbrev one_if_at : ℕ → Row → ℕ
one_if_at w r = cond (eqb (place r) w) 1 0

one_if_yes : (w : ℕ) (r : Row) → place r ≡ w → one_if_at w r ≡ 1
one_if_yes w r e = ap (λ b. cond b 1 0) (eq-eqb (place r) w e)

one_if_no : (w : ℕ) (r : Row) → place r ≢ w → one_if_at w r ≡ 0
one_if_no w r n = ap (λ b. cond b 1 0) (ne_eqb (place r) w n)

one_if_most : (w : ℕ) (r : Row) → one_if_at w r ≤ 1
one_if_most w r = ⊎_elim (λ (e : place r ≡ w). let q = one_if_yes w r e in omega arith) (λ (n : place r ≢ w). let q = one_if_no w r n in omega arith) (cases_eq (place r) w)

one_if_is : (w : ℕ) (r : Row) → one_if_at w r ≡ 1 → place r ≡ w
one_if_is w r h = ⊎_elim (λ (e : place r ≡ w). e) (λ (n : place r ≢ w). absurd (let q = one_if_no w r n in omega arith)) (cases_eq (place r) w)

rising_rows : (xs rows : List Row) → AllPairs (λ x z. place x ≢ place z) xs → IsPermutation xs rows → IsNonDecreasingBy place rows → AllPairs (λ x z. place x < place z) rows
rising_rows xs rows distinct perm sorted i j d lt l =
    let a = get_or rows i d in
    let b = get_or rows j d in
    let w = place b in
    ⊎_elim (λ (h : place a < w). h)
    (λ (h : w ≤ place a).
    let up = sorted i j d (omega arith) l in
    let same : place a ≡ w = omega arith in
    let once = sum_by_once (one_if_at w) xs (one_if_most w) (λ p q e lt' l' x z. distinct p q e lt' l' (one_if_is w (get_or xs p e) x ∙ sym (one_if_is w (get_or xs q e) z))) in
    let sums = sum_by-IsPermutation (one_if_at w) xs rows perm in
    let one = one_if_yes w a same in
    let other = one_if_yes w b refl in
    let two = sum_by_two (one_if_at w) rows i j d lt l (omega arith) (omega arith) in
    absurd (omega arith))
    (cases_lt (place a) w)

pub merged_good : (limits : LimitsData) (y : NetworkData) (parts : PartsData) (ss : List SolutionData) (rows : List Row) → IsProblem (record { limits = limits; network = y }) → ArePartsOf limits y parts → AreSolved parts.problems ss → IsPermutation (rows_of parts.members ss) rows → IsNonDecreasingBy place rows → IsNetwork (record { members = y.members; rows = rows })
merged_good limits y parts ss rows problem are solved perm sorted =
    let fit = fit_parts limits y parts ss problem are solved in
    let ps = parts.members in
    let whole = whole_sum limits y ps problem.same_members problem.network problem.within are.members (λ (r : Row). r.amount) in
    let less = gross_all limits y ps ss problem.network problem.within fit in
    let sums = sum_by-IsPermutation (λ (r : Row). r.amount) (rows_of ps ss) rows perm in
    let most = problem.network.rows.within in
    record {
      few = problem.network.few;
      rows = record {
        good = All-permutation (IsGoodRow y.members) (rows_of ps ss) rows perm (good_rows limits y ps ss fit);
        rising = rising_rows (rows_of ps ss) rows (distinct_rows limits y ps ss problem.network.few fit) perm sorted;
        within = omega arith;
      };
    }

-- rising rows with the same sums are the same
abbrev amount_if_at : ℕ → Row → ℕ
amount_if_at w r = cond (eqb (place r) w) r.amount 0

amount_if_yes : (w : ℕ) (r : Row) → place r ≡ w → amount_if_at w r ≡ r.amount
amount_if_yes w r e = ap (λ b. cond b r.amount 0) (eq-eqb (place r) w e)

amount_if_no : (w : ℕ) (r : Row) → place r ≢ w → amount_if_at w r ≡ 0
amount_if_no w r n = ap (λ b. cond b r.amount 0) (ne_eqb (place r) w n)

-- the first row's place is not past that of a list with the same sums
not_past : (x z : Row) (xs zs : List Row) → All (λ r. place z < place r) zs → sum_by (one_if_at (place x)) (x ∷ xs) ≡ sum_by (one_if_at (place x)) (z ∷ zs) → place x < place z → ⊥
not_past x z xs zs after e lt =
    let one = one_if_yes (place x) x refl in
    let none = one_if_no (place x) z (λ q. omega arith) in
    let rest = sum_by_zero (one_if_at (place x)) zs (λ k d l. one_if_no (place x) (get_or zs k d) (λ q. let a = after k d l in omega arith)) in
    omega (arith, sum_by-cons (one_if_at (place x)) x xs, sum_by-cons (one_if_at (place x)) z zs)

after_first : (x : Row) (xs : List Row) → AllPairs (λ a b. place a < place b) (x ∷ xs) → All (λ r. place x < place r) xs
after_first x xs rising k d l = rising 0 (suc k) d (omega arith) (omega arith)

after_rest : (x : Row) (xs : List Row) → AllPairs (λ a b. place a < place b) (x ∷ xs) → AllPairs (λ a b. place a < place b) xs
after_rest x xs rising i j d lt l = rising (suc i) (suc j) d (omega arith) (omega arith)

first_amount : (x : Row) (xs : List Row) (w : ℕ) → place x ≡ w → All (λ r. place x < place r) xs → sum_by (amount_if_at w) (x ∷ xs) ≡ x.amount
first_amount x xs w e after =
    let here = amount_if_yes w x e in
    let rest = sum_by_zero (amount_if_at w) xs (λ k d l. amount_if_no w (get_or xs k d) (λ q. let a = after k d l in omega arith)) in
    omega (arith, sum_by-cons (amount_if_at w) x xs)

same_rows : (n : ℕ) (xs zs : List Row) → n ≤ 256 → All (IsGoodRow n) xs → All (IsGoodRow n) zs → AllPairs (λ a b. place a < place b) xs → AllPairs (λ a b. place a < place b) zs → ((g : Row → ℕ) → sum_by g xs ≡ sum_by g zs) → xs ≡ zs
same_rows n [] [] few gx gz rx rz sums = refl
same_rows n [] (z ∷ zs) few gx gz rx rz sums = absurd (let e = sums (λ r. 1) in omega (arith, sum_by-cons (λ (r : Row). 1) z zs))
same_rows n (x ∷ xs) [] few gx gz rx rz sums = absurd (let e = sums (λ r. 1) in omega (arith, sum_by-cons (λ (r : Row). 1) x xs))
same_rows n (x ∷ xs) (z ∷ zs) few gx gz rx rz sums =
    let ax = after_first x xs rx in
    let az = after_first z zs rz in
    let up : place x < place z → ⊥ = not_past x z xs zs az (sums (one_if_at (place x))) in
    let down : place z < place x → ⊥ = not_past z x zs xs ax (sym (sums (one_if_at (place z)))) in
    let at : place x ≡ place z = level (place x) (place z) up down (cases_lt (place x) (place z)) in
    let both = same_seller n x z few (All-head (IsGoodRow n) x xs gx).buyer (All-head (IsGoodRow n) z zs gz).buyer at in
    let amounts : x.amount ≡ z.amount = sym (first_amount x xs (place z) at ax) ∙ sums (amount_if_at (place z)) ∙ first_amount z zs (place z) refl az in
    let is : x ≡ z = λ i. record { seller = both.0 i; buyer = both.1 i; amount = amounts i } in
    let rest = same_rows n xs zs few (All-tail (IsGoodRow n) x xs gx) (All-tail (IsGoodRow n) z zs gz) (after_rest x xs rx) (after_rest z zs rz) (λ g. let e = sums g in let h = ap g is in omega (arith, sum_by-cons g x xs, sum_by-cons g z zs)) in
    λ i. is i ∷ rest i
  where
    level : (p q : ℕ) → (p < q → ⊥) → (q < p → ⊥) → (p < q) ⊎ (q ≤ p) → p ≡ q
    level p q up down (inl h) = absurd (up h)
    level p q up down (inr h) = ⊎_elim (λ (e : p ≡ q). e) (λ (ne : p ≢ q). absurd (down (omega arith))) (cases_eq p q)

-- two members of a part, or of none
record ShareAt (parts : List (List ℕ)) (i j : ℕ) : Type 0 where
  k : ℕ
  part : List ℕ
  here : k < length parts
  is : get_or parts k part ≡ part
  a : ℕ
  b : ℕ
  la : a < length part
  lb : b < length part
  ia : get_or part a 0 ≡ i
  jb : get_or part b 0 ≡ j

share_at : (parts : List (List ℕ)) (i j : ℕ) → SharePart parts i j → ShareAt parts i j
share_at parts i j h = record {
  k = h.0;
  part = h.1;
  here = h.2;
  is = h.3;
  a = h.4.0.0;
  b = h.4.1.0;
  la = h.4.0.1;
  lb = h.4.1.1;
  ia = get_or_default h.1 h.4.0.0 0 i h.4.0.1 ∙ h.4.0.2;
  jb = get_or_default h.1 h.4.1.0 0 j h.4.1.1 ∙ h.4.1.2;
}

-- an amount is between members of one part
amount_shared : (limits : LimitsData) (y : NetworkData) (parts : List (List ℕ)) (ss : List SolutionData) → AreFit limits y parts ss → (i j : ℕ) → (SharePart parts i j → ⊥) → amount_in (rows_of parts ss) i j ≡ 0
amount_shared limits y parts ss fit i j none = sum_by_zero (pair_part i j) (rows_of parts ss) (λ k d l. other (get_or (rows_of parts ss) k d) (share_rows limits y parts ss fit k d l))
  where
    other : (r : Row) → SharePart parts r.seller r.buyer → pair_part i j r ≡ 0
    other r share =
        ⊎_elim (λ (e : r.seller ≡ i).
        ⊎_elim (λ (f : r.buyer ≡ j). absurd (none (subst (λ n. SharePart parts i n) f (subst (λ n. SharePart parts n r.buyer) e share))))
        (λ (n : r.buyer ≢ j). pair_part-other_buyer i j r n) (cases_eq r.buyer j))
        (λ (n : r.seller ≢ i). pair_part-seller i j r (λ q. n (sym q)))
        (cases_eq r.seller i)

share_cases : (limits : LimitsData) (y : NetworkData) (parts : List (List ℕ)) (ss : List SolutionData) → AreFit limits y parts ss → (i j : ℕ) → SharePart parts i j ⊎ (SharePart parts i j → ⊥)
share_cases limits y [] ss fit i j = inr (λ h. let l = h.2 in omega arith)
share_cases limits y (part ∷ parts) [] fit i j = absurd fit
share_cases limits y (part ∷ parts) (s ∷ ss) fit i j = by_cases (share_cases limits y parts ss fit.2 i j) (option_cases (number_in part i)) (option_cases (number_in part j))
  where
    later : SharePart parts i j → SharePart (part ∷ parts) i j
    later h = (suc h.0, h.1, (let l = h.2 in omega arith), h.3, h.4)

    out : (m : ℕ) → number_in part m ≡ None → Contains part m → ⊥
    out m e c = let q = contains_number part m fit.0.rising c in let f = sym e ∙ q.1 in none_is f
      where
        none_is : {q : ℕ} → None ≡ Some q → ⊥
        none_is h = let g = h in cc

    earlier : (SharePart parts i j → ⊥) → (Contains part i → Contains part j → ⊥) → SharePart (part ∷ parts) i j → ⊥
    earlier never here h = split_at h.0 h.1 h.2 h.3 h.4
      where
        split_at : (k : ℕ) (p : List ℕ) → k < length (part ∷ parts) → get_or (part ∷ parts) k p ≡ p → Contains p i × Contains p j → ⊥
        split_at zero p l is c = here (subst (λ x. Contains x i) (sym is) c.0) (subst (λ x. Contains x j) (sym is) c.1)
        split_at (suc k) p l is c = never (k, p, omega arith, is, c)

    by_cases : SharePart parts i j ⊎ (SharePart parts i j → ⊥) → (number_in part i ≡ None) ⊎ ((q : ℕ) × (number_in part i ≡ Some q)) → (number_in part j ≡ None) ⊎ ((q : ℕ) × (number_in part j ≡ Some q)) → SharePart (part ∷ parts) i j ⊎ (SharePart (part ∷ parts) i j → ⊥)
    by_cases (inl h) a b = inl (later h)
    by_cases (inr h) (inl e) b = inr (earlier h (λ c d. out i e c))
    by_cases (inr h) (inr a) (inl e) = inr (earlier h (λ c d. out j e d))
    by_cases (inr h) (inr a) (inr b) = inl (0, part, omega arith, refl, (number_contains part i a.0 a.1, number_contains part j b.0 b.1))

-- what a pair of the merged network is
record PairFacts (limits : LimitsData) (y merged : NetworkData) (p : List ℤ) (i j : ℕ) : Type 0 where
  above : lower limits i j ≤ at merged i j
  below : IsWithin (at merged i j) (upper limits i j)
  growing : IsBelow (at merged i j) (upper limits i j) → pos 0 ≤ℤ reduced p i j
  falling : lower limits i j < at merged i j → reduced p i j ≤ℤ pos 0

pub merged_solves : MergedIsSolution
merged_solves limits y parts ss merged problem are solved fits is =
    record {
      certified = record {
        admissible = record {
          limit_members = problem.same_members;
          new_members = is.size;
          within = record {
            above = λ i j li lj. (pair i j (subst (λ n. i < n) is.size li) (subst (λ n. j < n) is.size lj)).above;
            below = λ i j li lj. (pair i j (subst (λ n. i < n) is.size li) (subst (λ n. j < n) is.size lj)).below;
          };
          nets = λ i l.
              let sold = sum_by-IsPermutation (sold_part i) (rows_of ps ss) merged.network.rows is.rows in
              let bought = sum_by-IsPermutation (bought_part i) (rows_of ps ss) merged.network.rows is.rows in
              let old_sold = whole (sold_part i) in
              let old_bought = whole (bought_part i) in
              let nets = nets_all limits y ps ss problem.network fit i in
              back_swapped (sold_in merged.network.rows i) (bought_in merged.network.rows i) (sold_in y.rows i) (bought_in y.rows i) (omega arith);
        };
        growing = λ i j li lj. (pair i j li lj).growing;
        falling = λ i j li lj. (pair i j li lj).falling;
      };
      same_gross = λ e.
          let sums = sum_by-IsPermutation (λ (r : Row). r.amount) (rows_of ps ss) merged.network.rows is.rows in
          let all = whole (λ (r : Row). r.amount) in
          let same = same_all limits y ps ss problem.network problem.within fit (sym sums ∙ e ∙ sym all) in
          let rows : merged.network.rows ≡ y.rows =
          same_rows y.members merged.network.rows y.rows problem.network.few (subst (λ n. All (IsGoodRow n) merged.network.rows) is.size fits.network.rows.good) problem.network.rows.good fits.network.rows.rising problem.network.rows.rising
          (λ g. sum_by-IsPermutation g (rows_of ps ss) merged.network.rows is.rows ∙ ap (sum_by g) same ∙ whole g) in
          let size = is.size in
          λ i. record { members = size i; rows = rows i };
    }
  where
    ps : List (List ℕ)
    ps = parts.members

    fit : AreFit limits y ps ss
    fit = fit_parts limits y parts ss problem are solved

    whole : (g : Row → ℕ) → sum_by g (rows_of ps (map (old_of y) ps)) ≡ sum_by g y.rows
    whole g = whole_sum limits y ps problem.same_members problem.network problem.within are.members g

    amounts : (i j : ℕ) → at merged.network i j ≡ amount_in (rows_of ps ss) i j
    amounts i j = sum_by-IsPermutation (pair_part i j) (rows_of ps ss) merged.network.rows is.rows

    shared : (i j : ℕ) → i < y.members → j < y.members → ShareAt ps i j → PairFacts limits y merged.network merged.potentials i j
    shared i j li lj h =
        let p = part_of limits y ps ss fit h.k h.part h.here h.is in
        let c = p.fits.solved.solves.certified in
        let size : p.s.network.members ≡ length h.part = c.admissible.new_members in
        let la : h.a < p.s.network.members = subst (λ n. h.a < n) (sym size) h.la in
        let lb : h.b < p.s.network.members = subst (λ n. h.b < n) (sym size) h.lb in
        let amount : at merged.network i j ≡ at p.s.network h.a h.b =
        amounts i j ∙ ap (λ m. amount_in (rows_of ps ss) m j) (sym h.ia) ∙ ap (λ m. amount_in (rows_of ps ss) (get_or h.part h.a 0) m) (sym h.jb) ∙ p.amount h.a h.b h.la h.lb in
        let low : lower limits i j ≡ lower (own_limits limits h.part) h.a h.b = ap (λ m. lower limits m j) (sym h.ia) ∙ ap (lower limits (get_or h.part h.a 0)) (sym h.jb) ∙ sym (own_lower limits h.part p.fits.rising h.a h.b h.la h.lb) in
        let high : upper limits i j ≡ upper (own_limits limits h.part) h.a h.b = ap (λ m. upper limits m j) (sym h.ia) ∙ ap (upper limits (get_or h.part h.a 0)) (sym h.jb) ∙ sym (own_upper limits h.part p.fits.rising h.a h.b h.la h.lb) in
        let one : potential merged.potentials i ≡ potential p.s.potentials h.a = is.potentials i li ∙ ap (potential_in ps ss) (sym h.ia) ∙ p.price h.a h.la in
        let two : potential merged.potentials j ≡ potential p.s.potentials h.b = is.potentials j lj ∙ ap (potential_in ps ss) (sym h.jb) ∙ p.price h.b h.lb in
        let cost : reduced merged.potentials i j ≡ reduced p.s.potentials h.a h.b = omega (arith, ints, one, two) in
        record {
          above = (let a = c.admissible.within.above h.a h.b la lb in omega arith);
          below = subst (IsWithin (at merged.network i j)) (sym high) (subst (λ z. IsWithin z (upper (own_limits limits h.part) h.a h.b)) (sym amount) (c.admissible.within.below h.a h.b la lb));
          growing = λ b. subst (λ r. pos 0 ≤ℤ r) (sym cost) (c.growing h.a h.b h.la h.lb (subst (λ z. IsBelow z (upper (own_limits limits h.part) h.a h.b)) amount (subst (IsBelow (at merged.network i j)) high b)));
          falling = λ b. subst (λ r. r ≤ℤ pos 0) (sym cost) (c.falling h.a h.b h.la h.lb (omega arith));
        }

    closed : (i j : ℕ) → (SharePart ps i j → ⊥) → upper limits i j ≡ Some 0
    closed i j none = ⊎_elim (λ (e : upper limits i j ≡ Some 0). e) (λ (n : upper limits i j ≢ Some 0). absurd (none ((are.members.joined i j).1 (joined_once limits i j (inl n))))) (upper_cases (upper limits i j))

    apart : (i j : ℕ) → i < y.members → j < y.members → (SharePart ps i j → ⊥) → PairFacts limits y merged.network merged.potentials i j
    apart i j li lj none =
        let shut = closed i j none in
        let zero_ : at merged.network i j ≡ 0 = amounts i j ∙ amount_shared limits y ps ss fit i j none in
        let most : at y i j ≤ 0 = subst (IsWithin (at y i j)) shut (problem.within.below i j li lj) in
        let least = problem.within.above i j li lj in
        record {
          above = omega arith;
          below = subst (IsWithin (at merged.network i j)) (sym shut) (let h : at merged.network i j ≤ 0 = omega arith in h);
          growing = λ b. absurd (let h : at merged.network i j < 0 = subst (IsBelow (at merged.network i j)) shut b in omega arith);
          falling = λ b. absurd (omega arith);
        }

    pair : (i j : ℕ) → i < y.members → j < y.members → PairFacts limits y merged.network merged.potentials i j
    pair i j li lj = ⊎_elim (λ (h : SharePart ps i j). shared i j li lj (share_at ps i j h)) (λ (n : SharePart ps i j → ⊥). apart i j li lj n) (share_cases limits y ps ss fit i j)
