-- Where nothing limits the amounts, no member of a certified network both sells and buys.
use Rattle.std.proofs.Common.{◌≡◌, ◌≢◌, ℕ, zero, suc, ◌+◌, ◌-◌, ◌<◌, ◌≤◌, List, [], ◌∷◌, ℤ, refl, sym, ap, ◌∙◌, subst, arith, ⊎_elim}
use Rattle.std.proofs.lemmas.Bool.{cases_eq, cases_lt}
use Rattle.std.proofs.lemmas.Int.{ints}
use Rattle.std.proofs.lemmas.List.Elements.{All-head, All-tail}
use Rattle.std.proofs.lemmas.List.Sums.{sum_by-cons}
use Rattle.network_laws.specs.declared.rows.Row.{Row}
use Rattle.network_laws.specs.Networks.{NetworkData, at, amount_in, pair_part, sold_part, bought_part, sold_in, bought_in, sold, bought, total, sum_below, AreInRange}
use Rattle.network_laws.specs.Limits.{LimitsData, upper, IsCertified, potential}
use Rattle.network_laws.specs.Laws.{HasNoFloor, HasNoCeiling, FreeLimitsReachFloor}
use Rattle.network_laws.proofs.Duality.{none_is_below}
use Rattle.network_laws.proofs.Figures.{sum_below-same, sum_below-add, sum_below-only, sum_below-zeros, sum_below-none}
use Rattle.network_laws.proofs.RowSums.{pair_part-seller, pair_part-buyer, pair_part-is, sold_part-other, sold_part-same, bought_part-other, bought_part-same}

in_range_head : (n : ℕ) (row : Row) (rows : List Row) → AreInRange n (row ∷ rows) → (row.seller < n) × (row.buyer < n)
in_range_head n row rows h = All-head (λ (r : Row). (r.seller < n) × (r.buyer < n)) row rows h

in_range_tail : (n : ℕ) (row : Row) (rows : List Row) → AreInRange n (row ∷ rows) → AreInRange n rows
in_range_tail n row rows h = All-tail (λ (r : Row). (r.seller < n) × (r.buyer < n)) row rows h

-- what one row says that a member sold, over the buyers
part_sold : (n i : ℕ) (row : Row) → row.buyer < n → sum_below n (λ j. pair_part i j row) ≡ sold_part i row
part_sold n i row l =
    ⊎_elim (λ (e : i ≡ row.seller).
    sum_below-only n row.buyer (λ j. pair_part i j row) l (λ j _ ne. pair_part-buyer i j row e ne) ∙ pair_part-is i row.buyer row (sym e) refl ∙ sym (ap (λ k. sold_part k row) e ∙ sold_part-same row))
    (λ (ne : i ≢ row.seller). sum_below-none n (λ j. pair_part i j row) (λ j _. pair_part-seller i j row ne) ∙ sym (sold_part-other i row ne))
    (cases_eq i row.seller)

-- what one row says that a member bought, over the sellers
part_bought : (n j : ℕ) (row : Row) → row.seller < n → sum_below n (λ i. pair_part i j row) ≡ bought_part j row
part_bought n j row l =
    ⊎_elim (λ (e : j ≡ row.buyer).
    sum_below-only n row.seller (λ i. pair_part i j row) l (λ i _ ne. pair_part-seller i j row ne) ∙ pair_part-is row.seller j row refl (sym e) ∙ sym (ap (λ k. bought_part k row) e ∙ bought_part-same row))
    (λ (ne : j ≢ row.buyer). sum_below-none n (λ i. pair_part i j row) (λ i _. other i ne) ∙ sym (bought_part-other j row ne))
    (cases_eq j row.buyer)
  where
    other : (i : ℕ) → j ≢ row.buyer → pair_part i j row ≡ 0
    other i ne = ⊎_elim (λ (e : i ≡ row.seller). pair_part-buyer i j row e ne) (λ (n : i ≢ row.seller). pair_part-seller i j row n) (cases_eq i row.seller)

pub sold_by_pairs : (n i : ℕ) (rows : List Row) → AreInRange n rows → sold_in rows i ≡ sum_below n (amount_in rows i)
sold_by_pairs n i [] h = sym (sum_below-zeros n)
sold_by_pairs n i (row ∷ rows) h =
    omega (
      arith,
      sum_by-cons (sold_part i) row rows,
      sold_by_pairs n i rows (in_range_tail n row rows h),
      part_sold n i row (in_range_head n row rows h).1,
      sum_below-same n (amount_in (row ∷ rows) i) (λ j. pair_part i j row + amount_in rows i j) (λ j _. sum_by-cons (pair_part i j) row rows),
      sum_below-add n (λ j. pair_part i j row) (amount_in rows i),
    )

pub bought_by_pairs : (n j : ℕ) (rows : List Row) → AreInRange n rows → bought_in rows j ≡ sum_below n (λ i. amount_in rows i j)
bought_by_pairs n j [] h = sym (sum_below-zeros n)
bought_by_pairs n j (row ∷ rows) h =
    omega (
      arith,
      sum_by-cons (bought_part j) row rows,
      bought_by_pairs n j rows (in_range_tail n row rows h),
      part_bought n j row (in_range_head n row rows h).0,
      sum_below-same n (λ i. amount_in (row ∷ rows) i j) (λ i. pair_part i j row + amount_in rows i j) (λ i _. sum_by-cons (pair_part i j) row rows),
      sum_below-add n (λ i. pair_part i j row) (λ i. amount_in rows i j),
    )

-- the members sold the gross
pub all_sold : (n : ℕ) (rows : List Row) → AreInRange n rows → sum_below n (sold_in rows) ≡ total rows
all_sold n [] h = sum_below-zeros n
all_sold n (row ∷ rows) h =
    omega (
      arith,
      sum_by-cons (λ (r : Row). r.amount) row rows,
      all_sold n rows (in_range_tail n row rows h),
      sum_below-only n row.seller (λ i. sold_part i row) (in_range_head n row rows h).0 (λ i _ ne. sold_part-other i row ne),
      sold_part-same row,
      sum_below-same n (sold_in (row ∷ rows)) (λ i. sold_part i row + sold_in rows i) (λ i _. sum_by-cons (sold_part i) row rows),
      sum_below-add n (λ i. sold_part i row) (sold_in rows),
    )

-- a sum above 0 has a term above 0
positive_term : (n : ℕ) (f : ℕ → ℕ) → 0 < sum_below n f → (i : ℕ) × (i < n) × (0 < f i)
positive_term zero f h = absurd (omega arith)
positive_term (suc n) f h =
    ⊎_elim (λ (l : 0 < f n). (n, omega arith, l))
    (λ (z : f n ≤ 0). let rest = positive_term n f (omega arith) in (rest.0, omega (arith, rest.1), rest.2))
    (cases_lt 0 (f n))

-- k sells to i, and i to j
not_through : (limits : LimitsData) (old new : NetworkData) (p : List ℤ) → HasNoFloor limits → HasNoCeiling limits → IsCertified limits old new p → (k i j : ℕ) → k < old.members → i < old.members → j < old.members → 0 < at new k i → 0 < at new i j → ⊥
not_through limits old new p floor ceiling c k i j in_k in_i in_j first second =
    let m = c.admissible.limit_members in
    let before = c.falling k i in_k in_i (omega (arith, floor k i (omega (arith, m)) (omega (arith, m)), first)) in
    let after = c.falling i j in_i in_j (omega (arith, floor i j (omega (arith, m)) (omega (arith, m)), second)) in
    ⊎_elim (λ (e : k ≡ j). omega (arith, ints, before, after, ap (potential p) e))
    (λ (ne : k ≢ j).
    let free = c.growing k j in_k in_j (none_is_below (at new k j) (upper limits k j) (ceiling k j (omega (arith, m)) (omega (arith, m)) ne)) in
    omega (arith, ints, before, after, free))
    (cases_eq k j)

pub free_limits_reach_floor : FreeLimitsReachFloor
free_limits_reach_floor limits old new p in_range floor ceiling c =
    let n = old.members in
    let in_old : AreInRange n new.rows = subst (λ m. AreInRange m new.rows) c.admissible.new_members in_range in
    sym (all_sold n new.rows in_old) ∙ sum_below-same n (sold new) (λ i. sold old i - bought old i) (one_way in_old)
  where
    one_way : AreInRange old.members new.rows → (i : ℕ) → i < old.members → sold new i ≡ sold old i - bought old i
    one_way in_old i in_i =
        let same = c.admissible.nets i in_i in
        ⊎_elim (λ (b : 0 < bought new i).
        let from = positive_term old.members (λ k. at new k i) (omega (arith, bought_by_pairs old.members i new.rows in_old)) in
        ⊎_elim (λ (s : 0 < sold new i).
        let to = positive_term old.members (at new i) (omega (arith, sold_by_pairs old.members i new.rows in_old)) in
        absurd (not_through limits old new p floor ceiling c from.0 i to.0 from.1 in_i to.1 from.2 to.2))
        (λ (s : sold new i ≤ 0). omega (arith, ints, same))
        (cases_lt 0 (sold new i)))
        (λ (b : bought new i ≤ 0). omega (arith, ints, same))
        (cases_lt 0 (bought new i))
