-- Weak duality for pairs within the same bounds: no amounts send out of a set of members that no arc with
-- room leaves more than the given ones do.
use Rattle.std.proofs.Common.{◌≡◌, ℕ, suc, ◌+◌, ◌<◌, ◌≤◌, Bool, true, false, cond, List, [], ◌∷◌, length, get_or, ℤ, pos, ◌+ℤ◌, ◌-ℤ◌, ◌*ℤ◌, neg_ℤ, ◌≤ℤ◌, refl, sym, ap, ◌∙◌, subst, arith, ◌⊎◌, ⊎_elim}
use Rattle.std.proofs.lemmas.Bool.{cases_order}
use Rattle.std.proofs.lemmas.Int.{ints}
use Rattle.std.proofs.lemmas.List.{get_or-map, length-map}
use Rattle.std.proofs.lemmas.List.Sums.{sum_by-cons}
use Rattle.std.proofs.Math.ListN.{get_or-map as any-get_or-map}
use Rattle.network_laws.specs.declared.rows.Row.{Row}
use Rattle.network_laws.specs.Networks.{total, AreInRange}
use Rattle.network_laws.specs.Limits.{int_sum_below, potential, reduced}
use Rattle.network_laws.proofs.Ring.{add_mul, neg_mul, one_mul, mul_mono, mul_anti}
use Rattle.network_laws.proofs.Sums.{int_sum_below-le, int_sum_below-same, int_sum_below-tight}
use Rattle.network_laws.proofs.RowSums.{priced, priced_by_nets}
use Rattle.residual_graph.specs.declared.flow.Flow.{Flow}
use Rattle.residual_graph.specs.Residual.{ResidualData, IsResidual, flow_row, flow_rows}
use Rattle.residual_graph.specs.Built.{flow_network}
use Rattle.residual_graph.specs.Arcs.{flow_at, no_flow}
use Rattle.path_solver.specs.Prices.{ArePrices, potentials}
use Rattle.path_solver.specs.Rests.{IsSamePair, AreSamePairs, IsFeasible, net_of}

-- where a price does not lose on what a pair can move, no other amount costs less
gap_le : (r : ℤ) (x z : Flow) → IsSamePair x z → (0 < x.room → pos 0 ≤ℤ r) → (0 < x.back → r ≤ℤ pos 0) → (r *ℤ pos (x.lower + x.back)) ≤ℤ (r *ℤ pos (z.lower + z.back))
gap_le r x z same grow fall =
    ⊎_elim (λ (e : x.back ≡ z.back). let same_amount : x.lower + x.back ≡ z.lower + z.back = omega (arith, same.lower) in let at = ap (λ m. r *ℤ pos m) same_amount in omega (arith, ints, at))
    (λ (ne : (x.back < z.back) ⊎ (z.back < x.back)). ⊎_elim
    (λ (l : x.back < z.back). mul_mono r (x.lower + x.back) (z.lower + z.back) (grow (omega (arith, same.most))) (omega (arith, same.lower)))
    (λ (l : z.back < x.back). mul_anti r (z.lower + z.back) (x.lower + x.back) (fall (omega arith)) (omega (arith, same.lower)))
    ne)
    (cases_order x.back z.back)

-- a price does not lose on what these pairs can move
abbrev pub IsFair : (ℕ → ℕ → ℤ) → List Flow → Type 0
IsFair f flows =
    (k : ℕ) → k < length flows → (0 < (flow_at flows k).room → pos 0 ≤ℤ f (flow_at flows k).seller (flow_at flows k).buyer) × (0 < (flow_at flows k).back → f (flow_at flows k).seller (flow_at flows k).buyer ≤ℤ pos 0)

same_tail : (x z : Flow) (xs zs : List Flow) → AreSamePairs (x ∷ xs) (z ∷ zs) → AreSamePairs xs zs
same_tail x z xs zs h = record { same_length = omega (arith, h.same_length); each = λ k l. h.each (suc k) (omega arith) }

pub priced_le : (f : ℕ → ℕ → ℤ) (xs zs : List Flow) → AreSamePairs xs zs → IsFair f xs → priced f (flow_rows xs) ≤ℤ priced f (flow_rows zs)
priced_le f [] [] same fair = omega (arith, ints)
priced_le f [] (z ∷ zs) same fair = absurd (omega (arith, same.same_length))
priced_le f (x ∷ xs) [] same fair = absurd (omega (arith, same.same_length))
priced_le f (x ∷ xs) (z ∷ zs) same fair =
    let first = same.each 0 (omega arith) in
    let here = fair 0 (omega arith) in
    let gap = gap_le (f x.seller x.buyer) x z first here.0 here.1 in
    let at_z : f z.seller z.buyer *ℤ pos (z.lower + z.back) ≡ f x.seller x.buyer *ℤ pos (z.lower + z.back) = ap (λ s. f s z.buyer *ℤ pos (z.lower + z.back)) first.seller ∙ ap (λ b. f x.seller b *ℤ pos (z.lower + z.back)) first.buyer in
    omega (arith, ints, gap, at_z, priced_le f xs zs (same_tail x z xs zs same) (λ k l. fair (suc k) (omega arith)))

priced_gap : (f : ℕ → ℤ) (rows : List Row) → priced (λ i j. f j -ℤ f i) rows +ℤ priced (λ i j. f i) rows ≡ priced (λ i j. f j) rows
priced_gap f [] = omega (arith, ints)
priced_gap f (row ∷ rows) =
    let a = f row.seller in
    let b = f row.buyer in
    let x = row.amount in
    let parts : (b -ℤ a) *ℤ pos x ≡ (b *ℤ pos x) -ℤ (a *ℤ pos x) = add_mul b (neg_ℤ a) (pos x) ∙ ap (λ z. (b *ℤ pos x) +ℤ z) (neg_mul a (pos x)) in
    omega (arith, ints, parts, priced_gap f rows)

pub rows_in : (r : ResidualData) → IsResidual r → AreInRange r.members (flow_rows r.flows)
rows_in r h k d l =
    let inside : k < length r.flows = omega (arith, length-map r.flows flow_row) in
    let good = h.good k no_flow inside in
    subst (λ (row : Row). (row.seller < r.members) × (row.buyer < r.members)) (sym (get_or-map flow_row r.flows k no_flow d inside)) (good.seller, good.buyer)

pub same_rows_in : (n : ℕ) (xs zs : List Flow) → AreSamePairs xs zs → AreInRange n (flow_rows xs) → AreInRange n (flow_rows zs)
same_rows_in n xs zs same h k d l =
    let in_z : k < length zs = omega (arith, length-map zs flow_row) in
    let in_x : k < length xs = omega (arith, same.same_length) in
    let pair = same.each k in_x in
    let row = h k d (omega (arith, length-map xs flow_row)) in
    let at_x = get_or-map flow_row xs k no_flow d in_x in
    let at_z = get_or-map flow_row zs k no_flow d in_z in
    let s = ap (λ (y : Row). y.seller) at_x in
    let b = ap (λ (y : Row). y.buyer) at_x in
    subst (λ (y : Row). (y.seller < n) × (y.buyer < n)) (sym at_z) (omega (arith, row.0, s, pair.seller), omega (arith, row.1, b, pair.buyer))

-- what members' nets are worth, at prices that do not gain where pairs can move
pub nets_le : (n : ℕ) (f : ℕ → ℤ) (xs zs : List Flow) → AreInRange n (flow_rows xs) → AreSamePairs xs zs → IsFair (λ i j. f j -ℤ f i) xs → int_sum_below n (λ i. f i *ℤ net_of zs i) ≤ℤ int_sum_below n (λ i. f i *ℤ net_of xs i)
nets_le n f xs zs in_x same fair =
    omega (
      arith,
      ints,
      priced_by_nets (flow_network n xs) n f in_x,
      priced_by_nets (flow_network n zs) n f (same_rows_in n xs zs same in_x),
      priced_gap f (flow_rows xs),
      priced_gap f (flow_rows zs),
      priced_le (λ i j. f j -ℤ f i) xs zs same fair,
    )

-- 1 for the members of a set
abbrev pub share_of : (ℕ → Bool) → ℕ → ℤ
share_of set i = cond (set i) (pos 1) (pos 0)

rises : (a b : Bool) → (a ≡ true → b ≡ true) → pos 0 ≤ℤ (cond b (pos 1) (pos 0) -ℤ cond a (pos 1) (pos 0))
rises true true h = omega (arith, ints)
rises true false h = absurd (let e : false ≡ true = h refl in cc)
rises false true h = omega (arith, ints)
rises false false h = omega (arith, ints)

falls : (a b : Bool) → (b ≡ true → a ≡ true) → (cond b (pos 1) (pos 0) -ℤ cond a (pos 1) (pos 0)) ≤ℤ pos 0
falls true true h = omega (arith, ints)
falls true false h = omega (arith, ints)
falls false true h = absurd (let e : false ≡ true = h refl in cc)
falls false false h = omega (arith, ints)

-- no arc with room leaves the set
abbrev pub IsClosedSet : (ℕ → Bool) → List Flow → Type 0
IsClosedSet set flows =
    (k : ℕ) → k < length flows → (0 < (flow_at flows k).room → set (flow_at flows k).seller ≡ true → set (flow_at flows k).buyer ≡ true) × (0 < (flow_at flows k).back → set (flow_at flows k).buyer ≡ true → set (flow_at flows k).seller ≡ true)

term_le : (b : Bool) (x z : ℤ) → (b ≡ true → x ≤ℤ z) → (cond b (pos 1) (pos 0) *ℤ x) ≤ℤ (cond b (pos 1) (pos 0) *ℤ z)
term_le true x z h = omega (arith, ints, one_mul x, one_mul z, h refl)
term_le false x z h = omega (arith, ints, zero_mul x, zero_mul z)
  where
    zero_mul : (a : ℤ) → pos 0 *ℤ a ≡ pos 0
    zero_mul a = let e = add_mul (pos 0) (pos 0) a in omega (arith, ints, e)

term_is : (b : Bool) (x z : ℤ) → b ≡ true → (cond b (pos 1) (pos 0) *ℤ x) ≡ (cond b (pos 1) (pos 0) *ℤ z) → x ≡ z
term_is true x z h e = sym (one_mul x) ∙ e ∙ one_mul z
term_is false x z h e = absurd cc

-- members that have to send are never cut off from those that have to receive
pub cut : (r : ResidualData) (surplus lack : List ℕ) (set : ℕ → Bool) → IsResidual r → IsFeasible r.flows surplus lack → IsClosedSet set r.flows → ((i : ℕ) → set i ≡ true → get_or lack i 0 ≡ 0) → (s : ℕ) → s < r.members → set s ≡ true → 0 < get_or surplus s 0 → ⊥
cut r surplus lack set residual feasible closed none s inside in_set sends =
    let n = r.members in
    let z = feasible.0 in
    let f = share_of set in
    let fair : IsFair (λ i j. share_of set j -ℤ share_of set i) r.flows =
    λ k l. ((λ h. rises (set (flow_at r.flows k).seller) (set (flow_at r.flows k).buyer) ((closed k l).0 h)), (λ h. falls (set (flow_at r.flows k).seller) (set (flow_at r.flows k).buyer) ((closed k l).1 h))) in
    let out = nets_le n f r.flows z (rows_in r residual) feasible.1 fair in
    let terms : (i : ℕ) → i < r.members → (share_of set i *ℤ net_of r.flows i) ≤ℤ (share_of set i *ℤ net_of feasible.0 i) =
    λ i l. term_le (set i) (net_of r.flows i) (net_of z i) (λ e. omega (arith, ints, feasible.2 i, none i e)) in
    let all = int_sum_below-le n (λ i. f i *ℤ net_of r.flows i) (λ i. f i *ℤ net_of z i) terms in
    let equal : int_sum_below r.members (λ i. share_of set i *ℤ net_of r.flows i) ≡ int_sum_below r.members (λ i. share_of set i *ℤ net_of feasible.0 i) = omega (arith, ints, out, all) in
    let at_s = int_sum_below-tight n (λ i. f i *ℤ net_of r.flows i) (λ i. f i *ℤ net_of z i) terms equal s inside in
    omega (arith, ints, term_is (set s) (net_of r.flows s) (net_of z s) in_set at_s, feasible.2 s, none s in_set, sends)

-- where nobody has to send, nobody has to receive
pub no_lack : (r : ResidualData) (surplus lack : List ℕ) → IsResidual r → IsFeasible r.flows surplus lack → ((i : ℕ) → get_or surplus i 0 ≡ 0) → (i : ℕ) → i < r.members → get_or lack i 0 ≡ 0
no_lack r surplus lack residual feasible none i inside =
    let n = r.members in
    let z = feasible.0 in
    let f = λ (j : ℕ). pos 1 in
    let in_x = rows_in r residual in
    let x_sum = priced_by_nets (flow_network n r.flows) n f in_x in
    let z_sum = priced_by_nets (flow_network n z) n f (same_rows_in n r.flows z feasible.1 in_x) in
    let terms : (j : ℕ) → j < r.members → (pos 1 *ℤ net_of feasible.0 j) ≤ℤ (pos 1 *ℤ net_of r.flows j) =
    λ j l. omega (arith, ints, one_mul (net_of z j), one_mul (net_of r.flows j), feasible.2 j, none j) in
    let equal : int_sum_below r.members (λ j. pos 1 *ℤ net_of feasible.0 j) ≡ int_sum_below r.members (λ j. pos 1 *ℤ net_of r.flows j) = omega (arith, ints, x_sum, z_sum) in
    let at_i = int_sum_below-tight n (λ j. pos 1 *ℤ net_of z j) (λ j. pos 1 *ℤ net_of r.flows j) terms equal i inside in
    omega (arith, ints, at_i, one_mul (net_of z i), one_mul (net_of r.flows i), feasible.2 i, none i)

pub potential_is : (p : List ℕ) (i : ℕ) → potential (potentials p) i ≡ pos (get_or p i 0)
potential_is p i = any-get_or-map pos p i 0

-- the gross is what the potentials take off, and what the reduced costs add
priced_gross : (p : List ℤ) (rows : List Row) → pos (total rows) +ℤ priced (λ i j. potential p j) rows ≡ priced (reduced p) rows +ℤ priced (λ i j. potential p i) rows
priced_gross p [] = omega (arith, ints)
priced_gross p (row ∷ rows) =
    let a = potential p row.seller in
    let b = potential p row.buyer in
    let x = row.amount in
    let parts : reduced p row.seller row.buyer *ℤ pos x ≡ ((pos 1 *ℤ pos x) -ℤ (a *ℤ pos x)) +ℤ (b *ℤ pos x) =
    add_mul (pos 1 -ℤ a) b (pos x) ∙ ap (λ z. z +ℤ (b *ℤ pos x)) (add_mul (pos 1) (neg_ℤ a) (pos x) ∙ ap (λ z. (pos 1 *ℤ pos x) +ℤ z) (neg_mul a (pos x))) in
    omega (arith, ints, parts, one_mul (pos x), priced_gross p rows, sum_by-cons (λ (r : Row). r.amount) row rows)

-- amounts with the same nets have no less gross than those that prices fit
pub gross_le : (n : ℕ) (p : List ℕ) (xs zs : List Flow) → AreInRange n (flow_rows xs) → AreSamePairs xs zs → ArePrices xs p → ((i : ℕ) → i < n → net_of zs i ≡ net_of xs i) → total (flow_rows xs) ≤ total (flow_rows zs)
gross_le n p xs zs in_x same priced nets =
    let q = potentials p in
    let fair : IsFair (reduced (potentials p)) xs =
    λ k l. let h = priced k l in
    ((λ room. omega (arith, ints, h.growing room, potential_is p (flow_at xs k).seller, potential_is p (flow_at xs k).buyer)), (λ back. omega (arith, ints, h.falling back, potential_is p (flow_at xs k).seller, potential_is p (flow_at xs k).buyer))) in
    let sums = int_sum_below-same n (λ i. potential q i *ℤ net_of zs i) (λ i. potential q i *ℤ net_of xs i) (λ i l. ap (λ x. potential q i *ℤ x) (nets i l)) in
    omega (
      arith,
      ints,
      priced_gross q (flow_rows xs),
      priced_gross q (flow_rows zs),
      priced_by_nets (flow_network n xs) n (potential q) in_x,
      priced_by_nets (flow_network n zs) n (potential q) (same_rows_in n xs zs same in_x),
      sums,
      priced_le (reduced q) xs zs same fair,
    )
