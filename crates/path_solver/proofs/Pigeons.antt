-- Each price below the most is some member's, so there are fewer than members.
use Rattle.std.proofs.Common.{◌≡◌, ◌≢◌, ℕ, zero, suc, ◌+◌, ◌<◌, ◌≤◌, true, cond, ltb, List, [], ◌∷◌, length, get_or, sum_by, sym, ◌∙◌, arith, inl, inr, ◌⊎◌, ⊎_elim}
use Rattle.std.proofs.lemmas.Bool.{cases_eq, cases_lt, lt-ltb, le-ltb, ltb-true, cond-true, cond-false}
use Rattle.std.proofs.lemmas.List.Sums.{sum_by-cons, sum_by-le-sum_by, count_by-le-length}
use Rattle.residual_graph.specs.Residual.{ResidualData, IsResidual}
use Rattle.residual_graph.specs.Arcs.{flow_at, no_flow}
use Rattle.path_solver.specs.Prices.{ArePrices}
use Rattle.path_solver.specs.Rests.{IsFeasible}
use Rattle.path_solver.specs.Phases.{AreRated}
use Rattle.path_solver.specs.Searches.{IsTaken}
use Rattle.path_solver.proofs.Cuts.{cut, IsClosedSet}

-- a sum of terms of which one is larger
sum_by-lt : (f g : ℕ → ℕ) (xs : List ℕ) (v : ℕ) → ((x : ℕ) → f x ≤ g x) → v < length xs → f (get_or xs v 0) + 1 ≤ g (get_or xs v 0) → sum_by f xs + 1 ≤ sum_by g xs
sum_by-lt f g [] v le l one = absurd (omega arith)
sum_by-lt f g (x ∷ xs) zero le l one = omega (arith, sum_by-cons f x xs, sum_by-cons g x xs, sum_by-le-sum_by f g xs le)
sum_by-lt f g (x ∷ xs) (suc v) le l one =
    omega (arith, sum_by-cons f x xs, sum_by-cons g x xs, le x, sum_by-lt f g xs v le (omega arith) one)

-- 1 for a number below g
abbrev below : ℕ → ℕ → ℕ
below g x = cond (ltb x g) 1 0

below_le : (g x : ℕ) → below g x ≤ below (suc g) x
below_le g x =
    ⊎_elim (λ (l : x < g). omega (arith, cond-true {A = ℕ} (ltb x g) 1 0 (lt-ltb x g l), cond-true {A = ℕ} (ltb x (suc g)) 1 0 (lt-ltb x (suc g) (omega arith))))
    (λ (l : g ≤ x). omega (arith, cond-false {A = ℕ} (ltb x g) 1 0 (le-ltb x g l)))
    (cases_lt x g)

counted : (xs : List ℕ) (g : ℕ) → ((h : ℕ) → h < g → IsTaken xs h) → g ≤ sum_by (below g) xs
counted xs zero taken = omega arith
counted xs (suc g) taken =
    let t = taken g (omega arith) in
    let old : below g (get_or xs t.0 0) ≡ 0 = cond-false {A = ℕ} (ltb (get_or xs t.0 0) g) 1 0 (le-ltb (get_or xs t.0 0) g (omega (arith, t.2))) in
    let new : below (suc g) (get_or xs t.0 0) ≡ 1 = cond-true {A = ℕ} (ltb (get_or xs t.0 0) (suc g)) 1 0 (lt-ltb (get_or xs t.0 0) (suc g) (omega (arith, t.2))) in
    omega (arith, counted xs g (λ h l. taken h (omega arith)), sum_by-lt (below g) (below (suc g)) xs t.0 (below_le g) t.1 (omega (arith, old, new)))

pub few_values : (xs : List ℕ) (g : ℕ) → ((h : ℕ) → h < g → IsTaken xs h) → g ≤ length xs
few_values xs g taken = omega (arith, counted xs g taken, count_by-le-length (λ x. ltb x g) xs)

-- a number is taken, or is not
taken_or_not : (xs : List ℕ) (g : ℕ) → IsTaken xs g ⊎ ((v : ℕ) → v < length xs → get_or xs v 0 ≡ g → ⊥)
taken_or_not [] g = inr (λ v l e. omega arith)
taken_or_not (x ∷ xs) g =
    ⊎_elim (λ (e : x ≡ g). inl (0, omega arith, e))
    (λ (ne : x ≢ g). ⊎_elim (λ (t : IsTaken xs g). inl (suc t.0, omega (arith, t.1), t.2))
    (λ (none : (v : ℕ) → v < length xs → get_or xs v 0 ≡ g → ⊥). inr (later x xs g ne none)) (taken_or_not xs g))
    (cases_eq x g)
  where
    later : (x : ℕ) (xs : List ℕ) (g : ℕ) → x ≢ g → ((v : ℕ) → v < length xs → get_or xs v 0 ≡ g → ⊥) → (v : ℕ) → v < suc (length xs) → get_or (x ∷ xs) v 0 ≡ g → ⊥
    later x xs g ne none zero l e = ne e
    later x xs g ne none (suc v) l e = none v (omega arith) e

-- while a member has to send, the most price is below the number of members
pub few_phases : (r : ResidualData) (p surplus lack : List ℕ) (top s : ℕ) → IsResidual r → IsFeasible r.flows surplus lack → ArePrices r.flows p → AreRated top p surplus lack → length p ≡ r.members → s < r.members → 0 < get_or surplus s 0 → top < r.members
few_phases r p surplus lack top s residual feasible priced rated one_each inside sends =
    let all : (h : ℕ) → h < suc top → IsTaken p h = λ h l. ⊎_elim (λ (e : h ≡ top). (s, omega (arith, one_each), rated.senders s sends ∙ sym e)) (λ (ne : h ≢ top). lower h (omega arith)) (cases_eq h top) in
    omega (arith, few_values p (suc top) all, one_each)
  where
    lower : (g : ℕ) → g < top → IsTaken p g
    lower g l =
        ⊎_elim (λ (t : IsTaken p g). t)
        (λ (none : (v : ℕ) → v < length p → get_or p v 0 ≡ g → ⊥). absurd (cut r surplus lack (λ i. ltb g (get_or p i 0)) residual feasible (closed none) quiet s inside (lt-ltb g (get_or p s 0) (omega (arith, rated.senders s sends))) sends))
        (taken_or_not p g)
      where
        quiet : (i : ℕ) → ltb g (get_or p i 0) ≡ true → get_or lack i 0 ≡ 0
        quiet i e =
            ⊎_elim (λ (z : get_or lack i 0 ≡ 0). z) (λ (ne : get_or lack i 0 ≢ 0). absurd (omega (arith, ltb-true g (get_or p i 0) e, rated.receivers i (omega arith)))) (cases_eq (get_or lack i 0) 0)

        closed : ((v : ℕ) → v < length p → get_or p v 0 ≡ g → ⊥) → IsClosedSet (λ i. ltb g (get_or p i 0)) r.flows
        closed none k lk =
            let f = flow_at r.flows k in
            let good = residual.good k no_flow lk in
            let h = priced k lk in (
              (λ room e. let ne : get_or p f.buyer 0 ≡ g → ⊥ = none f.buyer (omega (arith, good.buyer, one_each)) in lt-ltb g (get_or p f.buyer 0) (omega (arith, ltb-true g (get_or p f.seller 0) e, h.growing room, ne))),
              (λ back e. lt-ltb g (get_or p f.seller 0) (omega (arith, ltb-true g (get_or p f.buyer 0) e, h.falling back))),
            )
