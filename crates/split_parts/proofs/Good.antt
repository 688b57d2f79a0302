-- The steps of putting parts together.
use Rattle.std.proofs.Common.{◌≡◌, ◌≢◌, ℕ, zero, suc, ◌<◌, ◌≤◌, ◌+◌, List, [], ◌∷◌, ◌++◌, length, get_or, drop, take, map, Some, None, ℤ, ◌⊎◌, inl, inr, refl, sym, ap, ◌∙◌, subst, append_assoc, arith}
use Rattle.std.specs.Prelude.{All}
use Rattle.std.proofs.lemmas.List.{append-nil, drop_all, drop_more, take_all, take-append-le}
use Rattle.network_laws.specs.declared.rows.Row.{Row}
use Rattle.network_laws.specs.Limits.{potential}
use Rattle.network_laws.specs.Solutions.{SolutionData, IsSolution}
use Rattle.split_parts.specs.Own.{number_in}
use Rattle.split_parts.specs.Merged.{named, rows_of, own_or, potential_in, IsGoodPart, AreGoodParts}
use Rattle.split_parts.proofs.Numbers.{option_cases, number_some, number_none}

pub good_length : (n : ℕ) (parts : List (List ℕ)) (ss : List SolutionData) → AreGoodParts n parts ss → length parts ≡ length ss
good_length n [] [] h = refl
good_length n [] (s ∷ ss) h = absurd h
good_length n (part ∷ parts) [] h = absurd h
good_length n (part ∷ parts) (s ∷ ss) h = let r = good_length n parts ss h.1 in omega arith

good_at : (n : ℕ) (parts : List (List ℕ)) (ss : List SolutionData) → AreGoodParts n parts ss → (k : ℕ) (d : List ℕ) (e : SolutionData) → k < length parts → IsGoodPart n (get_or parts k d) (get_or ss k e)
good_at n [] [] h k d e l = absurd (omega arith)
good_at n [] (s ∷ ss) h k d e l = absurd h
good_at n (part ∷ parts) [] h k d e l = absurd h
good_at n (part ∷ parts) (s ∷ ss) h zero d e l = h.0
good_at n (part ∷ parts) (s ∷ ss) h (suc k) d e l = good_at n parts ss h.1 k d e (omega arith)

pub good_read : (n : ℕ) (parts : List (List ℕ)) (ss : List SolutionData) (k : ℕ) (part : List ℕ) (s : SolutionData) → AreGoodParts n parts ss → k < length parts → part ≡ get_or parts k part → s ≡ get_or ss k s → IsGoodPart n part s
good_read n parts ss k part s h l ip is = subst (λ p. IsGoodPart n p s) (sym ip) (subst (IsGoodPart n (get_or parts k part)) (sym is) (good_at n parts ss h k part s l))

dropped : {X : Type 0} (xs : List X) (k : ℕ) (x : X) → k < length xs → x ≡ get_or xs k x → drop k xs ≡ x ∷ drop (k + 1) xs
dropped xs k x l is = drop_more xs k x l ∙ ap (λ z. z ∷ drop (k + 1) xs) (sym is)

-- with the rows of one part more, what was put together and what is left are still all rows
pub rows_step : (parts : List (List ℕ)) (ss : List SolutionData) (k : ℕ) (part : List ℕ) (s : SolutionData) (rows rows' all : List Row) → k < length parts → k < length ss → part ≡ get_or parts k part → s ≡ get_or ss k s → rows ++ rows_of (drop k parts) (drop k ss) ≡ all → rows' ≡ rows ++ map (named part) s.network.rows → rows' ++ rows_of (drop (k + 1) parts) (drop (k + 1) ss) ≡ all
rows_step parts ss k part s rows rows' all l l' ip is before e =
    let new = map (named part) s.network.rows in
    let left = rows_of (drop (k + 1) parts) (drop (k + 1) ss) in
    let one : rows_of (drop k parts) (drop k ss) ≡ new ++ left = ap (λ ps. rows_of ps (drop k ss)) (dropped parts k part l ip) ∙ ap (rows_of (part ∷ drop (k + 1) parts)) (dropped ss k s l' is) in
    ap (λ xs. xs ++ left) e ∙ append_assoc rows new left ∙ ap (λ xs. rows ++ xs) (sym one) ∙ before

-- behind the last part nothing is left
pub rows_done : (parts : List (List ℕ)) (ss : List SolutionData) (k : ℕ) (rows all : List Row) → length parts ≤ k → rows ++ rows_of (drop k parts) (drop k ss) ≡ all → rows ≡ all
rows_done parts ss k rows all le e = sym (append-nil rows) ∙ ap (λ ps. rows ++ rows_of ps (drop k ss)) (sym (drop_all k parts le)) ∙ e

pub potentials_step : (parts : List (List ℕ)) (ss : List SolutionData) (k : ℕ) (part : List ℕ) (s : SolutionData) (m : ℕ) → k < length parts → k < length ss → part ≡ get_or parts k part → s ≡ get_or ss k s → potential_in (drop k parts) (drop k ss) m ≡ own_or (number_in part m) s.potentials (potential_in (drop (k + 1) parts) (drop (k + 1) ss) m)
potentials_step parts ss k part s m l l' ip is = ap (λ ps. potential_in ps (drop k ss) m) (dropped parts k part l ip) ∙ ap (λ xs. potential_in (part ∷ drop (k + 1) parts) xs m) (dropped ss k s l' is)

pub put_value : (part : List ℕ) (own new old : List ℤ) (n m : ℕ) → ((q : ℕ) → q < n → potential new (get_or part q 0) ≡ potential own q) → (((q : ℕ) → q < n → get_or part q 0 ≢ m) → potential new m ≡ potential old m) → length part ≡ n → potential new m ≡ own_or (number_in part m) own (potential old m)
put_value part own new old n m here rest size = by_cases (option_cases (number_in part m))
  where
    by_cases : (number_in part m ≡ None) ⊎ ((q : ℕ) × (number_in part m ≡ Some q)) → potential new m ≡ own_or (number_in part m) own (potential old m)
    by_cases (inl e) = rest (λ q l. number_none part m e q (omega arith)) ∙ sym (ap (λ o. own_or o own (potential old m)) e)
    by_cases (inr q) = let h = number_some part m q.0 q.1 in ap (potential new) (sym h.1) ∙ here q.0 (let l = h.0 in omega arith) ∙ sym (ap (λ o. own_or o own (potential old m)) q.1)

pub whole_front : {X : Type 0} (n : ℕ) (new rest : List X) → length new ≡ n → take n (new ++ rest) ≡ new
whole_front n new rest size = take-append-le n new rest (omega arith) ∙ take_all n new (omega arith)

-- the rows of a solution of a part's size are between places of the part
pub inside_rows : (n : ℕ) (part : List ℕ) (s : SolutionData) (members : List ℕ) (rows : List Row) → IsGoodPart n part s → IsSolution s → members ≡ part → rows ≡ s.network.rows → All (λ r. (r.seller < length members) × (r.buyer < length members)) rows
inside_rows n part s members rows good fits m r =
    subst (λ xs. All (λ z. (z.seller < length members) × (z.buyer < length members)) xs) (sym r)
    (λ k d l.
    let row = fits.network.rows.good k d l in
    let a = row.seller in
    let b = row.buyer in
    let size = good.size in
    let same = ap length m in
    (omega arith, omega arith))
