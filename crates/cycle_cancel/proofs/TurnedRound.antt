-- A walk back, turned round.
use Rattle.std.proofs.Common.{◌≡◌, ◌≢◌, ℕ, zero, suc, ◌-◌, ◌<◌, List, [], ◌∷◌, ◌++◌, length, get_or, reverse, ◌+ℤ◌, refl, sym, ap, ◌∙◌, subst, arith, ⊎_elim}
use Rattle.std.specs.Prelude.{All, AllPairs}
use Rattle.std.proofs.lemmas.Bool.{cases_eq}
use Rattle.std.proofs.lemmas.Int.{ints}
use Rattle.std.proofs.lemmas.List.{get_or-reverse, length-reverse, reverse-append}
use Rattle.residual_graph.specs.declared.flow.Flow.{Flow}
use Rattle.residual_graph.specs.Arcs.{arc_count, head, tail, cost}
use Rattle.residual_graph.specs.Paths.{IsWalk}
use Rattle.cycle_cancel.specs.Traces.{costs}

-- from w back along the arcs to v
abbrev pub IsWalkBack : List Flow → ℕ → List ℕ → ℕ → Type 0
IsWalkBack flows w [] v = w ≡ v
IsWalkBack flows w (a ∷ arcs) v = (head flows a ≡ w) × (a < arc_count flows) × IsWalkBack flows (tail flows a) arcs v

walk_more : (flows : List Flow) (v : ℕ) (arcs : List ℕ) (u a : ℕ) → IsWalk flows v arcs u → tail flows a ≡ u → a < arc_count flows → IsWalk flows v (arcs ++ a ∷ []) (head flows a)
walk_more flows v [] u a h e l = (e ∙ sym h, l, refl)
walk_more flows v (b ∷ arcs) u a h e l = (h.0, h.1, walk_more flows (head flows b) arcs u a h.2 e l)

turned_more : (a : ℕ) (arcs : List ℕ) → reverse (a ∷ arcs) ≡ reverse arcs ++ a ∷ []
turned_more a arcs = reverse-append (a ∷ []) arcs

pub walk_turned : (flows : List Flow) (w : ℕ) (arcs : List ℕ) (v : ℕ) → IsWalkBack flows w arcs v → IsWalk flows v (reverse arcs) w
walk_turned flows w [] v h = sym h
walk_turned flows w (a ∷ arcs) v h =
    subst (λ xs. IsWalk flows v xs w) (sym (turned_more a arcs))
    (subst (IsWalk flows v (reverse arcs ++ a ∷ [])) h.0 (walk_more flows v (reverse arcs) (tail flows a) a (walk_turned flows (tail flows a) arcs v h.2) refl h.1))

costs_more : (arcs : List ℕ) (a : ℕ) → costs (arcs ++ a ∷ []) ≡ costs arcs +ℤ cost a
costs_more [] a = omega (arith, ints)
costs_more (b ∷ arcs) a = omega (arith, ints, costs_more arcs a)

pub costs_turned : (arcs : List ℕ) → costs (reverse arcs) ≡ costs arcs
costs_turned [] = refl
costs_turned (a ∷ arcs) = omega (arith, ints, ap costs (turned_more a arcs), costs_more (reverse arcs) a, costs_turned arcs)

pub all_turned : (P : ℕ → Type 0) (xs : List ℕ) → All P xs → All P (reverse xs)
all_turned P xs h k d l =
    let in_xs : k < length xs = omega (arith, l, length-reverse xs) in
    subst P (sym (get_or-reverse xs k d in_xs)) (h (length xs - 1 - k) d (omega arith))

-- in a closed walk back no member is left twice where none is entered twice
pub once_turned : (flows : List Flow) (at : ℕ) (arcs : List ℕ) → IsWalkBack flows at arcs at → AllPairs (λ a b. head flows a ≢ head flows b) arcs → AllPairs (λ a b. tail flows a ≢ tail flows b) (reverse arcs)
once_turned flows at arcs closed h i j d lt l e =
    let in_j : j < length arcs = omega (arith, l, length-reverse arcs) in
    let in_i : i < length arcs = omega (arith, lt, in_j) in
    tails (length arcs - 1 - j) (length arcs - 1 - i) (omega arith) (omega arith)
    (ap (tail flows) (sym (get_or-reverse arcs j d in_j)) ∙ sym e ∙ ap (tail flows) (get_or-reverse arcs i d in_i))
  where
    first : (w : ℕ) (xs : List ℕ) (v : ℕ) (d : ℕ) → IsWalkBack flows w xs v → 0 < length xs → head flows (get_or xs 0 d) ≡ w
    first w [] v d walk some = absurd (omega arith)
    first w (a ∷ xs) v d walk some = walk.0

    next : (w : ℕ) (xs : List ℕ) (v k d : ℕ) → IsWalkBack flows w xs v → suc k < length xs → tail flows (get_or xs k d) ≡ head flows (get_or xs (suc k) d)
    next w [] v k d walk some = absurd (omega arith)
    next w (a ∷ xs) v zero d walk some = sym (first (tail flows a) xs v d walk.2 (omega arith))
    next w (a ∷ xs) v (suc k) d walk some = next (tail flows a) xs v k d walk.2 (omega arith)

    last : (w : ℕ) (xs : List ℕ) (v k d : ℕ) → IsWalkBack flows w xs v → suc k ≡ length xs → tail flows (get_or xs k d) ≡ v
    last w [] v k d walk e = absurd (omega arith)
    last w (a ∷ []) v zero d walk e = walk.2
    last w (a ∷ b ∷ xs) v zero d walk e = absurd (omega arith)
    last w (a ∷ xs) v (suc k) d walk e = last (tail flows a) xs v k d walk.2 (omega arith)

    tails : (m n : ℕ) → m < n → n < length arcs → tail flows (get_or arcs m d) ≡ tail flows (get_or arcs n d) → ⊥
    tails m n lt l q =
        ⊎_elim (λ (e : suc n ≡ length arcs).
        h 0 (suc m) d (omega arith) (omega arith) (first at arcs at d closed (omega arith) ∙ sym (last at arcs at n d closed e) ∙ sym q ∙ next at arcs at m d closed (omega arith)))
        (λ (ne : suc n ≢ length arcs). h (suc m) (suc n) d (omega arith) (omega arith) (sym (next at arcs at m d closed (omega arith)) ∙ q ∙ next at arcs at n d closed (omega arith)))
        (cases_eq (suc n) (length arcs))
