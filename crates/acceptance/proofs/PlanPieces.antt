-- The steps of a plan, pair by pair.
use Rattle.std.proofs.Common.{◌≡◌, ◌≢◌, ℕ, zero, suc, ◌+◌, ◌<◌, ◌++◌, List, [], ◌∷◌, slice_get, Some, refl, sym, ap, ◌∙◌, subst, arith, ⊎_elim}
use Rattle.std.specs.Prelude.{Bool, filter, All}
use Rattle.std.proofs.lemmas.Bool.{cases_eq}
use Rattle.std.proofs.lemmas.List.{append-nil}
use Rattle.std.proofs.lemmas.List.Elements.{All-nil, All-append, filter-append}
use Rattle.units_core.specs.Day.{DayParts}
use Rattle.network_laws.specs.Networks.{NetworkData}
use Rattle.command_types.specs.declared.plan.PlanRow.{PlanRow}
use Rattle.command_types.specs.declared.trade.TradeRow.{TradeRow}
use Rattle.command_types.specs.Plans.{pair_plan, product_plan, plan_from}
use Rattle.acceptance.proofs.Pieces.{filter_pairs, pairs_none, pairs_only, pairs_at, All-pairs}

module _ (rows : List TradeRow) (day : DayParts) where
  -- what holds of the steps of each pair holds of all steps
  pub from_all : (P : PlanRow → Type 0) (k : ℕ) (olds news : List NetworkData) →
      ((m a b : ℕ) (old new : NetworkData) → slice_get olds m ≡ Some old → slice_get news m ≡ Some new → a < old.members → b < old.members → All P (pair_plan rows day (k + m) old new a b)) → All P (plan_from rows day k olds news)
  from_all P k [] news each = All-nil P
  from_all P k (old ∷ olds) [] each = All-nil P
  from_all P k (old ∷ olds) (new ∷ news) each =
      let e : k + 0 ≡ k = omega arith in
      All-append P (product_plan rows day k old new) (plan_from rows day (1 + k) olds news)
      (All-pairs P old.members (pair_plan rows day k old new) (λ a b in_a in_b. subst (λ p. All P (pair_plan rows day p old new a b)) e (each 0 a b old new refl refl in_a in_b)))
      (from_all P (1 + k) olds news (λ m a b old' new' is_old is_new in_a in_b.
      let e' : k + suc m ≡ 1 + k + m = omega arith in
      subst (λ p. All P (pair_plan rows day p old' new' a b)) e' (each (suc m) a b old' new' is_old is_new in_a in_b)))

  product_none : (q : PlanRow → Bool) (p : ℕ) (old new : NetworkData) → ((a b : ℕ) → a < old.members → b < old.members → filter q (pair_plan rows day p old new a b) ≡ []) → filter q (product_plan rows day p old new) ≡ []
  product_none q p old new none = filter_pairs q old.members (pair_plan rows day p old new) ∙ pairs_none old.members (λ a b. filter q (pair_plan rows day p old new a b)) none

  -- where no pair has steps that pass, none pass
  pub from_none : (q : PlanRow → Bool) (k : ℕ) (olds news : List NetworkData) →
      ((m a b : ℕ) (old new : NetworkData) → slice_get olds m ≡ Some old → a < old.members → b < old.members → filter q (pair_plan rows day (k + m) old new a b) ≡ []) → filter q (plan_from rows day k olds news) ≡ []
  from_none q k [] news none = refl
  from_none q k (old ∷ olds) [] none = refl
  from_none q k (old ∷ olds) (new ∷ news) none =
      let e : k + 0 ≡ k = omega arith in
      filter-append q (product_plan rows day k old new) (plan_from rows day (1 + k) olds news)
      ∙ ap (λ xs. xs ++ filter q (plan_from rows day (1 + k) olds news)) (product_none q k old new (λ a b in_a in_b. subst (λ p. filter q (pair_plan rows day p old new a b) ≡ []) e (none 0 a b old new refl in_a in_b)))
      ∙ from_none q (1 + k) olds news (λ m a b old' new' is_old in_a in_b.
      let e' : k + suc m ≡ 1 + k + m = omega arith in
      subst (λ p. filter q (pair_plan rows day p old' new' a b) ≡ []) e' (none (suc m) a b old' new' is_old in_a in_b))

  -- no other pair has steps that pass
  abbrev pub AreOnlyOf : (PlanRow → Bool) → ℕ → ℕ → ℕ → Type 0
  AreOnlyOf q p i j = (r a b : ℕ) (old new : NetworkData) → (r ≡ p → a ≡ i → b ≡ j → ⊥) → filter q (pair_plan rows day r old new a b) ≡ []

  -- the steps that pass are those of the one pair
  pub from_only : (q : PlanRow → Bool) (k m p i j : ℕ) (olds news : List NetworkData) (old new : NetworkData) → p ≡ k + m → slice_get olds m ≡ Some old → slice_get news m ≡ Some new → i < old.members → j < old.members → AreOnlyOf q p i j →
      filter q (plan_from rows day k olds news) ≡ filter q (pair_plan rows day p old new i j)
  from_only q k m p i j [] news old new e is_old is_new in_i in_j only = cc
  from_only q k m p i j (old' ∷ olds) [] old new e is_old is_new in_i in_j only = cc
  from_only q k zero p i j (old' ∷ olds) (new' ∷ news) old new e is_old is_new in_i in_j only =
      let same_old : old' ≡ old = cc in
      let same_new : new' ≡ new = cc in
      let here : k ≡ p = omega arith in
      filter-append q (product_plan rows day k old' new') (plan_from rows day (1 + k) olds news)
      ∙ ap (λ xs. filter q (product_plan rows day k old' new') ++ xs) (from_none q (1 + k) olds news (λ n a b o w _ _ _. only (1 + k + n) a b o w (λ e' _ _. omega (arith, e'))))
      ∙ append-nil (filter q (product_plan rows day k old' new'))
      ∙ ap (λ n. filter q (product_plan rows day n old' new')) here
      ∙ ap (λ o. filter q (product_plan rows day p o new')) same_old ∙ ap (λ w. filter q (product_plan rows day p old w)) same_new
      ∙ filter_pairs q old.members (pair_plan rows day p old new)
      ∙ pairs_only old.members i j (λ a b. filter q (pair_plan rows day p old new a b)) in_i in_j (λ a b other. only p a b old new (λ _. other))
  from_only q k (suc m) p i j (old' ∷ olds) (new' ∷ news) old new e is_old is_new in_i in_j only =
      filter-append q (product_plan rows day k old' new') (plan_from rows day (1 + k) olds news)
      ∙ ap (λ xs. xs ++ filter q (plan_from rows day (1 + k) olds news)) (product_none q k old' new' (λ a b _ _. only k a b old' new' (λ e' _ _. omega (arith, e'))))
      ∙ from_only q (1 + k) m p i j olds news old new (omega arith) is_old is_new in_i in_j only

  -- what holds of no steps, and of the steps of the one pair, holds of those that pass
  pub from_at : (Q : List PlanRow → Type 0) (q : PlanRow → Bool) (p i j : ℕ) → Q [] → ((old new : NetworkData) → Q (filter q (pair_plan rows day p old new i j))) → AreOnlyOf q p i j → (k : ℕ) (olds news : List NetworkData) →
      Q (filter q (plan_from rows day k olds news))
  from_at Q q p i j empty here only k [] news = empty
  from_at Q q p i j empty here only k (old ∷ olds) [] = empty
  from_at Q q p i j empty here only k (old ∷ olds) (new ∷ news) =
      let first = filter q (product_plan rows day k old new) in
      let rest = filter q (plan_from rows day (1 + k) olds news) in
      let both = filter-append q (product_plan rows day k old new) (plan_from rows day (1 + k) olds news) in
      ⊎_elim (λ (e : k ≡ p).
      let none : rest ≡ [] = from_none q (1 + k) olds news (λ m a b o w _ _ _. only (1 + k + m) a b o w (λ e' _ _. omega (arith, e, e'))) in
      subst Q (sym (both ∙ ap (λ xs. first ++ xs) none ∙ append-nil first ∙ filter_pairs q old.members (pair_plan rows day k old new)))
      (pairs_at Q old.members i j (λ a b. filter q (pair_plan rows day k old new a b)) empty (subst (λ n. Q (filter q (pair_plan rows day n old new i j))) (sym e) (here old new)) (λ a b other. only k a b old new (λ _. other))))
      (λ (ne : k ≢ p).
      let none : first ≡ [] = product_none q k old new (λ a b _ _. only k a b old new (λ e' _ _. ne e')) in
      subst Q (sym (both ∙ ap (λ xs. xs ++ rest) none)) (from_at Q q p i j empty here only (1 + k) olds news))
      (cases_eq k p)
