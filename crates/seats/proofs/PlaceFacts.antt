-- Places of a list, one of which is written.
use Rattle.std.proofs.Common.{◌≡◌, ◌≢◌, ℕ, ◌+◌, ◌<◌, ◌≤◌, List, length, Some, sym, ap, subst, ◌∙◌, arith}
use Rattle.std.specs.Prelude.{slice_index_or, slice_set}
use Rattle.std.proofs.lemmas.List.{get_or-set_other}
use Rattle.std.proofs.lemmas.Grind.{get_or-set_at}
use Rattle.std.proofs.lemmas.Option.{slice_get-get_or}
use mathlib.Core.Logic.{dite}
use native.Mathlib.Decide.{ℕ_discrete}

some_same : {T : Type 0} (x y : T) → Some x ≡ Some y → x ≡ y
some_same x y e = cc

-- what lies at a place does not hang on what is told of places outside
pub any_default : {T : Type 0} (xs : List T) (k : ℕ) (d e : T) → k < length xs → slice_index_or xs k d ≡ slice_index_or xs k e
any_default xs k d e lt = some_same _ _ (sym (slice_get-get_or xs k d lt) ∙ slice_get-get_or xs k e lt)

-- the places behind the one that is written
pub later_stay : {T : Type 0} (now initial : List T) (k : ℕ) (new : T) → ((j : ℕ) (d : T) → k ≤ j → slice_index_or now j d ≡ slice_index_or initial j d) →
    (j : ℕ) (d : T) → k + 1 ≤ j → slice_index_or (slice_set now k new) j d ≡ slice_index_or initial j d
later_stay now initial k new stay j d le = get_or-set_other now k j new d (λ e. absurd (omega arith)) ∙ stay j d (omega arith)

-- a fact of the places before, and of the place itself
pub first_hold : {T : Type 0} (P : T → Type 0) (now initial : List T) (k : ℕ) (item : T) → k < length initial → slice_index_or now k item ≡ item → ((j : ℕ) (d : T) → k ≤ j → slice_index_or now j d ≡ slice_index_or initial j d) →
    P item → ((j : ℕ) (d : T) → j < k → P (slice_index_or initial j d)) → (j : ℕ) (d : T) → j < k + 1 → P (slice_index_or initial j d)
first_hold {T = T} P now initial k item within is stay here before j d lt =
    dite (ℕ_discrete j k)
    (λ e.
    let at : item ≡ slice_index_or initial j d = sym is ∙ (stay k item (omega arith) ∙ (any_default initial k item d within ∙ ap (λ (n : ℕ). slice_index_or initial n d) (sym e))) in
    subst P at here)
    (λ ne. before j d (let b : j < k = lesser j k ne lt in b))
  where
    lesser : (j k : ℕ) → j ≢ k → j < k + 1 → j < k
    lesser j k ne lt = omega arith

-- what is the same of each place, where it is the same of the one that is written
pub each_same : {T X : Type 0} (f : T → X) (now initial : List T) (k : ℕ) (item new : T) → k < length now → length now ≡ length initial → slice_index_or now k item ≡ item → f new ≡ f item →
    ((j : ℕ) (d : T) → j < length initial → f (slice_index_or now j d) ≡ f (slice_index_or initial j d)) → (j : ℕ) (d : T) → j < length initial → f (slice_index_or (slice_set now k new) j d) ≡ f (slice_index_or initial j d)
each_same f now initial k item new within size is same before j d lt =
    dite (ℕ_discrete j k)
    (λ e.
    ap f (get_or-set_at now k j new d e within) ∙ (same ∙ (ap f (sym is ∙ (any_default now k item d within ∙ ap (λ (n : ℕ). slice_index_or now n d) (sym e))) ∙ before j d lt)))
    (λ ne. ap f (get_or-set_other now k j new d ne) ∙ before j d lt)

-- a fact of the places before, as they now are, and of the one that is written
pub set_hold : {T : Type 0} (P : ℕ → T → Type 0) (now : List T) (k : ℕ) (new : T) → k < length now → P k new → ((j : ℕ) (d : T) → j < k → P j (slice_index_or now j d)) →
    (j : ℕ) (d : T) → j < k + 1 → P j (slice_index_or (slice_set now k new) j d)
set_hold {T = T} P now k new within here before j d lt =
    dite (ℕ_discrete j k)
    (λ e. subst (λ (n : ℕ). P n (slice_index_or (slice_set now k new) j d)) (sym e) (subst (P k) (sym (get_or-set_at now k j new d e within)) here))
    (λ ne. subst (P j) (sym (get_or-set_other now k j new d ne)) (before j d (lesser j k ne lt)))
  where
    lesser : (j k : ℕ) → j ≢ k → j < k + 1 → j < k
    lesser j k ne lt = omega arith
