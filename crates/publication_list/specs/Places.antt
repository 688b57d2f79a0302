-- The views of seats, and the rule that every step keeps.
use Rattle.std.specs.Prelude.{◌≡◌, ℕ, zero, suc, ◌==◌, ◌<◌, List, [], ◌∷◌, map, flat_map, length, slice_index, slice_index_or, Option, Some, None, if◌then◌else◌}
use mathlib.Core.Option.{some, none}
use mathlib.Core.Option as maybe
use lib.ListN.{get_elem?}
use Rattle.atomic_table.specs.Table.{State}
use Rattle.publication_list.specs.declared.rule.TheConstants.{PLACES, WORDS}
use Rattle.publication_list.specs.declared.rule.Letter.{Letter}
use Rattle.publication_list.specs.declared.rule.Letter.TheVariants.{Request, Reply}
use Rattle.publication_list.specs.declared.rule.View.{View}

-- what stands at the place p in a list of places
abbrev pub at : {X : Type 0} → ℕ → List (ℕ × X) → List X
at p [] = []
at p (x ∷ xs) = if x.0 == p then x.1 ∷ at p xs else at p xs

-- the request of the one place that a seat has
abbrev pub asked_in : {X : Type 0} → List (ℕ × Option X) → Option X
asked_in [] = None
asked_in (x ∷ xs) = x.1

module _ {A K : Type 0} where
  -- a seat that has no place and no claims
  abbrev pub idle : K → View A K
  idle key = record { key = key; asks = []; claims = [] }

  -- a seat that has the place p, and a request there if it has published one
  abbrev pub asker : K → ℕ → Option A → View A K
  asker key p asked = record { key = key; asks = (p, asked) ∷ []; claims = [] }

  -- who has the place p
  abbrev pub asked_at : ℕ → List (View A K) → List (Option A)
  asked_at p views = flat_map (λ view. at p view.asks) views

  -- the claims of what was published at the place p
  abbrev pub claimed_at : ℕ → List (View A K) → List A
  claimed_at p views = flat_map (λ view. at p view.claims) views

module _ {A B : Type 0} where
  -- the slots of claims, whose requests were taken out
  abbrev pub emptied : List (ℕ × A) → List (ℕ × Option (Letter A B))
  emptied claims = map (λ claim. (claim.0, None)) claims

module _ {A B : Type 0} (fits : A → Type 0) (answers : A → B → Type 0) where
  -- What is true of a place in this state, with this letter in its slot if that is at home, with those who have the place, and those who have claimed its request
  abbrev pub IsPlace : ℕ → maybe.Option (Option (Letter A B)) → List (Option A) → List A → Type 0
  -- free
  IsPlace zero slot owners servers = (slot ≡ some None) × (owners ≡ []) × (servers ≡ [])
  -- held
  IsPlace (suc zero) slot owners servers = (slot ≡ none) × (owners ≡ None ∷ []) × (servers ≡ [])
  -- published
  IsPlace (suc (suc zero)) slot owners servers = (a : A) × (slot ≡ some (Some (Request a))) × (owners ≡ Some a ∷ []) × (servers ≡ []) × fits a
  -- claimed
  IsPlace (suc (suc (suc zero))) slot owners servers = (a : A) × (slot ≡ none) × (owners ≡ Some a ∷ []) × (servers ≡ a ∷ [])
  -- answered
  IsPlace (suc (suc (suc (suc zero)))) slot owners servers = (a : A) × (b : B) × (slot ≡ some (Some (Reply b))) × (owners ≡ Some a ∷ []) × (servers ≡ []) × answers a b
  IsPlace (suc (suc (suc (suc (suc n))))) slot owners servers = ⊥

module _ {A B K : Type 0} (fits : A → Type 0) (answers : A → B → Type 0) where
  -- Each place is in one of these states, and each view has the list's key.
  pub record Kept (key : K) (s : State (Option (Letter A B)) (View A K)) : Type 0 where
    pub wide : length s.words ≡ WORDS
    pub places : (p : ℕ) → p < PLACES → IsPlace fits answers (slice_index s.words p) (slice_index_or s.homes p none) (asked_at p s.views) (claimed_at p s.views)
    pub keys : (j : ℕ) (v : View A K) → get_elem? s.views j ≡ some v → v.key ≡ key
