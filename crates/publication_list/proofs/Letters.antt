-- What lies in the slot that a seat took last, and which of its claims a server answers first.
use Rattle.std.proofs.Common.{◌≡◌, ℕ, ◌<◌, List, [], ◌∷◌, map, get_or, sym, ap, ◌∙◌, subst}
use Rattle.std.specs.Prelude.{All}
use Rattle.std.proofs.lemmas.List.Elements.{All-head}
use Rattle.publication_list.specs.declared.rule.TheConstants.{PLACES}
use Rattle.publication_list.specs.Tokens.{AnswersFirst}

-- a slot is in hand with one value
pub slot_is : {S : Type 0} (l : List (ℕ × S)) (p q : ℕ) (x y : S) (xs ys : List (ℕ × S)) → l ≡ (p, x) ∷ xs → l ≡ (q, y) ∷ ys → x ≡ y
slot_is {S = S} l p q x y xs ys e f = ap (λ (l : List (ℕ × S)). (get_or {A = ℕ × S} l 0 (p, x)).1) (sym e ∙ f)

module _ {A B : Type 0} where
  -- the oldest claim, at the place p, which the reply answers
  pub record First (answers : A → B → Type 0) (claims : List (ℕ × A)) (b : B) (p : ℕ) : Type 0 where
    pub request : A
    pub more : List (ℕ × A)
    pub is : claims ≡ (p, request) ∷ more
    pub right : answers request b
    pub lies : p < PLACES

  pub first_of : (answers : A → B → Type 0) (claims : List (ℕ × A)) (places : List ℕ) (b : B) (p : ℕ) → map (λ claim. claim.0) claims ≡ places → AnswersFirst answers (map (λ claim. claim.1) claims) b
      → p ≡ get_or places 0 p → All (λ place. place < PLACES) places → First answers claims b p
  first_of answers [] places b p number owed got lie = absurd owed
  first_of answers (x ∷ xs) places b p number owed got lie =
      let same : p ≡ x.0 = got ∙ ap (λ l. get_or l 0 p) (sym number) in record {
        request = x.1;
        more = xs;
        is = ap (λ (q : ℕ). (q, x.1) ∷ xs) (sym same);
        right = owed;
        lies = subst (λ (q : ℕ). q < PLACES) (sym same) (All-head (λ place. place < PLACES) x.0 (map (λ claim. claim.0) xs) (subst (All (λ place. place < PLACES)) (sym number) lie));
      }
