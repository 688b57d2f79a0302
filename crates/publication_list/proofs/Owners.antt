-- Who has a place, and how a step changes that.
use Rattle.std.proofs.Common.{◌≡◌, ◌≢◌, ℕ, zero, suc, ◌==◌, ◌≤◌, Bool, true, false, List, [], ◌∷◌, ◌++◌, length, set, get_or, sym, refl, ap, ◌∙◌, arith, length-append}
use Rattle.std.specs.Prelude.{if◌then◌else◌, flat_map}
use Rattle.std.proofs.lemmas.Bool.{ne_eqb, eq-eqb}
use Rattle.std.proofs.lemmas.List.{append-nil}
use mathlib.Core.Option.{some, none, some-injective, some-ne-none}
use mathlib.Core.Option as maybe
use lib.ListN.{get_elem?}
use Rattle.publication_list.specs.Places.{at}

module _ {X : Type 0} where
  pub at_here : (p : ℕ) (x : X) (xs : List (ℕ × X)) → at p ((p, x) ∷ xs) ≡ x ∷ at p xs
  at_here p x xs = ap (λ (b : Bool). if b then x ∷ at p xs else at p xs) (eq-eqb p p refl)

  pub at_else : (p q : ℕ) (x : X) (xs : List (ℕ × X)) → q ≢ p → at q ((p, x) ∷ xs) ≡ at q xs
  at_else p q x xs ne = ap (λ (b : Bool). if b then x ∷ at q xs else at q xs) (ne_eqb p q (λ e. ne (sym e)))

  pub at_append : (p : ℕ) (xs ys : List (ℕ × X)) → at p (xs ++ ys) ≡ at p xs ++ at p ys
  at_append p [] ys = refl
  at_append p (x ∷ xs) ys = either_way (x.0 == p) x.1 (at p xs) (at p ys) (at p (xs ++ ys)) (at_append p xs ys)
    where
      either_way : (b : Bool) (x : X) (l m n : List X) → n ≡ l ++ m → (if b then x ∷ n else n) ≡ (if b then x ∷ l else l) ++ m
      either_way true x l m n e = ap (λ o. x ∷ o) e
      either_way false x l m n e = e

  pub there : (l : List (maybe.Option X)) (p : ℕ) (x : X) → get_or l p none ≡ some x → get_elem? l p ≡ some (some x)
  there [] p x e = absurd (some-ne-none x (sym e))
  there (y ∷ l) zero x e = ap some e
  there (y ∷ l) (suc p) x e = there l p x e

  pub no_items : (xs : List X) → length xs ≡ 0 → xs ≡ []
  no_items [] e = refl
  no_items (x ∷ xs) e = absurd (omega arith)

-- what the items of a list have, of which one is looked at
module _ {V X : Type 0} (f : V → List X) where
  part : (vs : List V) (id : ℕ) (v : V) → get_elem? vs id ≡ some v → length (f v) ≤ length (flat_map f vs)
  part [] id v e = absurd (some-ne-none v (sym e))
  part (x ∷ xs) zero v e = let s = ap (λ (z : V). length (f z)) (some-injective x v e) in omega (arith, length-append (f x) (flat_map f xs))
  part (x ∷ xs) (suc id) v e = let s = part xs id v e in omega (arith, length-append (f x) (flat_map f xs))

  -- where it alone has something, the whole is what it has
  pub lone : (vs : List V) (id : ℕ) (v w : V) → get_elem? vs id ≡ some v → length (flat_map f vs) ≡ length (f v) → (flat_map f vs ≡ f v) × (flat_map f (set vs id w) ≡ f w)
  lone [] id v w e all = absurd (some-ne-none v (sym e))
  lone (x ∷ xs) zero v w e all =
      let same : x ≡ v = some-injective x v e in
      let s = ap (λ (z : V). length (f z)) same in
      let nil : flat_map f xs ≡ [] = no_items (flat_map f xs) (omega (arith, length-append (f x) (flat_map f xs))) in
      (ap (λ l. f x ++ l) nil ∙ (append-nil (f x) ∙ ap f same), ap (λ l. f w ++ l) nil ∙ append-nil (f w))
  lone (x ∷ xs) (suc id) v w e all =
      let p = part xs id v e in
      let nil : f x ≡ [] = no_items (f x) (omega (arith, length-append (f x) (flat_map f xs))) in
      let rest = lone xs id v w e (omega (arith, length-append (f x) (flat_map f xs))) in
      (ap (λ l. l ++ flat_map f xs) nil ∙ rest.0, ap (λ l. l ++ flat_map f (set xs id w)) nil ∙ rest.1)

  -- where it has nothing and nobody has, or one has something and it is that one
  pub nobody : (vs : List V) (id : ℕ) (v w : V) → get_elem? vs id ≡ some v → flat_map f vs ≡ [] → (f v ≡ []) × (flat_map f (set vs id w) ≡ f w)
  nobody vs id v w e nothing = let l = ap length nothing in let p = part vs id v e in let nil : f v ≡ [] = no_items (f v) (omega arith) in
      (nil, (lone vs id v w e (l ∙ sym (ap length nil))).1)

  pub only : (vs : List V) (id : ℕ) (v w : V) (x y : X) (ys : List X) → get_elem? vs id ≡ some v → flat_map f vs ≡ x ∷ [] → f v ≡ y ∷ ys → (y ≡ x) × (ys ≡ []) × (flat_map f (set vs id w) ≡ f w)
  only vs id v w x y ys e one has =
      let l = ap length one in let m = ap length has in let p = part vs id v e in
      let t = lone vs id v w e (omega arith) in
      let nil : ys ≡ [] = no_items ys (omega arith) in
      let same : x ∷ [] ≡ y ∷ ys = sym one ∙ (t.0 ∙ has) in
      (ap (λ (l : List X). get_or l 0 y) (sym same), nil, t.1)

  pub same : (vs : List V) (id : ℕ) (v w : V) → get_elem? vs id ≡ some v → f w ≡ f v → flat_map f (set vs id w) ≡ flat_map f vs
  same [] id v w e is = refl
  same (x ∷ xs) zero v w e is = ap (λ l. l ++ flat_map f xs) (is ∙ ap f (sym (some-injective x v e)))
  same (x ∷ xs) (suc id) v w e is = ap (λ l. f x ++ l) (same xs id v w e is)

  -- one comes last that has nothing
  pub one_more : (vs : List V) (w : V) → f w ≡ [] → flat_map f (vs ++ w ∷ []) ≡ flat_map f vs
  one_more [] w nil = ap (λ l. l ++ []) nil
  one_more (x ∷ xs) w nil = ap (λ l. f x ++ l) (one_more xs w nil)
