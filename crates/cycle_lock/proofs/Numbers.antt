-- The numbers that views stand for, at each step.
use Rattle.std.proofs.Common.{◌≡◌, ◌≢◌, ℕ, suc, zero, ◌+◌, ◌^◌, ◌<◌, ◌≤◌, ◌⊎◌, ◌==◌, Bool, true, false, List, [], ◌∷◌, ◌++◌, length, set, sym, refl, ap, ◌∙◌, subst, inl, inr, ⊎_elim, arith}
use Rattle.std.proofs.lemmas.Bool.{ne_eqb, eq-eqb}
use mathlib.Core.Option.{some, some-injective, some-ne-none}
use mathlib.Core.Logic.{dite}
use native.Mathlib.Decide.{ℕ_discrete, dec_lt}
use lib.ListN.{get_elem?}
use Rattle.atomic_table.proofs.Lists.{at_set}
use Rattle.command_types.specs.declared.ask.Entry.{Entry}
use Rattle.cycle_lock.specs.declared.rule.View.{View}
use Rattle.cycle_lock.specs.Accounts.{by}
use Rattle.cycle_lock.specs.Views.{total, owns, splits_left, width}
use Rattle.cycle_lock.specs.Accounts.{one_if, times}
use Rattle.cycle_lock.specs.Numbers.{Counted}
use Rattle.cycle_lock.proofs.Line.{total_set, total_snoc, at_new}

pub times-append : (x : ℕ) (xs ys : List ℕ) → times x (xs ++ ys) ≡ times x xs + times x ys
times-append x [] ys = omega arith
times-append x (y ∷ xs) ys = let s = times-append x xs ys in omega arith

pub times_here : (x : ℕ) (ys : List ℕ) → times x (x ∷ ys) ≡ suc (times x ys)
times_here x ys = let e = ap one_if (eq-eqb x x refl) in omega arith

pub times_there : (x y : ℕ) (ys : List ℕ) → y ≢ x → times x (y ∷ ys) ≡ times x ys
times_there x y ys ne = let e = ap one_if (ne_eqb y x ne) in omega arith

one_at_most : (b : Bool) → one_if b ≤ 1
one_at_most true = omega arith
one_at_most false = omega arith

-- it stands there no more often than it has elements
pub times_within : (x : ℕ) (ys : List ℕ) → times x ys ≤ length ys
times_within x [] = omega arith
times_within x (y ∷ ys) = let s = times_within x ys in let b = one_at_most (y == x) in omega arith

pub total_at : (f : View → ℕ) (vs : List View) (i : ℕ) (v : View) → get_elem? vs i ≡ some v → f v ≤ total f vs
total_at f [] i v e = absurd (some-ne-none v (sym e))
total_at f (x ∷ xs) zero v e = let s = ap f (some-injective x v e) in omega arith
total_at f (x ∷ xs) (suc i) v e = let s = total_at f xs i v e in omega arith

pub total_two : (f : View → ℕ) (vs : List View) (i j : ℕ) (v w : View) → get_elem? vs i ≡ some v → get_elem? vs j ≡ some w → i ≢ j → f v + f w ≤ total f vs
total_two f [] i j v w p q ne = absurd (some-ne-none v (sym p))
total_two f (x ∷ xs) zero zero v w p q ne = absurd (ne refl)
total_two f (x ∷ xs) zero (suc j) v w p q ne = let s = ap f (some-injective x v p) in let t = total_at f xs j w q in omega arith
total_two f (x ∷ xs) (suc i) zero v w p q ne = let s = ap f (some-injective x w q) in let t = total_at f xs i v p in omega arith
total_two f (x ∷ xs) (suc i) (suc j) v w p q ne = let s = total_two f xs i j v w p q (λ e. ne (ap suc e)) in omega arith

-- of two views, one at most stands for a number
pub one_owner : (next : ℕ) (vs : List View) (since : List Entry) (c : Counted next vs since) (n i j : ℕ) (v w : View) → get_elem? vs i ≡ some v → get_elem? vs j ≡ some w → 1 ≤ owns n v → 1 ≤ owns n w → i ≡ j
one_owner next vs since c n i j v w p q a b = dite (ℕ_discrete i j) (λ e. e) (λ ne. let t = total_two (owns n) vs i j v w p q ne in let o = c.once n in absurd (omega arith))

-- a number that somebody stands for was drawn
pub was_drawn : (next : ℕ) (vs : List View) (since : List Entry) (c : Counted next vs since) (n i : ℕ) (v : View) → get_elem? vs i ≡ some v → 1 ≤ owns n v → n < next
was_drawn next vs since c n i v p a = dite (dec_lt n next) (λ h. h) (λ no_lt. let t = total_at (owns n) vs i v p in let le : next ≤ n = omega arith in let b = c.below n le in absurd (omega arith))

each_may : (P : ℕ → View → Type 0) (vs : List View) (id : ℕ) (w : View) → P id w → ((j : ℕ) (u : View) → j ≢ id → get_elem? vs j ≡ some u → P j u) → (j : ℕ) (u : View) → get_elem? (set vs id w) j ≡ some u → P j u
each_may P vs id w mine others j u p = ⊎_elim
    (λ (x : (j ≡ id) × (w ≡ u)). subst (λ (z : ℕ × View). P z.0 z.1) (λ k. (sym x.0 k, x.1 k)) mine)
    (λ (x : (j ≢ id) × (get_elem? vs j ≡ some u)). others j u x.0 x.1)
    (at_set vs id j w u p)

-- a view changes, and stands for the numbers for which it stood
pub counted_kept : (next : ℕ) (vs : List View) (since since' : List Entry) (c : Counted next vs since) (id : ℕ) (v w : View) → get_elem? vs id ≡ some v
    → ((n : ℕ) → owns n w ≡ owns n v) → splits_left w ≡ splits_left v → width w ≡ width v → ((n : ℕ) → next ≤ n → by n since' ≡ []) → Counted next (set vs id w) since'
counted_kept next vs since since' c id v w at same left new entries = record {
  small = c.small;
  few = let f = c.few in let s = total_set width vs id v w at in omega arith;
  once = λ n. let o = c.once n in let s = total_set (owns n) vs id v w at in let e = same n in omega arith;
  below = λ n le. let o = c.below n le in let s = total_set (owns n) vs id v w at in let e = same n in omega arith;
  entries = entries;
  splitter = each_may (λ j u. 0 < splits_left u → next + splits_left u ≡ 2 ^ 32) vs id w (λ pos. let t = c.splitter id v at in let q : 0 < splits_left v = omega arith in let r = t q in omega arith) (λ j u _ p. c.splitter j u p);
  alone = λ i j a b p q pa pb. ⊎_elim
      (λ (x : (i ≡ id) × (w ≡ a)). let ma = ap splits_left x.1 in ⊎_elim
      (λ (y : (j ≡ id) × (w ≡ b)). x.0 ∙ sym y.0)
      (λ (y : (j ≢ id) × (get_elem? vs j ≡ some b)). x.0 ∙ c.alone id j v b at y.1 (omega arith) pb)
      (at_set vs id j w b q))
      (λ (x : (i ≢ id) × (get_elem? vs i ≡ some a)). ⊎_elim
      (λ (y : (j ≡ id) × (w ≡ b)). let mb = ap splits_left y.1 in c.alone i id a v x.1 at pa (omega arith) ∙ sym y.0)
      (λ (y : (j ≢ id) × (get_elem? vs j ≡ some b)). c.alone i j a b x.1 y.1 pa pb)
      (at_set vs id j w b q))
      (at_set vs id i w a p);
}

-- word 3 gives out the next number
pub counted_draws : (next : ℕ) (vs : List View) (since : List Entry) (c : Counted next vs since) (id : ℕ) (v w : View) → get_elem? vs id ≡ some v
    → ((n : ℕ) → owns n w ≡ times n (next ∷ []) + owns n v) → 0 < splits_left v → splits_left w + 1 ≡ splits_left v → width w ≡ width v + 1 → Counted (next + 1) (set vs id w) since
counted_draws next vs since c id v w at more pos left new = let t = c.splitter id v at pos in record {
  small = omega arith;
  few = let f = c.few in let s = total_set width vs id v w at in omega arith;
  once = λ n. let o = c.once n in let s = total_set (owns n) vs id v w at in let e = more n in dite (ℕ_discrete next n)
      (λ same. let b = c.below n (omega arith) in let h = subst (λ (z : ℕ). times n (z ∷ []) ≡ suc (times n [])) (sym same) (times_here n []) in omega arith)
      (λ other. let h = times_there n next [] other in omega arith);
  below = λ n le. let o = c.below n (omega arith) in let s = total_set (owns n) vs id v w at in let e = more n in let h = times_there n next [] (λ same. omega arith) in omega arith;
  entries = λ n le. c.entries n (omega arith);
  splitter = each_may (λ j u. 0 < splits_left u → next + 1 + splits_left u ≡ 2 ^ 32) vs id w (λ p. omega arith) (λ j u ne p q. absurd (ne (c.alone j id u v p at q pos)));
  alone = λ i j a b p q pa pb. ⊎_elim
      (λ (x : (i ≡ id) × (w ≡ a)). ⊎_elim
      (λ (y : (j ≡ id) × (w ≡ b)). x.0 ∙ sym y.0)
      (λ (y : (j ≢ id) × (get_elem? vs j ≡ some b)). absurd (y.0 (c.alone j id b v y.1 at pb pos)))
      (at_set vs id j w b q))
      (λ (x : (i ≢ id) × (get_elem? vs i ≡ some a)). absurd (x.0 (c.alone i id a v x.1 at pa pos)))
      (at_set vs id i w a p);
}

alone_set : (next : ℕ) (vs : List View) (since : List Entry) (c : Counted next vs since) (id : ℕ) (v w : View) → get_elem? vs id ≡ some v → splits_left w ≤ splits_left v
    → (i j : ℕ) (a b : View) → get_elem? (set vs id w) i ≡ some a → get_elem? (set vs id w) j ≡ some b → 0 < splits_left a → 0 < splits_left b → i ≡ j
alone_set next vs since c id v w at left i j a b p q pa pb = ⊎_elim
    (λ (x : (i ≡ id) × (w ≡ a)). let ma = ap splits_left x.1 in ⊎_elim
    (λ (y : (j ≡ id) × (w ≡ b)). x.0 ∙ sym y.0)
    (λ (y : (j ≢ id) × (get_elem? vs j ≡ some b)). x.0 ∙ c.alone id j v b at y.1 (omega arith) pb)
    (at_set vs id j w b q))
    (λ (x : (i ≢ id) × (get_elem? vs i ≡ some a)). ⊎_elim
    (λ (y : (j ≡ id) × (w ≡ b)). let mb = ap splits_left y.1 in c.alone i id a v x.1 at pa (omega arith) ∙ sym y.0)
    (λ (y : (j ≢ id) × (get_elem? vs j ≡ some b)). c.alone i j a b x.1 y.1 pa pb)
    (at_set vs id j w b q))
    (at_set vs id i w a p)

-- where a view with some splits_left is, before the two were joined
before : (next : ℕ) (vs : List View) (id other : ℕ) (v w b spent : View) → get_elem? vs id ≡ some v → get_elem? vs other ≡ some w → splits_left b ≡ splits_left v + splits_left w → splits_left spent ≡ 0
    → (i : ℕ) (a : View) → get_elem? (set (set vs id b) other spent) i ≡ some a → 0 < splits_left a → ((i ≡ id) × ((0 < splits_left v) ⊎ (0 < splits_left w))) ⊎ ((i ≢ id) × (i ≢ other) × (get_elem? vs i ≡ some a))
before next vs id other v w b spent at there left left' i a p pa = ⊎_elim
    (λ (x : (i ≡ other) × (spent ≡ a)). let e = ap splits_left x.1 in absurd (omega arith))
    (λ (x : (i ≢ other) × (get_elem? (set vs id b) i ≡ some a)). ⊎_elim
    (λ (y : (i ≡ id) × (b ≡ a)). let e = ap splits_left y.1 in inl (y.0, dite (ℕ_discrete (splits_left v) 0) (λ z. inr (omega arith)) (λ nz. inl (omega arith))))
    (λ (y : (i ≢ id) × (get_elem? vs i ≡ some a)). inr (y.0, x.0, y.1))
    (at_set vs id i b a x.1))
    (at_set (set vs id b) other i spent a p)

joined_alone : (next : ℕ) (vs : List View) (since : List Entry) (c : Counted next vs since) (id other : ℕ) (v w b spent : View) → get_elem? vs id ≡ some v → get_elem? vs other ≡ some w → splits_left b ≡ splits_left v + splits_left w → splits_left spent ≡ 0
    → (i j : ℕ) (x y : View) → get_elem? (set (set vs id b) other spent) i ≡ some x → get_elem? (set (set vs id b) other spent) j ≡ some y → 0 < splits_left x → 0 < splits_left y → i ≡ j
joined_alone next vs since c id other v w b spent at there left left' i j x y p q px py = ⊎_elim
    (λ (s : (i ≡ id) × ((0 < splits_left v) ⊎ (0 < splits_left w))). ⊎_elim
    (λ (t : (j ≡ id) × ((0 < splits_left v) ⊎ (0 < splits_left w))). s.0 ∙ sym t.0)
    (λ (t : (j ≢ id) × (j ≢ other) × (get_elem? vs j ≡ some y)). absurd (⊎_elim (λ (h : 0 < splits_left v). t.0 (c.alone j id y v t.2 at py h)) (λ (h : 0 < splits_left w). t.1 (c.alone j other y w t.2 there py h)) s.1))
    (before next vs id other v w b spent at there left left' j y q py))
    (λ (s : (i ≢ id) × (i ≢ other) × (get_elem? vs i ≡ some x)). ⊎_elim
    (λ (t : (j ≡ id) × ((0 < splits_left v) ⊎ (0 < splits_left w))). absurd (⊎_elim (λ (h : 0 < splits_left v). s.0 (c.alone i id x v s.2 at px h)) (λ (h : 0 < splits_left w). s.1 (c.alone i other x w s.2 there px h)) t.1))
    (λ (t : (j ≢ id) × (j ≢ other) × (get_elem? vs j ≡ some y)). c.alone i j x y s.2 t.2 px py)
    (before next vs id other v w b spent at there left left' j y q py))
    (before next vs id other v w b spent at there left left' i x p px)

-- a view gives the number that it drew to a new one
pub counted_splits : (next : ℕ) (vs : List View) (since : List Entry) (c : Counted next vs since) (id : ℕ) (v l r : View) → get_elem? vs id ≡ some v
    → ((n : ℕ) → owns n l + owns n r ≡ owns n v) → splits_left l ≡ splits_left v → splits_left r ≡ 0 → width l + width r ≡ width v → Counted next (set vs id l ++ r ∷ []) since
counted_splits next vs since c id v l r at parts left none wide = record {
  small = c.small;
  few = let f = c.few in let s = total_set width vs id v l at in let t = total_snoc width (set vs id l) r in omega arith;
  once = λ n. let o = c.once n in let s = total_set (owns n) vs id v l at in let t = total_snoc (owns n) (set vs id l) r in let e = parts n in omega arith;
  below = λ n le. let o = c.below n le in let s = total_set (owns n) vs id v l at in let t = total_snoc (owns n) (set vs id l) r in let e = parts n in omega arith;
  entries = c.entries;
  splitter = λ j u p q. ⊎_elim
      (λ (x : get_elem? (set vs id l) j ≡ some u). each_may (λ j u. 0 < splits_left u → next + splits_left u ≡ 2 ^ 32) vs id l (λ pos. let b : 0 < splits_left v = omega arith in let t = c.splitter id v at b in omega arith) (λ j u _ p. c.splitter j u p) j u x q)
      (λ (x : (j ≡ length (set vs id l)) × (r ≡ u)). let e = ap splits_left x.1 in absurd (omega arith))
      (at_new (set vs id l) r u j p);
  alone = λ i j a b p q pa pb. ⊎_elim
      (λ (x : get_elem? (set vs id l) i ≡ some a). ⊎_elim
      (λ (y : get_elem? (set vs id l) j ≡ some b). alone_set next vs since c id v l at (omega arith) i j a b x y pa pb)
      (λ (y : (j ≡ length (set vs id l)) × (r ≡ b)). let e = ap splits_left y.1 in absurd (omega arith))
      (at_new (set vs id l) r b j q))
      (λ (x : (i ≡ length (set vs id l)) × (r ≡ a)). let e = ap splits_left x.1 in absurd (omega arith))
      (at_new (set vs id l) r a i p);
}

-- a view gives a part of the numbers for which it stands to a new one, and one of the two at most may split off passes
pub counted_parts : (next : ℕ) (vs : List View) (since : List Entry) (c : Counted next vs since) (id : ℕ) (v l r : View) → get_elem? vs id ≡ some v
    → ((n : ℕ) → owns n l + owns n r ≡ owns n v) → splits_left l + splits_left r ≡ splits_left v → (splits_left l ≡ 0) ⊎ (splits_left r ≡ 0) → width l + width r ≡ width v → Counted next (set vs id l ++ r ∷ []) since
counted_parts next vs since c id v l r at parts left one wide =
    let apart : (i : ℕ) (a : View) → get_elem? (set vs id l) i ≡ some a → 0 < splits_left a → 0 < splits_left r → ⊥ = λ i a p pa pr. ⊎_elim
    (λ (x : (i ≡ id) × (l ≡ a)). let e = ap splits_left x.1 in ⊎_elim (λ (z : splits_left l ≡ 0). absurd (omega arith)) (λ (z : splits_left r ≡ 0). absurd (omega arith)) one)
    (λ (x : (i ≢ id) × (get_elem? vs i ≡ some a)). x.0 (c.alone i id a v x.1 at pa (omega arith)))
    (at_set vs id i l a p)
    in record {
      small = c.small;
      few = let f = c.few in let s = total_set width vs id v l at in let t = total_snoc width (set vs id l) r in omega arith;
      once = λ n. let o = c.once n in let s = total_set (owns n) vs id v l at in let t = total_snoc (owns n) (set vs id l) r in let e = parts n in omega arith;
      below = λ n le. let o = c.below n le in let s = total_set (owns n) vs id v l at in let t = total_snoc (owns n) (set vs id l) r in let e = parts n in omega arith;
      entries = c.entries;
      splitter = λ j u p q. ⊎_elim
          (λ (x : get_elem? (set vs id l) j ≡ some u). each_may (λ j u. 0 < splits_left u → next + splits_left u ≡ 2 ^ 32) vs id l
          (λ pos. let b : 0 < splits_left v = omega arith in let t = c.splitter id v at b in ⊎_elim (λ (z : splits_left l ≡ 0). absurd (omega arith)) (λ (z : splits_left r ≡ 0). omega arith) one) (λ j u _ p. c.splitter j u p) j u x q)
          (λ (x : (j ≡ length (set vs id l)) × (r ≡ u)). let e = ap splits_left x.1 in let b : 0 < splits_left v = omega arith in let t = c.splitter id v at b in
          ⊎_elim (λ (z : splits_left l ≡ 0). omega arith) (λ (z : splits_left r ≡ 0). absurd (omega arith)) one)
          (at_new (set vs id l) r u j p);
      alone = λ i j a b p q pa pb. ⊎_elim
          (λ (x : get_elem? (set vs id l) i ≡ some a). ⊎_elim
          (λ (y : get_elem? (set vs id l) j ≡ some b). alone_set next vs since c id v l at (omega arith) i j a b x y pa pb)
          (λ (y : (j ≡ length (set vs id l)) × (r ≡ b)). let e = ap splits_left y.1 in absurd (apart i a x pa (omega arith)))
          (at_new (set vs id l) r b j q))
          (λ (x : (i ≡ length (set vs id l)) × (r ≡ a)). ⊎_elim
          (λ (y : get_elem? (set vs id l) j ≡ some b). let e = ap splits_left x.1 in absurd (apart j b y pb (omega arith)))
          (λ (y : (j ≡ length (set vs id l)) × (r ≡ b)). x.0 ∙ sym y.0)
          (at_new (set vs id l) r b j q))
          (at_new (set vs id l) r a i p);
    }

-- a view takes in another, which is spent
pub counted_joins : (next : ℕ) (vs : List View) (since : List Entry) (c : Counted next vs since) (id other : ℕ) (v w b spent : View) → get_elem? vs id ≡ some v → other ≢ id → get_elem? vs other ≡ some w → get_elem? (set vs id b) other ≡ some w
    → ((n : ℕ) → owns n b ≡ owns n v + owns n w) → ((n : ℕ) → owns n spent ≡ 0) → splits_left b ≡ splits_left v + splits_left w → splits_left spent ≡ 0 → width b ≡ width v + width w → width spent ≡ 0
    → Counted next (set (set vs id b) other spent) since
counted_joins next vs since c id other v w b spent at apart there there' both none left left' wide gone = let vs' : List View = set vs id b in record {
  small = c.small;
  few = let f = c.few in let s = total_set width vs id v b at in let t = total_set width vs' other w spent there' in omega arith;
  once = λ n. let o = c.once n in let s = total_set (owns n) vs id v b at in let t = total_set (owns n) vs' other w spent there' in let e = both n in let z = none n in omega arith;
  below = λ n le. let o = c.below n le in let s = total_set (owns n) vs id v b at in let t = total_set (owns n) vs' other w spent there' in let e = both n in let z = none n in omega arith;
  entries = c.entries;
  splitter = each_may (λ j u. 0 < splits_left u → next + splits_left u ≡ 2 ^ 32) vs' other spent (λ pos. absurd (omega arith))
      (λ j u _ p. each_may (λ j u. 0 < splits_left u → next + splits_left u ≡ 2 ^ 32) vs id b
      (λ pos. dite (ℕ_discrete (splits_left v) 0)
      (λ z. let q : 0 < splits_left w = omega arith in let t = c.splitter other w there q in omega arith)
      (λ nz. let q : 0 < splits_left v = omega arith in let t = c.splitter id v at q in dite (ℕ_discrete (splits_left w) 0) (λ z. omega arith) (λ nw. absurd (apart (c.alone other id w v there at (omega arith) q)))))
      (λ j u _ p. c.splitter j u p) j u p);
  alone = λ i j x y p q px py. joined_alone next vs since c id other v w b spent at there left left' i j x y p q px py;
}
