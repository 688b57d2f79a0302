-- A new pool: each end is alone in its ring.
use Rattle.std.proofs.Common.{◌≡◌, ℕ, zero, suc, ◌+◌, ◌<◌, ◌≤◌, ◌++◌, List, [], ◌∷◌, length, get_or, replicate, map, refl, sym, ap, subst, ◌∙◌, ⊎_elim, arith}
use Rattle.std.specs.Prelude.{sum_by}
use Rattle.std.proofs.lemmas.Bool.{cases_lt}
use Rattle.std.proofs.lemmas.List.{length_push, get_or_push, get_or-replicate, length-replicate, replicate_more}
use Rattle.std.proofs.lemmas.List.Sums.{sum_by-cons}
use Rattle.linked_rows.specs.declared.links.Link.{Link}
use Rattle.linked_rows.specs.Links.{no_link, after, before, ends_alone}
use Rattle.linked_rows.specs.Pool.{entries_of, lists_in, HasRings, IsPool}
use Rattle.linked_rows.proofs.LinkFacts.{after-push, before-push}
use Rattle.linked_rows.proofs.Pools.{pool_is, lists_are}

pub length-ends_alone : (n : ℕ) → length (ends_alone n) ≡ n
length-ends_alone zero = refl
length-ends_alone (suc n) = length_push (ends_alone n) (record { before = n; after = n }) ∙ omega (arith, length-ends_alone n)

alone_last : (n : ℕ) → get_or (ends_alone (suc n)) n no_link ≡ record { before = n; after = n }
alone_last n = get_or_push (ends_alone n) (record { before = n; after = n }) no_link n (length-ends_alone n)

after-alone : (n e : ℕ) → e < n → after (ends_alone n) e ≡ e
unfolding after
after-alone zero e low = absurd (omega arith)
after-alone (suc n) e low =
    ⊎_elim (λ (small : e < n). after-push (ends_alone n) (record { before = n; after = n }) e (omega (arith, small, length-ends_alone n)) ∙ after-alone n e small)
    (λ (high : n ≤ e). let same : e ≡ n = omega arith in rw same (ap (λ (l : Link). l.after) (alone_last n)))
    (cases_lt e n)

before-alone : (n e : ℕ) → e < n → before (ends_alone n) e ≡ e
unfolding before
before-alone zero e low = absurd (omega arith)
before-alone (suc n) e low =
    ⊎_elim (λ (small : e < n). before-push (ends_alone n) (record { before = n; after = n }) e (omega (arith, small, length-ends_alone n)) ∙ before-alone n e small)
    (λ (high : n ≤ e). let same : e ≡ n = omega arith in rw same (ap (λ (l : Link). l.before) (alone_last n)))
    (cases_lt e n)

sum-replicate : (n : ℕ) → sum_by (λ (zs : List ℕ). length zs) (replicate n []) ≡ 0
sum-replicate zero = refl
sum-replicate (suc n) = omega (arith, sum_by-cons (λ (zs : List ℕ). length zs) [] (replicate n []), sum-replicate n)

map-replicate : {A B : Type 0} (n : ℕ) (f : A → B) (a : A) → map f (replicate n a) ≡ replicate n (f a)
map-replicate zero f a = refl
map-replicate (suc n) f a = ap (λ bs. f a ∷ bs) (map-replicate n f a)

module _ (lists : ℕ) where
  rings_are : replicate {A = List ℕ} lists [] ++ [] ∷ [] ≡ replicate (lists + 1) []
  rings_are = replicate_more lists []

  has_alone : HasRings (ends_alone (lists + 1)) (replicate lists [] ++ [] ∷ [])
  has_alone =
      subst (HasRings (ends_alone (lists + 1))) (sym rings_are)
      (let many : length (replicate {A = List ℕ} (lists + 1) []) ≡ lists + 1 = length-replicate (lists + 1) [] in
      record {
        chained = λ end low. rw (get_or-replicate {A = List ℕ} (lists + 1) end [] [] (omega (arith, low, many)))
            (record { after = after-alone (lists + 1) end (omega (arith, low, many)); before = before-alone (lists + 1) end (omega (arith, low, many)) });
        nodes = λ end low. rw (get_or-replicate {A = List ℕ} (lists + 1) end [] [] (omega (arith, low, many))) tt;
        few = omega (arith, sum-replicate (lists + 1), many, length-ends_alone (lists + 1));
      })

  pub pool_alone : {T : Type 0} (values : List T) (links_room values_room : ℕ) → length values ≡ 0 → IsPool (ends_alone (lists + 1)) values lists 0 links_room values_room
  pool_alone values links_room values_room none =
      pool_is (ends_alone (lists + 1)) lists (replicate lists []) [] (length-replicate lists []) has_alone values 0 links_room values_room (omega (arith, length-ends_alone (lists + 1), none)) (omega arith) (omega arith)

  pub lists_alone : {T : Type 0} (values : List T) → lists_in (ends_alone (lists + 1)) values lists ≡ replicate lists []
  lists_alone values =
      lists_are (ends_alone (lists + 1)) lists (replicate lists []) [] (length-replicate lists []) has_alone values ∙ map-replicate lists (entries_of values (lists + 1)) []
