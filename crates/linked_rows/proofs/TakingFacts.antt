-- What taking a node comes to, in its two cases; and a pool's room by the lengths of its lists.
use Rattle.std.proofs.Common.{◌≡◌, ℕ, ◌-◌, ◌++◌, List, [], ◌∷◌, length, set, refl, arith}
use Rattle.std.proofs.lemmas.Bool.{eq-eqb, ne_eqb}
use Rattle.linked_rows.specs.declared.links.Link.{Link}
use Rattle.linked_rows.specs.Links.{after, without_place}
use Rattle.linked_rows.specs.Pool.{IsPool}
use Rattle.linked_rows.specs.Taking.{taken_place, taken_links, taken_values}

module _ (links : List Link) (free : ℕ) (none : after links free ≡ free) where
  pub new_place : taken_place links free ≡ length links
  new_place = rw (eq-eqb (after links free) free none) refl

  pub new_links : taken_links links free ≡ links ++ record { before = length links; after = length links } ∷ []
  new_links = rw (eq-eqb (after links free) free none) refl

  pub new_values : {T : Type 0} (values : List T) (v : T) → taken_values links values free v ≡ values ++ v ∷ []
  new_values values v = rw (eq-eqb (after links free) free none) refl

module _ (links : List Link) (free : ℕ) (some : after links free ≡ free → ⊥) where
  pub first_place : taken_place links free ≡ after links free
  first_place = rw (ne_eqb (after links free) free some) refl

  pub first_links : taken_links links free ≡ without_place links (after links free)
  first_links = rw (ne_eqb (after links free) free some) refl

  pub first_values : {T : Type 0} (values : List T) (v : T) → taken_values links values free v ≡ set values (after links free - free - 1) v
  first_values values v = rw (ne_eqb (after links free) free some) refl

pub pool_by_length : {T : Type 0} (links : List Link) (values : List T) (lists spare n m links_capacity values_capacity : ℕ) → IsPool links values lists spare (links_capacity - n) (values_capacity - m) → n ≡ length links → m ≡ length values
    → IsPool links values lists spare (links_capacity - length links) (values_capacity - length values)
pool_by_length links values lists spare n m links_capacity values_capacity pool e f = record { rings = pool.rings; size = pool.size; in_links = omega (arith, pool.in_links, e); in_values = omega (arith, pool.in_values, f) }

pub pool_by_len : {T : Type 0} (links : List Link) (values : List T) (lists spare n m links_capacity values_capacity : ℕ) → IsPool links values lists spare (links_capacity - length links) (values_capacity - length values) → n ≡ length links → m ≡ length values
    → IsPool links values lists spare (links_capacity - n) (values_capacity - m)
pool_by_len links values lists spare n m links_capacity values_capacity pool e f = record { rings = pool.rings; size = pool.size; in_links = omega (arith, pool.in_links, e); in_values = omega (arith, pool.in_values, f) }
