-- A pool: what its lists are, and what stays of it when its links change.
use Rattle.std.proofs.Common.{◌≡◌, ◌≢◌, ℕ, zero, suc, ◌+◌, ◌-◌, ◌<◌, ◌≤◌, ◌++◌, List, [], ◌∷◌, Some, None, IsTrue, length, get_or, map, refl, sym, ap, subst, ◌∙◌, ◌⊎◌, inl, inr, ⊎_elim, arith, is_some, add-one}
use Rattle.std.proofs.lemmas.List.{length_push, length-map, get_or_append_left, get_or_at, take_at, get_or-map}
use Rattle.std.proofs.lemmas.Option.{slice_get_cases}
use Rattle.std.specs.Prelude.{slice_get}
use Rattle.linked_rows.specs.declared.links.Link.{Link}
use Rattle.linked_rows.specs.Links.{after, ring_of, rings_below}
use Rattle.linked_rows.specs.Rows.{value_of, first_of, list_of}
use Rattle.linked_rows.specs.Pool.{ring, with_entry, entries_of, lists_in, Each, IsChain, IsNode, HasRings, IsPool}
use Rattle.linked_rows.proofs.Chains.{Has}
use Rattle.linked_rows.proofs.Rings.{walked, rings_walked, rings_before}
use Rattle.linked_rows.proofs.Lists.{value_found}

length-rings_below : (links : List Link) (n : ℕ) → length (rings_below links n) ≡ n
length-rings_below links zero = refl
length-rings_below links (suc n) = length_push (rings_below links n) (ring_of links n) ∙ omega (arith, length-rings_below links n)

-- rings of lists, and that of the free nodes behind them
module _ (links : List Link) (lists : ℕ) (rs : List (List ℕ)) (free : List ℕ) (many : length rs ≡ lists) (has : HasRings links (rs ++ free ∷ [])) where
  length_all : length (rs ++ free ∷ []) ≡ lists + 1
  length_all = omega (arith, length_push rs free, many)

  free_is : ring_of links lists ≡ free
  free_is = walked links (rs ++ free ∷ []) lists has (omega (arith, length_all)) ∙ get_or_at rs free [] [] lists many

  all_are : rings_below links (lists + 1) ≡ rs ++ free ∷ []
  all_are = rings_walked links (rs ++ free ∷ []) (lists + 1) has (sym length_all)

  below_are : rings_below links lists ≡ rs
  below_are = rings_before links (rs ++ free ∷ []) lists has (omega (arith, length_all)) ∙ take_at rs (free ∷ []) lists many

  pub pool_is : {T : Type 0} (values : List T) (spare links_room values_room : ℕ) → length links ≡ lists + 1 + length values → spare ≤ length free + links_room → spare ≤ length free + values_room → IsPool links values lists spare links_room values_room
  pool_is values spare links_room values_room size in_links in_values = record {
    rings = subst (HasRings links) (sym all_are) has;
    size = size;
    in_links = omega (arith, in_links, ap length free_is);
    in_values = omega (arith, in_values, ap length free_is);
  }

  pub lists_are : {T : Type 0} (values : List T) → lists_in links values lists ≡ map (entries_of values (lists + 1)) rs
  unfolding lists_in
  lists_are values = ap (λ rings. map (entries_of values (lists + 1)) rings) below_are

-- the first of a list
pub record IsFirst (places : List ℕ) (first : ℕ) : Type 0 where
  pub rest : List ℕ
  pub whole : places ≡ first ∷ rest

pub chain_cases : (links : List Link) (p : ℕ) (zs : List ℕ) (q : ℕ) → IsChain links p zs q → ((after links p ≡ q) × (zs ≡ [])) ⊎ IsFirst zs (after links p)
chain_cases links p [] q c = inl (c.after, refl)
chain_cases links p (z ∷ zs) q c = inr (record { rest = zs; whole = ap (λ y. y ∷ zs) (sym c.0.after) })

module _ {T : Type 0} (links : List Link) (values : List T) (lists spare links_room values_room : ℕ) (pool : IsPool links values lists spare links_room values_room) where
  abbrev pub own_rings : List (List ℕ)
  own_rings = rings_below links lists

  abbrev pub own_free : List ℕ
  own_free = ring_of links lists

  pub many : length own_rings ≡ lists
  many = length-rings_below links lists

  pub own_has : HasRings links (own_rings ++ own_free ∷ [])
  own_has = subst (λ n. HasRings links (rings_below links n)) (add-one lists) pool.rings

  pub ends : length (own_rings ++ own_free ∷ []) ≡ lists + 1
  ends = omega (arith, length_push own_rings own_free, many)

  pub own_lists : lists_in links values lists ≡ map (entries_of values (lists + 1)) own_rings
  own_lists = lists_are links lists own_rings own_free many own_has values

  pub length_lists : length (lists_in links values lists) ≡ lists
  unfolding lists_in
  length_lists = length-map own_rings (entries_of values (lists + 1)) ∙ many

  pub ring_left : (end : ℕ) → end < lists → ring (own_rings ++ own_free ∷ []) end ≡ ring own_rings end
  ring_left end low = get_or_append_left own_rings (own_free ∷ []) [] end (omega (arith, low, many))

  pub free_ring : ring (own_rings ++ own_free ∷ []) lists ≡ own_free
  free_ring = get_or_at own_rings own_free [] [] lists many

  pub has_value : (y : ℕ) → IsNode (lists + 1) (length links) y → (v : T) × (slice_get values (y - (lists + 1)) ≡ Some v)
  has_value y node =
      ⊎_elim (λ (f : (v : T) × (y - (lists + 1) < length values) × (slice_get values (y - (lists + 1)) ≡ Some v) × (get_or values (y - (lists + 1)) v ≡ v)). (f.0, f.2))
      (λ (past : (length values ≤ y - (lists + 1)) × (slice_get values (y - (lists + 1)) ≡ None)). absurd (omega (arith, past.0, node.low, node.high, pool.size)))
      (slice_get_cases values (y - (lists + 1))).1

  pub nodes_of : (end : ℕ) → end < lists + 1 → Each (IsNode (lists + 1) (length links)) (ring (own_rings ++ own_free ∷ []) end)
  nodes_of end low = subst (λ n. Each (IsNode n (length links)) (ring (own_rings ++ own_free ∷ []) end)) ends (own_has.nodes end (omega (arith, low, ends)))

  -- the first node after a place of a ring
  pub first_is : (p : ℕ) (zs : List ℕ) (q : ℕ) → q < lists + 1 → IsChain links p zs q → Each (IsNode (lists + 1) (length links)) zs → after links p ≢ q → first_of (entries_of values (lists + 1) zs) ≡ Some (after links p)
  first_is p [] q low c nodes ne = absurd (ne c.after)
  first_is p (z ∷ zs) q low c nodes ne =
      let v = has_value z nodes.0 in
      ap (λ o. first_of (with_entry z o (entries_of values (lists + 1) zs))) v.1 ∙ ap Some (sym c.0.after)

  pub first_none : (p : ℕ) (zs : List ℕ) (q : ℕ) → q < lists + 1 → IsChain links p zs q → Each (IsNode (lists + 1) (length links)) zs → after links p ≡ q → first_of (entries_of values (lists + 1) zs) ≡ None
  first_none p [] q low c nodes e = refl
  first_none p (z ∷ zs) q low c nodes e = absurd (omega (arith, nodes.0.low, c.0.after, e))

  -- a place of a list's ring is live
  pub live_in : (end y : ℕ) → end < lists → Has (ring own_rings end) y → IsNode (lists + 1) (length links) y → IsTrue (is_some (value_of (lists_in links values lists) y))
  live_in end y small there node =
      let v = has_value y node in
      rw (own_lists, value_found values (lists + 1) y own_rings end (omega (arith, small, many)) there, v.1) refl

  -- the first of a list
  module _ (list : ℕ) (small : list < lists) where
    list_is : list_of (lists_in links values lists) list ≡ entries_of values (lists + 1) (ring own_rings list)
    list_is = ap (λ ls. list_of ls list) own_lists ∙ get_or-map (entries_of values (lists + 1)) own_rings list [] [] (omega (arith, small, many))

    chain_is : IsChain links list (ring own_rings list) list
    chain_is = subst (λ zs. IsChain links list zs list) (ring_left list small) (own_has.chained list (omega (arith, small, ends)))

    nodes_are : Each (IsNode (lists + 1) (length links)) (ring own_rings list)
    nodes_are = subst (Each (IsNode (lists + 1) (length links))) (ring_left list small) (nodes_of list (omega (arith, small)))

    pub list_first : after links list ≢ list → first_of (list_of (lists_in links values lists) list) ≡ Some (after links list)
    list_first ne = ap first_of list_is ∙ first_is list (ring own_rings list) list (omega (arith, small)) chain_is nodes_are ne

    pub list_empty : after links list ≡ list → first_of (list_of (lists_in links values lists) list) ≡ None
    list_empty e = ap first_of list_is ∙ first_none list (ring own_rings list) list (omega (arith, small)) chain_is nodes_are e

    pub live_first : after links list ≢ list → IsTrue (is_some (value_of (lists_in links values lists) (after links list)))
    live_first ne =
        ⊎_elim (λ (n : (after links list ≡ list) × (ring own_rings list ≡ [])). absurd (ne n.0))
        (λ (f : IsFirst (ring own_rings list) (after links list)).
        live_in list (after links list) small (subst (λ zs. Has zs (after links list)) (sym f.whole) (inl refl))
        (subst (Each (IsNode (lists + 1) (length links))) f.whole nodes_are).0)
        (chain_cases links list (ring own_rings list) list chain_is)
