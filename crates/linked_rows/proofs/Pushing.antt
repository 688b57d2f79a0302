-- A push: a node is taken for the new value, and put last into the ring of its list.
use Rattle.std.proofs.Common.{◌≡◌, ◌≢◌, ℕ, ◌+◌, ◌-◌, ◌<◌, ◌≤◌, ◌++◌, List, [], ◌∷◌, Some, None, length, set, map, sym, ap, subst, ◌∙◌, ◌⊎◌, ⊎_elim, arith, length-set}
use Rattle.std.proofs.lemmas.Bool.{cases_eq, eq-eqb, ne_eqb}
use Rattle.std.proofs.lemmas.List.{length_push, get_or_append_left, set_at, set-append_left}
use Rattle.std.specs.Prelude.{slice_get, sum_by}
use Rattle.linked_rows.specs.declared.links.Link.{Link}
use Rattle.linked_rows.specs.Links.{after, before, joined, without_place, with_last_place, ring_of, rings_below}
use Rattle.linked_rows.specs.Rows.{value_of, with_last}
use Rattle.linked_rows.specs.Pool.{ring, entries_of, lists_in, Each, IsChain, IsNode, HasRings, IsPool}
use Rattle.linked_rows.specs.Taking.{taken_place, taken_links, taken_values, CanTake}
use Rattle.linked_rows.proofs.LinkFacts.{length-joined}
use Rattle.linked_rows.proofs.Chains.{Each-weaker, Each-both}
use Rattle.linked_rows.proofs.Rings.{IsOut, own_node, first_inside, next_inside, is_out, count_out, has_out, last_inside, has_in, has_more, more_is_out}
use Rattle.linked_rows.proofs.Entries.{slice_get-set_same, slice_get-set_other, slice_get-push, slice_get-push_low}
use Rattle.linked_rows.proofs.Lists.{value_none, lists_same, with_last_is}
use Rattle.linked_rows.proofs.Pools.{pool_is, lists_are, IsFirst, chain_cases, many, own_has, ends, own_lists, ring_left, free_ring, nodes_of}

-- what stands once a node was taken for a value, and is in no ring: the rings of lists are as before
record IsTaken {T : Type 0} (values now : List T) (links : List Link) (lists x : ℕ) (v : T) (rs : List (List ℕ)) (spare links_capacity values_capacity : ℕ) : Type 0 where
  free : List ℕ
  has : HasRings links (rs ++ free ∷ [])
  out : IsOut (rs ++ free ∷ []) x
  node : IsNode (lists + 1) (length links) x
  size : length links ≡ lists + 1 + length now
  fits : sum_by (λ (zs : List ℕ). length zs) (rs ++ free ∷ []) + length (rs ++ free ∷ []) < length links
  own : slice_get now (x - (lists + 1)) ≡ Some v
  agree : map (entries_of now (lists + 1)) rs ≡ map (entries_of values (lists + 1)) rs
  links_room : spare ≤ length free + 1 + (links_capacity - length links)
  values_room : spare ≤ length free + 1 + (values_capacity - length now)

module _ {T : Type 0} (links : List Link) (values : List T) (lists spare links_capacity values_capacity : ℕ)
    (pool : IsPool links values lists spare (links_capacity - length links) (values_capacity - length values)) (some : 1 ≤ spare) where
  abbrev rs : List (List ℕ)
  rs = rings_below links lists

  abbrev free : List ℕ
  free = ring_of links lists

  abbrev all : List (List ℕ)
  all = rs ++ free ∷ []

  ends_are : length all ≡ lists + 1
  ends_are = ends links values lists spare (links_capacity - length links) (values_capacity - length values) pool

  rs_are : length rs ≡ lists
  rs_are = many links values lists spare (links_capacity - length links) (values_capacity - length values) pool

  has_all : HasRings links all
  has_all = own_has links values lists spare (links_capacity - length links) (values_capacity - length values) pool

  lists_is : lists_in links values lists ≡ map (entries_of values (lists + 1)) rs
  lists_is = own_lists links values lists spare (links_capacity - length links) (values_capacity - length values) pool

  left : (end : ℕ) → end < lists → ring all end ≡ ring rs end
  left end small = ring_left links values lists spare (links_capacity - length links) (values_capacity - length values) pool end small

  free_at : ring all lists ≡ free
  free_at = free_ring links values lists spare (links_capacity - length links) (values_capacity - length values) pool

  free_low : lists < length all
  free_low = omega (arith, ends_are)

  free_chain : IsChain links lists free lists
  free_chain = subst (λ zs. IsChain links lists zs lists) free_at (has_all.chained lists free_low)

  cases : ((after links lists ≡ lists) × (free ≡ [])) ⊎ IsFirst free (after links lists)
  cases = chain_cases links lists free lists free_chain

  nodes_in : (end : ℕ) → end < length rs → Each (IsNode (lists + 1) (length links)) (ring rs end)
  nodes_in end small =
      subst (Each (IsNode (lists + 1) (length links))) (left end (omega (arith, small, rs_are)))
      (nodes_of links values lists spare (links_capacity - length links) (values_capacity - length values) pool end (omega (arith, small, rs_are)))

  -- no node is free: a new one
  module _ (none : free ≡ []) (v : T) (l : Link) where
    new_taken : IsTaken values (values ++ v ∷ []) (links ++ l ∷ []) lists (length links) v rs spare links_capacity values_capacity
    new_taken = record {
      free = free;
      has = has_more links l all has_all;
      out = more_is_out links l all has_all;
      node = record { low = omega (arith, pool.size); high = omega (arith, length_push links l) };
      size = omega (arith, length_push links l, length_push values v, pool.size);
      fits = omega (arith, length_push links l, has_all.few);
      own = ap (λ i. slice_get (values ++ v ∷ []) i) (let e : length links - (lists + 1) ≡ length values = omega (arith, pool.size) in e) ∙ slice_get-push values v;
      agree = lists_same values (values ++ v ∷ []) (lists + 1) rs
          (λ end small. Each-weaker (IsNode (lists + 1) (length links)) (λ y. slice_get (values ++ v ∷ []) (y - (lists + 1)) ≡ slice_get values (y - (lists + 1)))
          (λ y n. slice_get-push_low values v (y - (lists + 1)) (omega (arith, n.low, n.high, pool.size))) (ring rs end) (nodes_in end small));
      links_room = omega (arith, pool.in_links, length_push links l, ap length none);
      values_room = omega (arith, pool.in_values, length_push values v, ap length none);
    }

  -- the first of the free ones
  module _ (x : ℕ) (first : IsFirst free x) where
    is : ring all lists ≡ [] ++ x ∷ first.rest
    is = free_at ∙ first.whole

    pub first_node : IsNode (length all) (length links) x
    first_node = own_node links all lists x [] first.rest has_all free_low is

    pub first_before : before links x < length links
    first_before = first_inside links all lists x [] first.rest has_all free_low is

    pub first_after : after links x < length links
    first_after = next_inside links all lists x [] first.rest has_all free_low is

    rest_all : set all lists first.rest ≡ rs ++ first.rest ∷ []
    rest_all = set_at rs free [] first.rest lists rs_are

    size_out : length (without_place links x) ≡ length links
    size_out = length-joined links (before links x) (after links x)

    out_rs : IsOut (rs ++ first.rest ∷ []) x
    out_rs = subst (λ rings. IsOut rings x) rest_all (is_out links all lists x [] first.rest has_all free_low is)

    ends_rest : length (rs ++ first.rest ∷ []) ≡ lists + 1
    ends_rest = omega (arith, length_push rs first.rest, rs_are)

    apart : (end : ℕ) → end < length rs → Each (λ y. y ≢ x) (ring rs end)
    apart end small = subst (Each (λ y. y ≢ x)) (get_or_append_left rs (first.rest ∷ []) [] end small) (out_rs end (omega (arith, small, rs_are, ends_rest)))

    first_taken : (v : T) → IsTaken values (set values (x - lists - 1) v) (without_place links x) lists x v rs spare links_capacity values_capacity
    first_taken v =
        let place : x - lists - 1 ≡ x - (lists + 1) = omega arith in
        let low : x - (lists + 1) < length values = omega (arith, first_node.low, first_node.high, ends_are, pool.size) in
        record {
          free = first.rest;
          has = subst (HasRings (without_place links x)) rest_all (has_out links all lists x [] first.rest has_all free_low is);
          out = out_rs;
          node = record { low = omega (arith, first_node.low, ends_are); high = omega (arith, first_node.high, size_out) };
          size = omega (arith, size_out, length-set values (x - lists - 1) v, pool.size);
          fits = omega (arith, has_all.few, count_out links all lists x [] first.rest has_all free_low is, ap (λ (rings : List (List ℕ)). sum_by (λ (zs : List ℕ). length zs) rings) rest_all, size_out, ends_are, ends_rest);
          own = rw place (slice_get-set_same values (x - (lists + 1)) v low);
          agree = rw place (lists_same values (set values (x - (lists + 1)) v) (lists + 1) rs
              (λ end small. Each-weaker (λ y. IsNode (lists + 1) (length links) y × (y ≢ x)) (λ y. slice_get (set values (x - (lists + 1)) v) (y - (lists + 1)) ≡ slice_get values (y - (lists + 1)))
              (λ y n. slice_get-set_other values (x - (lists + 1)) (y - (lists + 1)) v (λ e. n.1 (omega (arith, e, n.0.low, first_node.low, ends_are)))) (ring rs end)
              (Each-both (IsNode (lists + 1) (length links)) (λ y. y ≢ x) (ring rs end) (nodes_in end small) (apart end small))));
          links_room = omega (arith, pool.in_links, size_out, ap length first.whole);
          values_room = omega (arith, pool.in_values, length-set values (x - lists - 1) v, ap length first.whole);
        }

  first_high : (x : ℕ) → IsFirst free x → lists < x
  first_high x first = omega (arith, (first_node x first).low, ends_are)

  free_none : after links lists ≡ lists → free ≡ []
  free_none e =
      ⊎_elim (λ (n : (after links lists ≡ lists) × (free ≡ [])). n.1)
      (λ (first : IsFirst free (after links lists)). absurd (omega (arith, first_high (after links lists) first, e)))
      cases

  free_first : (after links lists ≡ lists → ⊥) → IsFirst free (after links lists)
  free_first ne = ⊎_elim (λ (n : (after links lists ≡ lists) × (free ≡ [])). absurd (ne n.0)) (λ (first : IsFirst free (after links lists)). first) cases

  pub can_take : CanTake links values lists links_capacity values_capacity
  can_take = record {
    inside = omega (arith, pool.size);
    size = pool.size;
    new_link = λ e. omega (arith, some, pool.in_links, ap length (free_none e));
    new_value = λ e. omega (arith, some, pool.in_values, ap length (free_none e));
    above = λ ne. first_high (after links lists) (free_first ne);
    first = ⊎_elim (λ (n : (after links lists ≡ lists) × (free ≡ [])). omega (arith, n.0, pool.size)) (λ (first : IsFirst free (after links lists)). (first_node (after links lists) first).high) cases;
    before = λ ne. first_before (after links lists) (free_first ne);
    next = λ ne. first_after (after links lists) (free_first ne);
  }

  module _ (v : T) where
    taken : IsTaken values (taken_values links values lists v) (taken_links links lists) lists (taken_place links lists) v rs spare links_capacity values_capacity
    taken =
        ⊎_elim (λ (e : after links lists ≡ lists). rw (eq-eqb (after links lists) lists e) (new_taken (free_none e) v _))
        (λ (ne : after links lists ≡ lists → ⊥). rw (ne_eqb (after links lists) lists ne) (first_taken (after links lists) (free_first ne) v))
        (cases_eq (after links lists) lists)

    abbrev x : ℕ
    x = taken_place links lists

    abbrev links_taken : List Link
    links_taken = taken_links links lists

    abbrev rings_taken : List (List ℕ)
    rings_taken = rs ++ taken.free ∷ []

    ends_taken : length rings_taken ≡ lists + 1
    ends_taken = omega (arith, length_push rs taken.free, rs_are)

    pub taken_high : x < length links_taken
    taken_high = taken.node.high

    pub fresh : value_of (lists_in links values lists) x ≡ None
    fresh =
        ap (λ ls. value_of ls x) lists_is
        ∙ value_none values (lists + 1) x rs
        (λ end small. subst (Each (λ y. y ≢ x)) (get_or_append_left rs (taken.free ∷ []) [] end small) (taken.out end (omega (arith, small, rs_are, ends_taken))))

    module _ (k : ℕ) (small : k < lists) where
      k_low : k < length rings_taken
      k_low = omega (arith, small, ends_taken)

      node_taken : IsNode (length rings_taken) (length links_taken) x
      node_taken = record { low = omega (arith, taken.node.low, ends_taken); high = taken.node.high }

      pub list_inside : k < length links_taken
      list_inside = omega (arith, small, taken.size)

      pub last_low : before links_taken k < length links_taken
      last_low = last_inside links_taken rings_taken k x taken.has k_low taken.out node_taken taken.fits

      abbrev links_now : List Link
      links_now = with_last_place links_taken k x

      abbrev rs_now : List (List ℕ)
      rs_now = set rs k (ring rs k ++ x ∷ [])

      rings_now : set rings_taken k (ring rings_taken k ++ x ∷ []) ≡ rs_now ++ taken.free ∷ []
      rings_now =
          ap (λ (r : List ℕ). set rings_taken k (r ++ x ∷ [])) (get_or_append_left rs (taken.free ∷ []) [] k (omega (arith, small, rs_are)))
          ∙ set-append_left rs (taken.free ∷ []) k (ring rs k ++ x ∷ []) (omega (arith, small, rs_are))

      has_now : HasRings links_now (rs_now ++ taken.free ∷ [])
      has_now = subst (HasRings links_now) rings_now (has_in links_taken rings_taken k x taken.has k_low taken.out node_taken taken.fits)

      many_now : length rs_now ≡ lists
      many_now = length-set rs k (ring rs k ++ x ∷ []) ∙ rs_are

      pub size_now : length links_now ≡ length links_taken
      size_now = length-joined (joined links_taken (before links_taken k) x) x k ∙ length-joined links_taken (before links_taken k) x

      pub pool_now : IsPool links_now (taken_values links values lists v) lists (spare - 1) (links_capacity - length links_now) (values_capacity - length (taken_values links values lists v))
      pool_now =
          pool_is links_now lists rs_now taken.free many_now has_now (taken_values links values lists v) (spare - 1) (links_capacity - length links_now) (values_capacity - length (taken_values links values lists v))
          (omega (arith, size_now, taken.size)) (omega (arith, taken.links_room, size_now)) (omega (arith, taken.values_room))

      pub lists_now : lists_in links_now (taken_values links values lists v) lists ≡ with_last (lists_in links values lists) k x v
      lists_now =
          lists_are links_now lists rs_now taken.free many_now has_now (taken_values links values lists v)
          ∙ with_last_is values (taken_values links values lists v) (lists + 1) k x v rs (omega (arith, small, rs_are)) taken.agree taken.own
          ∙ ap (λ ls. with_last ls k x v) (sym lists_is)
