-- A live node of a pool: where it stands, its value, what comes after it, and the pool without it.
use Rattle.std.proofs.Common.{◌≡◌, ◌≢◌, ℕ, ◌+◌, ◌-◌, ◌<◌, ◌≤◌, ◌++◌, List, [], ◌∷◌, Some, None, IsTrue, length, set, map, refl, sym, ap, subst, ◌∙◌, inl, ⊎_elim, arith, is_some, length-set}
use Rattle.std.proofs.lemmas.List.{length_push, get_or_at, set_at, set-append_left}
use Rattle.std.specs.Prelude.{slice_get, sum_by}
use Rattle.linked_rows.specs.declared.links.Link.{Link}
use Rattle.linked_rows.specs.Links.{after, before, joined, without_place, with_last_place, ring_of, rings_below}
use Rattle.linked_rows.specs.Rows.{value_of, first_of, next_of, without, with_value}
use Rattle.linked_rows.specs.Pool.{ring, entries_of, lists_in, Each, IsChain, IsNode, HasRings, IsPool}
use Rattle.linked_rows.proofs.LinkFacts.{length-joined}
use Rattle.linked_rows.proofs.Chains.{Has, has_behind, IsSplit, split, Each-weaker, Each-back}
use Rattle.linked_rows.proofs.Rings.{IsOut, own_node, first_inside, next_inside, not_in_other, front_others, back_others, back_chain, is_out, count_out, has_out, last_inside, has_in}
use Rattle.linked_rows.proofs.Lists.{IsFound, find, value_found, next_found, without_found, written_all}
use Rattle.linked_rows.proofs.Pools.{pool_is, lists_are, many, own_has, ends, own_lists, ring_left, has_value, nodes_of, first_is, first_none, IsFirst, chain_cases, live_in}

module _ {T : Type 0} (links : List Link) (values : List T) (lists spare links_room values_room : ℕ) (pool : IsPool links values lists spare links_room values_room)
    (x : ℕ) (live : IsTrue (is_some (value_of (lists_in links values lists) x))) where
  abbrev rs : List (List ℕ)
  rs = rings_below links lists

  abbrev free : List ℕ
  free = ring_of links lists

  abbrev all : List (List ℕ)
  all = rs ++ free ∷ []

  ends_are : length all ≡ lists + 1
  ends_are = ends links values lists spare links_room values_room pool

  rs_are : length rs ≡ lists
  rs_are = many links values lists spare links_room values_room pool

  has : HasRings links all
  has = own_has links values lists spare links_room values_room pool

  lists_is : lists_in links values lists ≡ map (entries_of values (lists + 1)) rs
  lists_is = own_lists links values lists spare links_room values_room pool

  found : IsFound rs x
  found = find values (lists + 1) x rs (subst (λ ls. IsTrue (is_some (value_of ls x))) lists_is live)

  abbrev s : ℕ
  s = found.end

  low : s < lists
  low = omega (arith, found.low, rs_are)

  at : IsSplit (ring rs s) x
  at = split (ring rs s) x found.there

  left : (end : ℕ) → end < lists → ring all end ≡ ring rs end
  left end small = ring_left links values lists spare links_room values_room pool end small

  is : ring all s ≡ at.front ++ x ∷ at.back
  is = left s low ∙ at.whole

  low_all : s < length all
  low_all = omega (arith, low, ends_are)

  node : IsNode (length all) (length links) x
  node = own_node links all s x at.front at.back has low_all is

  pub live_low : lists + 1 ≤ x
  live_low = omega (arith, node.low, ends_are)

  pub live_high : x < length links
  live_high = node.high

  pub live_value : x - (lists + 1) < length values
  live_value = omega (arith, live_low, live_high, pool.size)

  pub live_before : before links x < length links
  live_before = first_inside links all s x at.front at.back has low_all is

  pub live_after : after links x < length links
  live_after = next_inside links all s x at.front at.back has low_all is

  pub value_is : value_of (lists_in links values lists) x ≡ slice_get values (x - (lists + 1))
  value_is = ap (λ ls. value_of ls x) lists_is ∙ value_found values (lists + 1) x rs s found.low found.there

  others : (end : ℕ) → end < length rs → end ≢ s → Each (λ y. y ≢ x) (ring rs end)
  others end small ne =
      subst (Each (λ y. y ≢ x)) (left end (omega (arith, small, rs_are)))
      (not_in_other links all s x at.front at.back has low_all is end (omega (arith, small, rs_are, ends_are)) ne)

  front_free : Each (λ y. y ≢ x) at.front
  front_free = front_others links all s x at.front at.back has low_all is

  back_free : Each (λ y. y ≢ x) at.back
  back_free = back_others links all s x at.front at.back has low_all is

  -- what comes after it
  back_nodes : Each (IsNode (lists + 1) (length links)) at.back
  back_nodes =
      (Each-back (IsNode (lists + 1) (length links)) at.front (x ∷ at.back)
      (subst (Each (IsNode (lists + 1) (length links))) is (nodes_of links values lists spare links_room values_room pool s (omega (arith, low))))).1

  next_is : next_of (lists_in links values lists) x ≡ first_of (entries_of values (lists + 1) at.back)
  next_is =
      let v = has_value links values lists spare links_room values_room pool x (record { low = live_low; high = live_high }) in
      ap (λ ls. next_of ls x) lists_is ∙ next_found values (lists + 1) x rs s v.0 at.front at.back found.low at.whole v.1 front_free others

  after_is : IsChain links x at.back s
  after_is = back_chain links all s x at.front at.back has low_all is

  ends_at : after links x < lists → (ys : List ℕ) → IsChain links x ys s → Each (IsNode (lists + 1) (length links)) ys → after links x ≡ s
  ends_at small [] c nodes = c.after
  ends_at small (y ∷ ys) c nodes = absurd (omega (arith, small, c.0.after, nodes.0.low))

  pub next_some : lists ≤ after links x → next_of (lists_in links values lists) x ≡ Some (after links x)
  next_some high = next_is ∙ first_is links values lists spare links_room values_room pool x at.back s (omega (arith, low)) after_is back_nodes (λ e. omega (arith, e, high, low))

  pub live_next : lists ≤ after links x → IsTrue (is_some (value_of (lists_in links values lists) (after links x)))
  live_next high =
      ⊎_elim (λ (n : (after links x ≡ s) × (at.back ≡ [])). absurd (omega (arith, n.0, high, low)))
      (λ (f : IsFirst at.back (after links x)).
      live_in links values lists spare links_room values_room pool s (after links x) low
      (subst (λ zs. Has zs (after links x)) (sym at.whole) (has_behind at.front x at.back (after links x) (subst (λ zs. Has zs (after links x)) (sym f.whole) (inl refl))))
      (subst (Each (IsNode (lists + 1) (length links))) f.whole back_nodes).0)
      (chain_cases links x at.back s after_is)

  pub next_none : after links x < lists → next_of (lists_in links values lists) x ≡ None
  next_none small = next_is ∙ first_none links values lists spare links_room values_room pool x at.back s (omega (arith, low)) after_is back_nodes (ends_at small at.back after_is back_nodes)

  -- the pool without it
  abbrev out : List (List ℕ)
  out = set rs s (at.front ++ at.back)

  abbrev links_out : List Link
  links_out = without_place links x

  all_out : set all s (at.front ++ at.back) ≡ out ++ free ∷ []
  all_out = set-append_left rs (free ∷ []) s (at.front ++ at.back) found.low

  has_without : HasRings links_out (out ++ free ∷ [])
  has_without = subst (HasRings links_out) all_out (has_out links all s x at.front at.back has low_all is)

  out_without : IsOut (out ++ free ∷ []) x
  out_without = subst (λ rings. IsOut rings x) all_out (is_out links all s x at.front at.back has low_all is)

  out_are : length out ≡ lists
  out_are = length-set rs s (at.front ++ at.back) ∙ rs_are

  size_out : length links_out ≡ length links
  size_out = length-joined links (before links x) (after links x)

  ends_out : length (out ++ free ∷ []) ≡ lists + 1
  ends_out = omega (arith, length_push out free, out_are)

  node_out : IsNode (length (out ++ free ∷ [])) (length links_out) x
  node_out = record { low = omega (arith, live_low, ends_out); high = omega (arith, live_high, size_out) }

  fits_out : sum_by (λ (zs : List ℕ). length zs) (out ++ free ∷ []) + length (out ++ free ∷ []) < length links_out
  fits_out =
      omega (arith, has.few, count_out links all s x at.front at.back has low_all is, ap (λ (rings : List (List ℕ)). sum_by (λ (zs : List ℕ). length zs) rings) all_out, size_out, ends_are, ends_out)

  free_end : lists < length (out ++ free ∷ [])
  free_end = omega (arith, ends_out)

  pub last_free : before links_out lists < length links_out
  last_free = last_inside links_out (out ++ free ∷ []) lists x has_without free_end out_without node_out fits_out

  abbrev links_back : List Link
  links_back = with_last_place links_out lists x

  all_back : set (out ++ free ∷ []) lists (ring (out ++ free ∷ []) lists ++ x ∷ []) ≡ out ++ (free ++ x ∷ []) ∷ []
  all_back =
      ap (λ (r : List ℕ). set (out ++ free ∷ []) lists (r ++ x ∷ [])) (get_or_at out free [] [] lists out_are)
      ∙ set_at out free [] (free ++ x ∷ []) lists out_are

  has_back : HasRings links_back (out ++ (free ++ x ∷ []) ∷ [])
  has_back = subst (HasRings links_back) all_back (has_in links_out (out ++ free ∷ []) lists x has_without free_end out_without node_out fits_out)

  size_back : length links_back ≡ length links
  size_back = length-joined (joined links_out (before links_out lists) x) x lists ∙ length-joined links_out (before links_out lists) x ∙ size_out

  pub pool_back : IsPool links_back values lists (spare + 1) links_room values_room
  pool_back =
      pool_is links_back lists out (free ++ x ∷ []) out_are has_back values (spare + 1) links_room values_room (omega (arith, size_back, pool.size))
      (omega (arith, pool.in_links, length_push free x)) (omega (arith, pool.in_values, length_push free x))

  pub lists_back : lists_in links_back values lists ≡ without (lists_in links values lists) x
  lists_back =
      lists_are links_back lists out (free ++ x ∷ []) out_are has_back values
      ∙ sym (without_found values (lists + 1) x rs s at.front at.back found.low at.whole front_free back_free others)
      ∙ ap (λ ls. without ls x) (sym lists_is)

  -- the pool with another value at it
  pub pool_written : (v : T) → IsPool links (set values (x - (lists + 1)) v) lists spare links_room values_room
  pool_written v = record { rings = pool.rings; size = omega (arith, pool.size, length-set values (x - (lists + 1)) v); in_links = pool.in_links; in_values = pool.in_values }

  pub lists_written : (v : T) → lists_in links (set values (x - (lists + 1)) v) lists ≡ with_value (lists_in links values lists) x v
  lists_written v =
      lists_are links lists rs free rs_are has (set values (x - (lists + 1)) v)
      ∙ sym (written_all values (lists + 1) x v rs live_low live_value
      (λ end small. subst (Each (λ y. lists + 1 ≤ y)) (left end (omega (arith, small, rs_are)))
      (Each-weaker (IsNode (lists + 1) (length links)) (λ y. lists + 1 ≤ y) (λ y n. n.low) (ring all end) (nodes_of links values lists spare links_room values_room pool end (omega (arith, small, rs_are))))))
      ∙ ap (λ ls. with_value ls x v) (sym lists_is)
