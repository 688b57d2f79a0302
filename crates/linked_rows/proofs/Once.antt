-- Each live node stands in one list, and once there.
use Rattle.std.proofs.Common.{◌≡◌, ◌≢◌, ℕ, ◌+◌, ◌-◌, ◌<◌, ◌++◌, List, [], ◌∷◌, Option, Some, None, IsTrue, length, map, sym, ap, subst, ◌∙◌, ⊎_elim, arith, is_some}
use Rattle.std.proofs.lemmas.Bool.{false≢true}
use Rattle.std.proofs.lemmas.List.{append_assoc, get_or-map, length-map}
use Rattle.std.specs.Prelude.{slice_get}
use Rattle.linked_rows.specs.declared.links.Link.{Link}
use Rattle.linked_rows.specs.Links.{ring_of, rings_below}
use Rattle.linked_rows.specs.Rows.{value_in, list_of, StandOnceIn, StandOnce}
use Rattle.linked_rows.specs.Pool.{ring, with_entry, entries_of, lists_in, Each, IsChain, IsNode, HasRings, IsPool}
use Rattle.linked_rows.proofs.Chains.{Has, split, has_or_each, not_in_back}
use Rattle.linked_rows.proofs.Rings.{not_in_other}
use Rattle.linked_rows.proofs.Entries.{value_others}
use Rattle.linked_rows.proofs.Pools.{many, own_has, ends, own_lists, ring_left, nodes_of}

once_more : {T : Type 0} (z : ℕ) (o : Option T) (es : List (ℕ × T)) → value_in es z ≡ None → StandOnceIn es → StandOnceIn (with_entry z o es)
once_more z None es none once = once
once_more z (Some v) es none once = (none, once)

once_along : {T : Type 0} (values : List T) (base : ℕ) (links : List Link) (n m s : ℕ) (front zs : List ℕ) → s < n → Each (IsNode n m) (front ++ zs) → IsChain links s (front ++ zs) s → StandOnceIn (entries_of values base zs)
once_along values base links n m s front [] low nodes chain = tt
once_along values base links n m s front (z ∷ zs) low nodes chain =
    let e : front ++ z ∷ zs ≡ (front ++ z ∷ []) ++ zs = sym (append_assoc front (z ∷ []) zs) in
    once_more z (slice_get values (z - base)) (entries_of values base zs)
    (value_others values base z zs (not_in_back links n m s z front zs low nodes chain))
    (once_along values base links n m s (front ++ z ∷ []) zs low (subst (Each (IsNode n m)) e nodes) (subst (λ ys. IsChain links s ys s) e chain))

module _ {T : Type 0} (links : List Link) (values : List T) (lists spare links_room values_room : ℕ) (pool : IsPool links values lists spare links_room values_room) where
  abbrev rs : List (List ℕ)
  rs = rings_below links lists

  abbrev all : List (List ℕ)
  all = rs ++ ring_of links lists ∷ []

  rs_are : length rs ≡ lists
  rs_are = many links values lists spare links_room values_room pool

  ends_are : length all ≡ lists + 1
  ends_are = ends links values lists spare links_room values_room pool

  has : HasRings links all
  has = own_has links values lists spare links_room values_room pool

  left : (end : ℕ) → end < lists → ring all end ≡ ring rs end
  left end small = ring_left links values lists spare links_room values_room pool end small

  list_is : (list : ℕ) → list < lists → list_of (map (entries_of values (lists + 1)) rs) list ≡ entries_of values (lists + 1) (ring all list)
  list_is list small = get_or-map (entries_of values (lists + 1)) rs list [] [] (omega (arith, small, rs_are)) ∙ ap (entries_of values (lists + 1)) (sym (left list small))

  once : (list : ℕ) → list < lists → StandOnceIn (list_of (map (entries_of values (lists + 1)) rs) list)
  once list small =
      rw (list_is list small)
      (once_along values (lists + 1) links (lists + 1) (length links) list [] (ring all list) (omega (arith, small))
      (nodes_of links values lists spare links_room values_room pool list (omega (arith, small))) (has.chained list (omega (arith, small, ends_are))))

  apart : (list other node : ℕ) → list < lists → other < lists → other ≢ list → IsTrue (is_some (value_in (list_of (map (entries_of values (lists + 1)) rs) list) node)) → value_in (list_of (map (entries_of values (lists + 1)) rs) other) node ≡ None
  apart list other node small low ne some =
      rw (list_is other low)
      (value_others values (lists + 1) node (ring all other)
      (⊎_elim (λ (h : Has (ring all list) node).
      let t = split (ring all list) node h in
      not_in_other links all list node t.front t.back has (omega (arith, small, ends_are)) t.whole other (omega (arith, low, ends_are)) ne)
      (λ (o : Each (λ y. y ≢ node) (ring all list)).
      absurd (false≢true (rw (list_is list small, value_others values (lists + 1) node (ring all list) o) at some)))
      (has_or_each (ring all list) node)))

  pub stand_once : StandOnce (lists_in links values lists)
  stand_once =
      let size : length (map (entries_of values (lists + 1)) rs) ≡ lists = length-map rs (entries_of values (lists + 1)) ∙ rs_are in
      subst StandOnce (sym (own_lists links values lists spare links_room values_room pool))
      (record {
        within = λ list low. once list (omega (arith, low, size));
        apart = λ list other node low small ne some. apart list other node (omega (arith, low, size)) (omega (arith, small, size)) ne some;
      })
