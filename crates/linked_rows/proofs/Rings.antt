-- The rings of all ends: what taking a place out and putting one in makes of them, and that the walks find them.
use Rattle.std.proofs.Common.{◌≡◌, ◌≢◌, ℕ, zero, suc, ◌+◌, ◌<◌, ◌≤◌, ◌++◌, List, [], ◌∷◌, length, get_or, set, take, refl, sym, ap, subst, ◌∙◌, ⊎_elim, arith, length-set}
use Rattle.std.specs.Prelude.{sum_by}
use Rattle.std.proofs.lemmas.Bool.{cases_eq}
use Rattle.std.proofs.lemmas.List.{get_or-set_same, get_or-set_other, length-append, length_push, take_more, take_all}
use Rattle.std.proofs.lemmas.List.Sums.{sum_by-set, get_or-le-sum_by}
use Rattle.linked_rows.specs.declared.links.Link.{Link}
use Rattle.linked_rows.specs.Links.{after, before, joined, without_place, with_last_place, ring_of, rings_below}
use Rattle.linked_rows.specs.Pool.{ring, Each, IsJoined, IsChain, IsNode, HasRings}
use Rattle.linked_rows.proofs.LinkFacts.{length-joined, after-push, before-push}
use Rattle.linked_rows.proofs.Chains.{Has, split, Each-weaker, Each-both, Each-append, Each-front, Each-back, each_from_none, chain_split, chain_kept, chain_without, before_chain, after_chain, in_one_ring, not_in_back, not_in_front, walk-chain, last_joined, first_joined, bypassed, chain_beside, chain_longer, has_middle}

-- no ring has a place
abbrev pub IsOut : List (List ℕ) → ℕ → Type 0
IsOut rings x = (end : ℕ) → end < length rings → Each (λ y. y ≢ x) (ring rings end)

-- the nodes of a ring are no ends
pub not_ends : (links : List Link) (rings : List (List ℕ)) (end s : ℕ) → HasRings links rings → end < length rings → s < length rings → Each (λ y. y ≢ s) (ring rings end)
not_ends links rings end s has low small =
    Each-weaker (IsNode (length rings) (length links)) (λ y. y ≢ s) (λ y n e. omega (arith, n.low, e)) (ring rings end) (has.nodes end low)

-- the walks find the rings
pub walked : (links : List Link) (rings : List (List ℕ)) (end : ℕ) → HasRings links rings → end < length rings → ring_of links end ≡ ring rings end
walked links rings end has low =
    walk-chain links end (ring rings end) end (length links) (not_ends links rings end end has low low)
    (omega (arith, has.few, get_or-le-sum_by (λ (xs : List ℕ). length xs) rings end [] low)) (has.chained end low)

rings_taken : (links : List Link) (rings : List (List ℕ)) (n : ℕ) → HasRings links rings → n ≤ length rings → rings_below links n ≡ take n rings
rings_taken links rings zero has le = refl
rings_taken links rings (suc n) has le =
    let rest = rings_taken links rings n has (omega arith) in
    let here = walked links rings n has (omega arith) in
    let more : take (n + 1) rings ≡ take n rings ++ get_or rings n [] ∷ [] = take_more rings n [] (omega arith) in
    let num : suc n ≡ n + 1 = omega arith in
    ap (λ (xs : List (List ℕ)). xs ++ ring_of links n ∷ []) rest ∙ ap (λ (xs : List ℕ). take n rings ++ xs ∷ []) here ∙ sym more ∙ ap (λ k. take k rings) (sym num)

pub rings_walked : (links : List Link) (rings : List (List ℕ)) (n : ℕ) → HasRings links rings → n ≡ length rings → rings_below links n ≡ rings
rings_walked links rings n has e = rings_taken links rings n has (omega (arith, e)) ∙ take_all n rings (omega (arith, e))

pub rings_before : (links : List Link) (rings : List (List ℕ)) (n : ℕ) → HasRings links rings → n ≤ length rings → rings_below links n ≡ take n rings
rings_before links rings n has le = rings_taken links rings n has le

-- a place of a ring, taken out
module _ (links : List Link) (rings : List (List ℕ)) (s x : ℕ) (xs ys : List ℕ) (has : HasRings links rings) (low : s < length rings) (is : ring rings s ≡ xs ++ x ∷ ys) where
  whole_chain : IsChain links s (xs ++ x ∷ ys) s
  whole_chain = subst (λ zs. IsChain links s zs s) is (has.chained s low)

  whole_nodes : Each (IsNode (length rings) (length links)) (xs ++ x ∷ ys)
  whole_nodes = subst (Each (IsNode (length rings) (length links))) is (has.nodes s low)

  pub own_node : IsNode (length rings) (length links) x
  own_node = (Each-back (IsNode (length rings) (length links)) xs (x ∷ ys) whole_nodes).0

  front_chain : IsChain links s xs x
  front_chain = (chain_split links s xs x ys s whole_chain).0

  pub back_chain : IsChain links x ys s
  back_chain = (chain_split links s xs x ys s whole_chain).1

  small_end : s < length links
  small_end = omega (arith, has.few, low)

  inside : (zs : List ℕ) → Each (IsNode (length rings) (length links)) zs → Each (λ z. z < length links) zs
  inside zs h = Each-weaker (IsNode (length rings) (length links)) (λ z. z < length links) (λ z n. n.high) zs h

  pub first_inside : before links x < length links
  first_inside = before_chain (λ z. z < length links) links s xs x small_end (inside xs (Each-front (IsNode (length rings) (length links)) xs (x ∷ ys) whole_nodes)) front_chain

  pub next_inside : after links x < length links
  next_inside = after_chain (λ z. z < length links) links x ys s small_end (inside ys (Each-back (IsNode (length rings) (length links)) xs (x ∷ ys) whole_nodes).1) back_chain

  pub has_place : Has (ring rings s) x
  has_place = subst (λ zs. Has zs x) (sym is) (has_middle xs x ys)

  not_end : (end : ℕ) → end < length rings → end ≢ x
  not_end end small e = omega (arith, own_node.low, e)

  pub not_in_other : (end : ℕ) → end < length rings → end ≢ s → Each (λ y. y ≢ x) (ring rings end)
  not_in_other end small ne =
      each_from_none (ring rings end) x
      (λ h.
      let t = split (ring rings end) x h in
      let both = in_one_ring links (length rings) (length links) end s x t.front t.back xs ys small low
      (subst (Each (IsNode (length rings) (length links))) t.whole (has.nodes end small)) whole_nodes
      (subst (λ zs. IsChain links end zs end) t.whole (has.chained end small)) whole_chain in
      ne both.1)

  pub front_others : Each (λ y. y ≢ x) xs
  front_others = not_in_front links (length rings) (length links) s x xs ys low whole_nodes whole_chain

  pub back_others : Each (λ y. y ≢ x) ys
  back_others = not_in_back links (length rings) (length links) s x xs ys low whole_nodes whole_chain

  chain_out : (end : ℕ) → end < length rings → IsChain (without_place links x) end (ring (set rings s (xs ++ ys)) end) end
  chain_out end small =
      ⊎_elim (λ (e : end ≡ s).
      rw (e, get_or-set_same rings s (xs ++ ys) [] low)
      (bypassed links (before links x) x (after links x) (last_joined links s xs x front_chain) (first_joined links x ys s back_chain) first_inside next_inside s xs ys s (not_end s low) front_others back_others (not_end s low) front_chain back_chain))
      (λ (ne : end ≢ s).
      rw (get_or-set_other rings s end (xs ++ ys) [] ne)
      (chain_without links (before links x) x (after links x) (last_joined links s xs x front_chain) (first_joined links x ys s back_chain) end (ring rings end) end (not_end end small) (not_in_other end small ne) (not_end end small) (has.chained end small)))
      (cases_eq end s)

  nodes_out : (end : ℕ) → end < length rings → Each (IsNode (length rings) (length links)) (ring (set rings s (xs ++ ys)) end)
  nodes_out end small =
      ⊎_elim (λ (e : end ≡ s).
      rw (e, get_or-set_same rings s (xs ++ ys) [] low)
      (Each-append (IsNode (length rings) (length links)) xs ys (Each-front (IsNode (length rings) (length links)) xs (x ∷ ys) whole_nodes) (Each-back (IsNode (length rings) (length links)) xs (x ∷ ys) whole_nodes).1))
      (λ (ne : end ≢ s). rw (get_or-set_other rings s end (xs ++ ys) [] ne) (has.nodes end small))
      (cases_eq end s)

  pub is_out : IsOut (set rings s (xs ++ ys)) x
  is_out end small =
      ⊎_elim (λ (e : end ≡ s). rw (e, get_or-set_same rings s (xs ++ ys) [] low) (Each-append (λ y. y ≢ x) xs ys front_others back_others))
      (λ (ne : end ≢ s). rw (get_or-set_other rings s end (xs ++ ys) [] ne) (not_in_other end (omega (arith, small, length-set rings s (xs ++ ys))) ne))
      (cases_eq end s)

  pub count_out : sum_by (λ (zs : List ℕ). length zs) (set rings s (xs ++ ys)) + 1 ≡ sum_by (λ (zs : List ℕ). length zs) rings
  count_out = omega (arith, sum_by-set (λ (zs : List ℕ). length zs) rings s (xs ++ ys) [] low, ap length is, length-append xs (x ∷ ys), length-append xs ys)

  pub has_out : HasRings (without_place links x) (set rings s (xs ++ ys))
  has_out =
      let ends = length-set rings s (xs ++ ys) in
      let size = length-joined links (before links x) (after links x) in
      record {
        chained = λ end small. chain_out end (omega (arith, small, ends));
        nodes = λ end small. Each-weaker (IsNode (length rings) (length links)) (IsNode (length (set rings s (xs ++ ys))) (length (without_place links x)))
            (λ y n. record { low = omega (arith, n.low, ends); high = omega (arith, n.high, size) }) _ (nodes_out end (omega (arith, small, ends)));
        few = omega (arith, has.few, count_out, ends, size);
      }

-- a place that is in no ring, put last into one
module _ (links : List Link) (rings : List (List ℕ)) (s x : ℕ) (has : HasRings links rings) (low : s < length rings) (out : IsOut rings x) (node : IsNode (length rings) (length links) x)
    (fits : sum_by (λ (zs : List ℕ). length zs) rings + length rings < length links) where
  end_inside : (end : ℕ) → end < length rings → end < length links
  end_inside end small = omega (arith, has.few, small)

  pub last_inside : before links s < length links
  last_inside =
      before_chain (λ z. z < length links) links s (ring rings s) s (end_inside s low)
      (Each-weaker (IsNode (length rings) (length links)) (λ z. z < length links) (λ z n. n.high) (ring rings s) (has.nodes s low)) (has.chained s low)

  no_end : (end : ℕ) → end < length rings → end ≢ x
  no_end end small e = omega (arith, node.low, e)

  last_pair : IsJoined links (before links s) s
  last_pair = last_joined links s (ring rings s) s (has.chained s low)

  chain_in : (end : ℕ) → end < length rings → IsChain (with_last_place links s x) end (ring (set rings s (ring rings s ++ x ∷ [])) end) end
  chain_in end small =
      ⊎_elim (λ (e : end ≡ s).
      rw (e, get_or-set_same rings s (ring rings s ++ x ∷ []) [] low)
      (chain_longer links (before links s) x s last_pair last_inside node.high (end_inside s low) (λ e. no_end s low (sym e)) s (ring rings s) (no_end s low) (out s low) (not_ends links rings s s has low low) (has.chained s low)))
      (λ (ne : end ≢ s).
      rw (get_or-set_other rings s end (ring rings s ++ x ∷ []) [] ne)
      (chain_beside links (before links s) x s last_pair last_inside node.high (end_inside s low) (λ e. no_end s low (sym e)) end (ring rings end) end (no_end end small) (out end small) (not_ends links rings end s has small low) (no_end end small, ne) (has.chained end small)))
      (cases_eq end s)

  nodes_in : (end : ℕ) → end < length rings → Each (IsNode (length rings) (length links)) (ring (set rings s (ring rings s ++ x ∷ [])) end)
  nodes_in end small =
      ⊎_elim (λ (e : end ≡ s). rw (e, get_or-set_same rings s (ring rings s ++ x ∷ []) [] low) (Each-append (IsNode (length rings) (length links)) (ring rings s) (x ∷ []) (has.nodes s low) (node, tt)))
      (λ (ne : end ≢ s). rw (get_or-set_other rings s end (ring rings s ++ x ∷ []) [] ne) (has.nodes end small))
      (cases_eq end s)

  pub has_in : HasRings (with_last_place links s x) (set rings s (ring rings s ++ x ∷ []))
  has_in =
      let ends = length-set rings s (ring rings s ++ x ∷ []) in
      let size : length (with_last_place links s x) ≡ length links = length-joined (joined links (before links s) x) x s ∙ length-joined links (before links s) x in
      record {
        chained = λ end small. chain_in end (omega (arith, small, ends));
        nodes = λ end small. Each-weaker (IsNode (length rings) (length links)) (IsNode (length (set rings s (ring rings s ++ x ∷ []))) (length (with_last_place links s x)))
            (λ y n. record { low = omega (arith, n.low, ends); high = omega (arith, n.high, size) }) _ (nodes_in end (omega (arith, small, ends)));
        few = omega (arith, fits, sum_by-set (λ (zs : List ℕ). length zs) rings s (ring rings s ++ x ∷ []) [] low, length-append (ring rings s) (x ∷ []), ends, size);
      }

-- one more place behind all others: it is in no ring
module _ (links : List Link) (l : Link) (rings : List (List ℕ)) (has : HasRings links rings) where
  pub has_more : HasRings (links ++ l ∷ []) rings
  has_more =
      let size = length_push links l in
      record {
        chained = λ end small.
            let nodes = Each-weaker (IsNode (length rings) (length links)) (λ y. y < length links) (λ y n. n.high) (ring rings end) (has.nodes end small) in
            chain_kept links (links ++ l ∷ []) (λ y. y < length links) (λ y. y < length links)
            (λ p q in_p in_q j. record { after = after-push links l p in_p ∙ j.after; before = before-push links l q in_q ∙ j.before })
            end (ring rings end) end (omega (arith, has.few, small)) (Each-both (λ y. y < length links) (λ y. y < length links) (ring rings end) nodes nodes) (omega (arith, has.few, small)) (has.chained end small);
        nodes = λ end small. Each-weaker (IsNode (length rings) (length links)) (IsNode (length rings) (length (links ++ l ∷ []))) (λ y n. record { low = n.low; high = omega (arith, n.high, size) }) (ring rings end) (has.nodes end small);
        few = omega (arith, has.few, size);
      }

  pub more_is_out : IsOut rings (length links)
  more_is_out end small = Each-weaker (IsNode (length rings) (length links)) (λ y. y ≢ length links) (λ y n e. omega (arith, n.high, e)) (ring rings end) (has.nodes end small)
