-- The members from which open arcs lead to one.
use Rattle.std.proofs.Common.{◌≡◌, ℕ, ◌+◌, ◌*◌, ◌/◌, ◌%◌, ◌<◌, Bool, true, false, eqb, ◌&&◌, List, length, get_or, refl, sym, ap, ◌∙◌, subst, inl, inr, arith}
use Rattle.std.proofs.lemmas.Bool.{ltb-true, lt-ltb, eq-eqb, ne_eqb, and_parts, and_from, or_cases, or_left, or_right}
use Rattle.member_set.specs.declared.set.MemberSet.{MemberSet}
use Rattle.member_set.specs.Members.{has}
use Rattle.residual_graph.specs.declared.flow.Flow.{Flow}
use Rattle.residual_graph.specs.Residual.{ResidualData, IsResidual}
use Rattle.residual_graph.specs.Arcs.{arc_count, pair, is_forward, no_flow, flow_at, room_in, head, head_in, tail, tail_in}
use Rattle.residual_graph.proofs.Kept.{pair_below}
use Rattle.path_solver.specs.declared.entries.Entry.{Entry}
use Rattle.path_solver.specs.Prices.{IsTight, IsOpen, twin_room}
use Rattle.path_solver.specs.Entries.{entry_at, AreEntries, IsOpenTwin, is_open_to}
use Rattle.path_solver.specs.Groups.{group_at, AreSorted}

-- the arc of a pair that leaves its buyer
pub record Back (flows : List Flow) (k : ℕ) : Type 0 where
  pub pair_is : pair (2 * k + 1) ≡ k
  pub tail_is : tail flows (2 * k + 1) ≡ (flow_at flows k).buyer
  pub head_is : head flows (2 * k + 1) ≡ (flow_at flows k).seller
  pub twin_is : twin_room flows (2 * k + 1) ≡ (flow_at flows k).room

pub back : (flows : List Flow) (k : ℕ) → Back flows k
back flows k =
    let e : (2 * k + 1) / 2 ≡ k = omega arith in
    let b : eqb ((2 * k + 1) % 2) 0 ≡ false = ne_eqb ((2 * k + 1) % 2) 0 (λ q. omega (arith, q)) in
    record { pair_is = e; tail_is = rw (b, e) refl; head_is = rw (b, e) refl; twin_is = rw (b, e) refl }

-- the arc of a pair that leaves its seller
pub record Forth (flows : List Flow) (k : ℕ) : Type 0 where
  pub pair_is : pair (2 * k) ≡ k
  pub tail_is : tail flows (2 * k) ≡ (flow_at flows k).seller
  pub head_is : head flows (2 * k) ≡ (flow_at flows k).buyer
  pub twin_is : twin_room flows (2 * k) ≡ (flow_at flows k).back

pub forth : (flows : List Flow) (k : ℕ) → Forth flows k
forth flows k =
    let e : (2 * k) / 2 ≡ k = omega arith in
    let b : eqb ((2 * k) % 2) 0 ≡ true = eq-eqb ((2 * k) % 2) 0 (omega arith) in
    record { pair_is = e; tail_is = rw (b, e) refl; head_is = rw (b, e) refl; twin_is = rw (b, e) refl }

module _ {r : ResidualData} {p : List ℕ} {entries : List Entry} {groups : List MemberSet} (here : ℕ) (residual : IsResidual r) (are : AreEntries r entries) (sorted : AreSorted r.members p groups) (in_here : here < r.members) where
  from_seller : (u : ℕ) → has (entry_at entries here).sellers u ≡ true → has (group_at groups (get_or p here 0 + 2)) u ≡ true → (a : ℕ) × IsOpenTwin r p here u a
  from_seller u known grouped =
      let w = are.sellers here u in_here known in
      let k = w.0 in
      let seller : (flow_at r.flows w.0).seller ≡ u = w.1.1 in
      let buyer : (flow_at r.flows w.0).buyer ≡ here = w.1.2 in
      let price = ((sorted.sorted (get_or p here 0 + 2) u (omega (arith, sorted.low here, sorted.long))).0 grouped).1 in
      let on : has (entry_at entries (flow_at r.flows w.0).buyer).sellers (flow_at r.flows w.0).seller ≡ true = rw (buyer, seller) known in
      let some : 0 < (flow_at r.flows w.0).room = ltb-true 0 (flow_at r.flows w.0).room (sym (are.growing w.0 w.2) ∙ on) in
      let at_seller : get_or p (flow_at r.flows w.0).seller 0 ≡ get_or p u 0 = ap (λ v. get_or p v 0) seller in
      let at_buyer : get_or p (flow_at r.flows w.0).buyer 0 ≡ get_or p here 0 = ap (λ v. get_or p v 0) buyer in
      let tight : IsTight p (flow_at r.flows w.0) = omega (arith, at_seller, at_buyer, price) in
      let arc = back r.flows k in
      (2 * w.0 + 1, (omega (arith, w.2), arc.tail_is ∙ buyer, arc.head_is ∙ seller, (omega (arith, arc.twin_is, some), subst (λ j. IsTight p (flow_at r.flows j)) (sym arc.pair_is) tight)))

  from_buyer : (u : ℕ) → has (entry_at entries here).buyers u ≡ true → has (group_at groups (get_or p here 0)) u ≡ true → (a : ℕ) × IsOpenTwin r p here u a
  from_buyer u known grouped =
      let w = are.buyers here u in_here known in
      let k = w.0 in
      let seller : (flow_at r.flows w.0).seller ≡ here = w.1.1 in
      let buyer : (flow_at r.flows w.0).buyer ≡ u = w.1.2 in
      let price = ((sorted.sorted (get_or p here 0) u (omega (arith, sorted.low here, sorted.long))).0 grouped).1 in
      let on : has (entry_at entries (flow_at r.flows w.0).seller).buyers (flow_at r.flows w.0).buyer ≡ true = rw (seller, buyer) known in
      let some : 0 < (flow_at r.flows w.0).back = ltb-true 0 (flow_at r.flows w.0).back (sym (are.falling w.0 w.2) ∙ on) in
      let at_seller : get_or p (flow_at r.flows w.0).seller 0 ≡ get_or p here 0 = ap (λ v. get_or p v 0) seller in
      let at_buyer : get_or p (flow_at r.flows w.0).buyer 0 ≡ get_or p u 0 = ap (λ v. get_or p v 0) buyer in
      let tight : IsTight p (flow_at r.flows w.0) = omega (arith, at_seller, at_buyer, price) in
      let arc = forth r.flows k in
      (2 * w.0, (omega (arith, w.2), arc.tail_is ∙ seller, arc.head_is ∙ buyer, (omega (arith, arc.twin_is, some), subst (λ j. IsTight p (flow_at r.flows j)) (sym arc.pair_is) tight)))

  -- each of them has such an arc
  pub near_open : (u : ℕ) → is_open_to entries groups (get_or p here 0) here u ≡ true → (a : ℕ) × IsOpenTwin r p here u a
  near_open u on =
      elim (or_cases (has (entry_at entries here).sellers u && has (group_at groups (get_or p here 0 + 2)) u) (has (entry_at entries here).buyers u && has (group_at groups (get_or p here 0)) u) on) [
        | inl selling ↦ let both = and_parts (has (entry_at entries here).sellers u) (has (group_at groups (get_or p here 0 + 2)) u) selling in from_seller u both.0 both.1
        | inr buying ↦ let both = and_parts (has (entry_at entries here).buyers u) (has (group_at groups (get_or p here 0)) u) buying in from_buyer u both.0 both.1
      ]

  pub of_forward : (k : ℕ) → k < length r.flows → (flow_at r.flows k).buyer ≡ here → 0 < (flow_at r.flows k).room → IsTight p (flow_at r.flows k) → is_open_to entries groups (get_or p here 0) here (flow_at r.flows k).seller ≡ true
  of_forward k l buyer some tight =
      let u = (flow_at r.flows k).seller in
      let good = residual.good k no_flow l in
      let known : has (entry_at entries here).sellers (flow_at r.flows k).seller ≡ true =
      ap (λ v. has (entry_at entries v).sellers u) (sym buyer) ∙ are.growing k l ∙ lt-ltb 0 (flow_at r.flows k).room some in
      let price : get_or p (flow_at r.flows k).seller 0 + 1 ≡ get_or p here 0 + 2 = omega (arith, tight, ap (λ v. get_or p v 0) buyer) in
      let grouped : has (group_at groups (get_or p here 0 + 2)) (flow_at r.flows k).seller ≡ true = (sorted.sorted (get_or p here 0 + 2) u (omega (arith, sorted.low here, sorted.long))).1 (omega (arith, good.seller, sorted.one_each), price) in
      or_left (has (entry_at entries here).sellers u && has (group_at groups (get_or p here 0 + 2)) u) (has (entry_at entries here).buyers u && has (group_at groups (get_or p here 0)) u)
      (and_from (has (entry_at entries here).sellers u) (has (group_at groups (get_or p here 0 + 2)) u) known grouped)

  pub of_backward : (k : ℕ) → k < length r.flows → (flow_at r.flows k).seller ≡ here → 0 < (flow_at r.flows k).back → IsTight p (flow_at r.flows k) → is_open_to entries groups (get_or p here 0) here (flow_at r.flows k).buyer ≡ true
  of_backward k l seller some tight =
      let u = (flow_at r.flows k).buyer in
      let good = residual.good k no_flow l in
      let known : has (entry_at entries here).buyers (flow_at r.flows k).buyer ≡ true =
      ap (λ v. has (entry_at entries v).buyers u) (sym seller) ∙ are.falling k l ∙ lt-ltb 0 (flow_at r.flows k).back some in
      let price : get_or p (flow_at r.flows k).buyer 0 + 1 ≡ get_or p here 0 = omega (arith, tight, ap (λ v. get_or p v 0) seller) in
      let grouped : has (group_at groups (get_or p here 0)) (flow_at r.flows k).buyer ≡ true = (sorted.sorted (get_or p here 0) u (omega (arith, sorted.low here, sorted.long))).1 (omega (arith, good.buyer, sorted.one_each), price) in
      or_right (has (entry_at entries here).sellers u && has (group_at groups (get_or p here 0 + 2)) u) (has (entry_at entries here).buyers u && has (group_at groups (get_or p here 0)) u)
      (and_from (has (entry_at entries here).buyers u) (has (group_at groups (get_or p here 0)) u) known grouped)

  in_case : (k : ℕ) (forward : Bool) → k < length r.flows → 0 < room_in (flow_at r.flows k) forward → IsTight p (flow_at r.flows k) → head_in (flow_at r.flows k) forward ≡ here
      → is_open_to entries groups (get_or p here 0) here (tail_in (flow_at r.flows k) forward) ≡ true
  in_case k true l some tight ends = of_forward k l ends some tight
  in_case k false l some tight ends = of_backward k l ends some tight

  -- and who has such an arc is one of them
  pub open_near : (a : ℕ) → a < arc_count r.flows → IsOpen r.flows p a → head r.flows a ≡ here → is_open_to entries groups (get_or p here 0) here (tail r.flows a) ≡ true
  open_near a l is_open ends = in_case (pair a) (is_forward a) (pair_below a (length r.flows) l) is_open.0 is_open.1 ends
