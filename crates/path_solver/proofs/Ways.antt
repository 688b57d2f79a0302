-- Open arcs that leave a member, by its exits.
use Rattle.std.proofs.Common.{◌≡◌, ◌≢◌, ℕ, ◌+◌, ◌-◌, ◌*◌, ◌<◌, ◌≤◌, Bool, true, false, ◌&&◌, List, length, get_or, map, sym, ap, ◌∙◌, subst, inl, inr, arith, true≢false}
use Rattle.std.proofs.lemmas.Bool.{cases_Bool, ltb-true, false_from_ne_true, and_parts, or_cases, cond-true, cond-false}
use Rattle.member_set.specs.declared.set.MemberSet.{MemberSet}
use Rattle.member_set.specs.Members.{has}
use Rattle.residual_graph.specs.declared.flow.Flow.{Flow}
use Rattle.residual_graph.specs.Residual.{ResidualData, IsResidual}
use Rattle.residual_graph.specs.Arcs.{arc_count, pair, is_forward, flow_at, room_in, head, tail, head_in, tail_in}
use Rattle.residual_graph.proofs.Kept.{pair_below}
use Rattle.path_solver.specs.declared.neighbours.Neighbours.{Neighbours}
use Rattle.path_solver.specs.declared.neighbours.Exit.{Exit}
use Rattle.path_solver.specs.Prices.{IsTight, IsOpen}
use Rattle.path_solver.specs.Entries.{entry_at, is_open_to}
use Rattle.path_solver.specs.Groups.{group_at, AreSorted}
use Rattle.path_solver.specs.Levels.{layer_at, AreLevels, AreWholeLayers}
use Rattle.path_solver.proofs.Ends.{ends_in}
use Rattle.path_solver.specs.Neighbours.{turned, number_at, AreNeighbours, IsWayInto}
use Rattle.path_solver.proofs.Phased.{forward_of, arc_is}
use Rattle.path_solver.proofs.TakenBack.{back_of}
use Rattle.path_solver.proofs.Near.{of_forward, of_backward}
use Rattle.path_solver.proofs.Pruned.{IsStuck}
use Rattle.path_solver.proofs.Turned.{flow_turned, count_turned, residual_turned}

-- an open arc from one member to another
pub record Leads (flows : List Flow) (p : List ℕ) (here u a : ℕ) : Type 0 where
  pub arc : a < arc_count flows
  pub starts : tail flows a ≡ here
  pub ends : head flows a ≡ u
  pub is_open : IsOpen flows p a

module _ {r : ResidualData} {p : List ℕ} {n : Neighbours} {groups : List MemberSet} (here : ℕ) (residual : IsResidual r) (are : AreNeighbours r n) (sorted : AreSorted r.members p groups) (in_here : here < r.members) where
  forward_way : (u : ℕ) → has (entry_at n.exits.items here).buyers u ≡ true → has (group_at groups (get_or p here 0)) u ≡ true → Leads r.flows p here u (2 * number_at n.rows.items here u)
  forward_way u known grouped =
      let w = are.exits.buyers here u in_here known in
      let k = w.0 in
      let l : w.0 < length r.flows = omega (arith, w.2, count_turned r.flows) in
      let at_t = flow_turned r.flows w.0 in
      let seller : (flow_at r.flows w.0).seller ≡ here = sym (ap (λ (g : Flow). g.seller) at_t) ∙ w.1.1 in
      let buyer : (flow_at r.flows w.0).buyer ≡ u = sym (ap (λ (g : Flow). g.buyer) at_t) ∙ w.1.2 in
      let on : has (entry_at n.exits.items (flow_at (map turned r.flows) w.0).seller).buyers (flow_at (map turned r.flows) w.0).buyer ≡ true = rw (w.1.1, w.1.2) known in
      let some : 0 < (flow_at r.flows w.0).room = omega (arith, ltb-true 0 (flow_at (map turned r.flows) w.0).back (sym (are.exits.falling w.0 w.2) ∙ on), ap (λ (g : Flow). g.back) at_t) in
      let price = ((sorted.sorted (get_or p here 0) u (omega (arith, sorted.low here, sorted.long))).0 grouped).1 in
      let tight : IsTight p (flow_at r.flows w.0) = omega (arith, ap (λ v. get_or p v 0) seller, ap (λ v. get_or p v 0) buyer, price) in
      let number : number_at n.rows.items here u ≡ w.0 = subst (λ v. number_at n.rows.items v u ≡ w.0) seller (subst (λ v. number_at n.rows.items (flow_at r.flows w.0).seller v ≡ w.0) buyer (are.rows.numbers w.0 l)) in
      let there = forward_of k in
      let arc = arc_is r.flows (2 * k) k true there.0 there.1 in
      subst (λ j. Leads r.flows p here u (2 * j)) (sym number)
      (record {
        arc = omega (arith, l);
        starts = arc.2 ∙ seller;
        ends = arc.1 ∙ buyer;
        is_open = (omega (arith, arc.0, some), subst (λ j. IsTight p (flow_at r.flows j)) (sym there.0) tight);
      })

  backward_way : (u : ℕ) → has (entry_at n.exits.items here).sellers u ≡ true → has (group_at groups (get_or p here 0 + 2)) u ≡ true → Leads r.flows p here u (2 * number_at n.rows.items u here + 1)
  backward_way u known grouped =
      let w = are.exits.sellers here u in_here known in
      let k = w.0 in
      let l : w.0 < length r.flows = omega (arith, w.2, count_turned r.flows) in
      let at_t = flow_turned r.flows w.0 in
      let seller : (flow_at r.flows w.0).seller ≡ u = sym (ap (λ (g : Flow). g.seller) at_t) ∙ w.1.1 in
      let buyer : (flow_at r.flows w.0).buyer ≡ here = sym (ap (λ (g : Flow). g.buyer) at_t) ∙ w.1.2 in
      let on : has (entry_at n.exits.items (flow_at (map turned r.flows) w.0).buyer).sellers (flow_at (map turned r.flows) w.0).seller ≡ true = rw (w.1.2, w.1.1) known in
      let some : 0 < (flow_at r.flows w.0).back = omega (arith, ltb-true 0 (flow_at (map turned r.flows) w.0).room (sym (are.exits.growing w.0 w.2) ∙ on), ap (λ (g : Flow). g.room) at_t) in
      let price = ((sorted.sorted (get_or p here 0 + 2) u (omega (arith, sorted.low here, sorted.long))).0 grouped).1 in
      let tight : IsTight p (flow_at r.flows w.0) = omega (arith, ap (λ v. get_or p v 0) seller, ap (λ v. get_or p v 0) buyer, price) in
      let number : number_at n.rows.items u here ≡ w.0 = subst (λ v. number_at n.rows.items v here ≡ w.0) seller (subst (λ v. number_at n.rows.items (flow_at r.flows w.0).seller v ≡ w.0) buyer (are.rows.numbers w.0 l)) in
      let there = back_of k in
      let arc = arc_is r.flows (2 * k + 1) k false there.0 there.1 in
      subst (λ j. Leads r.flows p here u (2 * j + 1)) (sym number)
      (record {
        arc = omega (arith, l);
        starts = arc.2 ∙ buyer;
        ends = arc.1 ∙ seller;
        is_open = (omega (arith, arc.0, some), subst (λ j. IsTight p (flow_at r.flows j)) (sym there.0) tight);
      })

  -- a way is an open arc
  pub way_leads : (set : MemberSet) (e : Exit) → IsWayInto n groups (get_or p here 0) here set e → Leads r.flows p here e.head e.arc
  way_leads set e w =
      let u = e.head in
      let test = has (entry_at n.exits.items here).buyers e.head && has (group_at groups (get_or p here 0)) e.head in
      subst (Leads r.flows p here e.head) (sym w.between)
      (elim (cases_Bool (has (entry_at n.exits.items here).buyers e.head && has (group_at groups (get_or p here 0)) e.head)) [
        | inl on ↦
            let both = and_parts (has (entry_at n.exits.items here).buyers e.head) (has (group_at groups (get_or p here 0)) e.head) on in
            subst (Leads r.flows p here e.head) (sym (cond-true {A = ℕ} test (2 * number_at n.rows.items here u) (2 * number_at n.rows.items u here + 1) on)) (forward_way u both.0 both.1)
        | inr off ↦
            subst (Leads r.flows p here e.head) (sym (cond-false {A = ℕ} test (2 * number_at n.rows.items here u) (2 * number_at n.rows.items u here + 1) off))
            (elim (or_cases (has (entry_at n.exits.items here).sellers e.head && has (group_at groups (get_or p here 0 + 2)) e.head) test w.is_open) [
              | inl selling ↦ let both = and_parts (has (entry_at n.exits.items here).sellers e.head) (has (group_at groups (get_or p here 0 + 2)) e.head) selling in backward_way u both.0 both.1
              | inr buying ↦ absurd (true≢false (sym buying ∙ off))
            ])
      ])

  exit_case : (k : ℕ) (forward : Bool) → k < length r.flows → 0 < room_in (flow_at r.flows k) forward → IsTight p (flow_at r.flows k) → tail_in (flow_at r.flows k) forward ≡ here
      → is_open_to n.exits.items groups (get_or p here 0) here (head_in (flow_at r.flows k) forward) ≡ true
  exit_case k true l some tight starts =
      let at_t = flow_turned r.flows k in
      let tight_t : IsTight p (flow_at (map turned r.flows) k) = subst (IsTight p) (sym at_t) tight in
      ap (λ (g : Flow). is_open_to n.exits.items groups (get_or p here 0) here g.buyer) (sym at_t)
      ∙ of_backward here (residual_turned r residual) are.exits sorted in_here k (omega (arith, l, count_turned r.flows))
      (ap (λ (g : Flow). g.seller) at_t ∙ starts) (omega (arith, some, ap (λ (g : Flow). g.back) at_t)) tight_t
  exit_case k false l some tight starts =
      let at_t = flow_turned r.flows k in
      let tight_t : IsTight p (flow_at (map turned r.flows) k) = subst (IsTight p) (sym at_t) tight in
      ap (λ (g : Flow). is_open_to n.exits.items groups (get_or p here 0) here g.seller) (sym at_t)
      ∙ of_forward here (residual_turned r residual) are.exits sorted in_here k (omega (arith, l, count_turned r.flows))
      (ap (λ (g : Flow). g.buyer) at_t ∙ starts) (omega (arith, some, ap (λ (g : Flow). g.room) at_t)) tight_t

  -- and each open arc is one
  pub open_exit : (a : ℕ) → a < arc_count r.flows → IsOpen r.flows p a → tail r.flows a ≡ here → is_open_to n.exits.items groups (get_or p here 0) here (head r.flows a) ≡ true
  open_exit a l is_open starts = exit_case (pair a) (is_forward a) (pair_below a (length r.flows) l) is_open.0 is_open.1 starts

  -- where there is no way to a layer, no open arc leads there
  pub no_way_in : (layers : List MemberSet) (level k a : ℕ) → level ≡ k + 1 → ((u : ℕ) → has (layer_at layers (level - 1)) u ≡ true → is_open_to n.exits.items groups (get_or p here 0) here u ≡ false) → a < arc_count r.flows → IsOpen r.flows p a → tail r.flows a ≡ here → has (layer_at layers k) (head r.flows a) ≡ false
  no_way_in layers level k a e none l is_open starts =
      let below : level - 1 ≡ k = omega (arith, e) in
      subst (λ j. has (layer_at layers j) (head r.flows a) ≡ false) below
      (false_from_ne_true (has (layer_at layers (level - 1)) (head r.flows a)) (λ on. true≢false (sym (open_exit a l is_open starts) ∙ none (head r.flows a) on)))

  -- so it is stuck there
  pub stuck_above : (lack : List ℕ) (layers : List MemberSet) (level : ℕ) → level ≢ 0 → ((u : ℕ) → has (layer_at layers (level - 1)) u ≡ true → is_open_to n.exits.items groups (get_or p here 0) here u ≡ false) → IsStuck r.flows p lack layers level here
  stuck_above lack layers level above none = (λ e. absurd (above e), λ k a e l is_open starts. no_way_in layers level k a e none l is_open starts)

  -- over new levels, all members of the layer below are ways of a member, so it has one
  pub some_way : {lack levels : List ℕ} (layers : List MemberSet) (level m : ℕ) → AreLevels r.flows p lack levels → AreWholeLayers levels layers m → r.members ≡ length levels → get_or levels here 0 ≡ level → 0 < level → level < 65535 → level ≤ m
      → ((u : ℕ) → has (layer_at layers (level - 1)) u ≡ true → is_open_to n.exits.items groups (get_or p here 0) here u ≡ false) → ⊥
  some_way {lack} {levels} layers level m h whole long_levels at above low most none =
      let d = h.down here (omega (arith, in_here, long_levels)) (λ e. omega (arith, e, at, low)) (omega (arith, at, above)) in
      let a = d.0 in
      let l : head r.flows d.0 < r.members = (ends_in r residual a d.1.arc).1 in
      let on = whole (level - 1) (head r.flows a) (omega (arith, above, most)) (omega (arith, l, long_levels)) (omega (arith, d.1.down, at, above)) in
      true≢false (sym (open_exit a d.1.arc (d.1.room, d.1.tight) d.1.tail) ∙ none (head r.flows a) on)
