-- What members that are out of their layers have no way to, as walks and sendings go on.
use Rattle.std.proofs.Common.{◌≡◌, ◌≢◌, ℕ, zero, suc, ◌+◌, ◌<◌, ◌≤◌, true, false, not, eqb, ◌&&◌, List, [], ◌∷◌, length, get_or, set, refl, sym, ap, ◌∙◌, subst, inl, inr, arith, true≢false, get_or-set_same, get_or-set_other}
use Rattle.std.specs.Prelude.{All}
use Rattle.std.proofs.lemmas.Bool.{cases_eq, cases_order, and_parts, and_from, false_from_ne_true, eq-eqb, ne_eqb}
use Rattle.member_set.specs.declared.set.MemberSet.{MemberSet}
use Rattle.member_set.specs.Members.{has, no_members}
use Rattle.residual_graph.specs.declared.flow.Flow.{Flow}
use Rattle.residual_graph.specs.Residual.{ResidualData, IsResidual}
use Rattle.residual_graph.specs.Arcs.{arc_count, pair, flow_at, room, head, tail, pushed}
use Rattle.residual_graph.specs.Paths.{pushed_all}
use Rattle.residual_graph.proofs.Kept.{pair_below}
use Rattle.residual_graph.proofs.Walks.{CanPush}
use Rattle.path_solver.specs.Prices.{IsTight, IsOpen}
use Rattle.path_solver.specs.Levels.{layer_at, AreLayers, AreWholeLayers}
use Rattle.path_solver.specs.Pruned.{ArePruned, AreFewer}
use Rattle.path_solver.proofs.Ends.{ends_in, same_pair}
use Rattle.path_solver.proofs.Same.{pushed_same, same_ends, same_tight}
use Rattle.path_solver.proofs.Shortest.{IsStep, step_kept, open_other}

-- whole layers have nobody out of them
pub pruned_whole : (r : ResidualData) (p lack levels : List ℕ) (layers : List MemberSet) (n : ℕ) → IsResidual r → r.members ≡ length levels → AreWholeLayers levels layers n → ArePruned r.flows p lack levels layers n
pruned_whole r p lack levels layers n residual one_each whole = record {
  lowest = λ v some l at off. absurd (true≢false (sym (whole 0 v some l at) ∙ off));
  others = λ k a lt l is_open at off.
      let inside : tail r.flows a < length levels = omega (arith, (ends_in r residual a l).0, one_each) in
      absurd (true≢false (sym (whole (k + 1) (tail r.flows a) lt inside at) ∙ off));
}

pub fewer_more : (a b c : List MemberSet) → AreFewer a b → AreFewer b c → AreFewer a c
fewer_more a b c x y k v on = x k v (y k v on)

-- a member of this level has nothing to receive, or no way on
abbrev pub IsStuck : List Flow → List ℕ → List ℕ → List MemberSet → ℕ → ℕ → Type 0
IsStuck flows p lack layers level here =
    (level ≡ 0 → get_or lack here 0 ≡ 0) × ((k a : ℕ) → level ≡ k + 1 → a < arc_count flows → IsOpen flows p a → tail flows a ≡ here → has (layer_at layers k) (head flows a) ≡ false)

-- a member is taken out of its layer
module _ (layers : List MemberSet) (level here : ℕ) (gone : MemberSet) (inside : level < length layers) (taken : (m : ℕ) → has gone m ≡ (not (eqb m here) && has (layer_at layers level) m)) where
  at_level : (v : ℕ) → has (layer_at (set layers level gone) level) v ≡ (not (eqb v here) && has (layer_at layers level) v)
  at_level v = ap (λ s. has s v) (get_or-set_same layers level gone no_members inside) ∙ taken v

  at_other : (k v : ℕ) → k ≢ level → has (layer_at (set layers level gone) k) v ≡ has (layer_at layers k) v
  at_other k v ne = ap (λ s. has s v) (get_or-set_other layers level k gone no_members ne)

  -- who is out now was out before, or was taken out
  was_out : (k v : ℕ) → (k ≡ level → v ≢ here) → has (layer_at (set layers level gone) k) v ≡ false → has (layer_at layers k) v ≡ false
  was_out k v ne off =
      elim (cases_eq k level) [
        | inl e ↦
            let off' : (not (eqb v here) && has (layer_at layers level) v) ≡ false = sym (at_level v) ∙ subst (λ j. has (layer_at (set layers level gone) j) v ≡ false) e off in
            subst (λ j. has (layer_at layers j) v ≡ false) (sym e) (false_from_ne_true (has (layer_at layers level) v) (λ on. true≢false (sym (and_from (not (eqb v here)) (has (layer_at layers level) v) (ap not (ne_eqb v here (ne e))) on) ∙ off')))
        | inr other ↦ sym (at_other k v other) ∙ off
      ]

  pub fewer_taken : AreFewer layers (set layers level gone)
  fewer_taken k v on =
      elim (cases_eq k level) [
        | inl e ↦
            let here_on : has (layer_at (set layers level gone) level) v ≡ true = subst (λ j. has (layer_at (set layers level gone) j) v ≡ true) e on in
            subst (λ j. has (layer_at layers j) v ≡ true) (sym e) (and_parts (not (eqb v here)) (has (layer_at layers level) v) (sym (at_level v) ∙ here_on)).1
        | inr other ↦ sym (at_other k v other) ∙ on
      ]

  still_out : (k v : ℕ) → has (layer_at layers k) v ≡ false → has (layer_at (set layers level gone) k) v ≡ false
  still_out k v off = false_from_ne_true (has (layer_at (set layers level gone) k) v) (λ on. true≢false (sym (fewer_taken k v on) ∙ off))

  pub out_now : has (layer_at (set layers level gone) level) here ≡ false
  out_now =
      false_from_ne_true (has (layer_at (set layers level gone) level) here)
      (λ on. true≢false (sym (and_parts (not (eqb here here)) (has (layer_at layers level) here) (sym (at_level here) ∙ on)).0 ∙ ap not (eq-eqb here here refl)))

  -- one who is stuck may be taken out
  pub pruned_taken : {flows : List Flow} {p lack levels : List ℕ} {n : ℕ} → ArePruned flows p lack levels layers n → IsStuck flows p lack layers level here → ArePruned flows p lack levels (set layers level gone) n
  pruned_taken {flows} {p} {lack} {levels} {n} h stuck = record {
    lowest = λ v some l at off.
        elim (cases_eq 0 level) [
          | inl e ↦
              elim (cases_eq v here) [
                | inl same ↦ ap (λ u. get_or lack u 0) same ∙ stuck.0 (sym e)
                | inr ne ↦ h.lowest v some l at (was_out 0 v (λ q. ne) off)
              ]
          | inr other ↦ h.lowest v some l at (was_out 0 v (λ q. absurd (other q)) off)
        ];
    others = λ k a lt l is_open at off.
        still_out k (head flows a)
        (elim (cases_eq (k + 1) level) [
          | inl e ↦
              elim (cases_eq (tail flows a) here) [
                | inl same ↦ stuck.1 k a (sym e) l is_open same
                | inr ne ↦ h.others k a lt l is_open at (was_out (k + 1) (tail flows a) (λ q. ne) off)
              ]
          | inr other ↦ h.others k a lt l is_open at (was_out (k + 1) (tail flows a) (λ q. absurd (other q)) off)
        ]);
  }

-- a layer is empty, and those above it are emptied
module _ (before after : List MemberSet) (level top : ℕ) (within : level ≤ top) (empty : (v : ℕ) → has (layer_at before level) v ≡ false) (above : (k v : ℕ) → level < k → k ≤ top → has (layer_at after k) v ≡ false) (below : (k : ℕ) → k ≤ level → layer_at after k ≡ layer_at before k) where
  as_before : (k v : ℕ) → k ≤ level → has (layer_at after k) v ≡ has (layer_at before k) v
  as_before k v le = ap (λ s. has s v) (below k le)

  -- nobody is in the layer, nor in those above it
  pub out_above : (k v : ℕ) → level ≤ k → k ≤ top → has (layer_at after k) v ≡ false
  out_above k v low high =
      elim (cases_eq k level) [
        | inl e ↦ as_before k v (omega (arith, e)) ∙ subst (λ j. has (layer_at before j) v ≡ false) (sym e) (empty v)
        | inr ne ↦ above k v (omega (arith, low, ne)) high
      ]

  pub pruned_emptied : {flows : List Flow} {p lack levels : List ℕ} → ArePruned flows p lack levels before (top + 1) → ArePruned flows p lack levels after (top + 1)
  pruned_emptied {flows} {p} {lack} {levels} h = record {
    lowest = λ v some l at off. h.lowest v some l at (sym (as_before 0 v (omega arith)) ∙ off);
    others = λ k a lt l is_open at off.
        elim (cases_order k level) [
          | inl e ↦ out_above k (head flows a) (omega (arith, e)) (omega (arith, lt))
          | inr other ↦
              elim other [
                | inl less ↦ as_before k (head flows a) (omega (arith, less)) ∙ h.others k a lt l is_open at (sym (as_before (k + 1) (tail flows a) (omega (arith, less))) ∙ off)
                | inr more ↦ out_above k (head flows a) (omega (arith, more)) (omega (arith, lt))
              ]
        ];
  }

pub layers_fewer : (levels : List ℕ) (before after : List MemberSet) (n : ℕ) → AreFewer before after → AreLayers levels before n → AreLayers levels after n
layers_fewer levels before after n fewer known k v lt on = known k v lt (fewer k v on)

-- an arc down the levels opens its twin alone, which leads up
pruned_pushed : (x : ℕ) (p lack levels : List ℕ) (layers : List MemberSet) (n : ℕ) (flows : List Flow) (a : ℕ) → AreLayers levels layers n → IsStep flows levels a → IsOpen flows p a → x ≤ room flows a → ArePruned flows p lack levels layers n → ArePruned (pushed x flows a) p lack levels layers n
pruned_pushed x p lack levels layers n flows a known s own_open roomy h = record {
  lowest = h.lowest;
  others = λ k b lt l is_open at off.
      let same = pushed_same x flows a (pair_below a (length flows) s.arc) roomy in
      let old : b < arc_count flows = omega (arith, l, same.same_length) in
      let ends = same_ends flows (pushed x flows a) same b old in
      let at_old : get_or levels (tail flows b) 0 ≡ k + 1 = ap (λ v. get_or levels v 0) (sym ends.0) ∙ at in
      let off_old : has (layer_at layers (k + 1)) (tail flows b) ≡ false = ap (has (layer_at layers (k + 1))) (sym ends.0) ∙ off in
      ap (has (layer_at layers k)) ends.1
      ∙ elim (cases_eq (pair b) (pair a)) [
        | inr ne ↦ h.others k b lt old (open_other x p flows a b ne is_open) at_old off_old
        | inl e ↦
            elim (same_pair flows a b e) [
              | inl own ↦
                  ap (has (layer_at layers k)) own.1
                  ∙ h.others k a lt s.arc own_open (ap (λ v. get_or levels v 0) (sym own.0) ∙ at_old) (ap (has (layer_at layers (k + 1))) (sym own.0) ∙ off_old)
              | inr twin ↦
                  false_from_ne_true (has (layer_at layers k) (head flows b))
                  (λ on. let level = (known k (head flows b) (omega (arith, lt)) on).1 in
                  omega (arith, level, at_old, s.down, ap (λ v. get_or levels v 0) twin.0, ap (λ v. get_or levels v 0) twin.1))
            ]
      ];
}

pub pruned_walk : (x : ℕ) (p lack levels : List ℕ) (layers : List MemberSet) (n : ℕ) (flows : List Flow) (arcs : List ℕ) → 0 < x → AreLayers levels layers n → CanPush x flows arcs → All (IsStep flows levels) arcs → All (λ a. (a < arc_count flows) × IsTight p (flow_at flows (pair a))) arcs → ArePruned flows p lack levels layers n → ArePruned (pushed_all x flows arcs) p lack levels layers n
pruned_walk x p lack levels layers n flows [] some known can steps tight h = h
pruned_walk x p lack levels layers n flows (a ∷ arcs) some known can steps tight h =
    let same = pushed_same x flows a (pair_below a (length flows) can.0) can.1 in
    let here = tight 0 a (omega arith) in
    pruned_walk x p lack levels layers n (pushed x flows a) arcs some known can.2
    (λ k d l. step_kept x levels flows a (get_or arcs k d) can.0 can.1 (steps (suc k) d (omega arith)))
    (λ k d l. let t = tight (suc k) d (omega arith) in
    (omega (arith, t.0, same.same_length), same_tight p (flow_at flows (pair (get_or arcs k d))) (flow_at (pushed x flows a) (pair (get_or arcs k d))) (same.each (pair (get_or arcs k d)) (pair_below (get_or arcs k d) (length flows) t.0)) t.1))
    (pruned_pushed x p lack levels layers n flows a known (steps 0 a (omega arith)) (omega (arith, some, can.1), here.1) can.1 h)

pub nothing_more : (old new : ℕ) → (0 < new → 0 < old) → old ≡ 0 → new ≡ 0
nothing_more old zero h none = refl
nothing_more old (suc new) h none = absurd (omega (arith, h (omega arith), none))

-- less is to be received
pub pruned_less : {flows : List Flow} {p lack levels : List ℕ} {layers : List MemberSet} {n : ℕ} (lack' : List ℕ) → ((v : ℕ) → 0 < get_or lack' v 0 → 0 < get_or lack v 0) → ArePruned flows p lack levels layers n → ArePruned flows p lack' levels layers n
pruned_less {flows} {p} {lack} {levels} {layers} {n} lack' receivers h = record {
  lowest = λ v some l at off. nothing_more (get_or lack v 0) (get_or lack' v 0) (receivers v) (h.lowest v some l at off);
  others = h.others;
}
