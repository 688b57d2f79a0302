-- What is left of a walk after an amount was sent along its path.
use Rattle.std.proofs.Common.{◌≡◌, ◌≢◌, ℕ, suc, ◌+◌, ◌-◌, ◌<◌, ◌≤◌, Bool, true, false, List, length, get_or, take, sym, ap, ◌∙◌, subst, inl, inr, arith}
use Rattle.std.proofs.lemmas.Bool.{cases_eq, cases_lt}
use Rattle.std.proofs.lemmas.List.Sums.{fold_more}
use Rattle.member_set.specs.declared.set.MemberSet.{MemberSet}
use Rattle.member_set.specs.Members.{has}
use Rattle.residual_graph.specs.declared.flow.Flow.{Flow}
use Rattle.residual_graph.specs.Residual.{ResidualData, IsResidual}
use Rattle.residual_graph.specs.Arcs.{pair, is_forward, flow_at, room, room_in, head, tail, moved, pushed}
use Rattle.residual_graph.specs.Paths.{pushed_all}
use Rattle.residual_graph.proofs.Kept.{pair_below}
use Rattle.residual_graph.proofs.Walks.{path_can}
use Rattle.path_solver.specs.Rests.{AreSamePairs}
use Rattle.path_solver.specs.Paths.{IsPlainPath, StaysOpen}
use Rattle.path_solver.specs.Levels.{layer_at}
use Rattle.path_solver.specs.Trails.{IsRung, IsTrail, arc_to}
use Rattle.path_solver.proofs.Ends.{ends_in}
use Rattle.path_solver.proofs.Same.{same_ends, same_tight, flow_at_pushed}
use Rattle.path_solver.proofs.Walks.{can_at, flow_after, flow_before}

moved_open : (x : ℕ) (f : Flow) (b : Bool) → x < room_in f b → 0 < room_in (moved x b f) b
moved_open x f true less = omega (arith, less)
moved_open x f false less = omega (arith, less)

-- an arc that stays open has room in the end
pub left_open : (x : ℕ) (flows : List Flow) (path : List ℕ) (k : ℕ) → IsPlainPath x flows path → k < length path → StaysOpen x flows (get_or path k 0) → 0 < room (pushed_all x flows path) (get_or path k 0)
left_open x flows path k h l stays =
    let a = get_or path k 0 in
    let before = pushed_all x flows (take k path) in
    let here = can_at x flows path k (path_can x flows path h.along) l in
    let step : pushed_all x flows (take (k + 1) path) ≡ pushed x (pushed_all x flows (take k path)) (get_or path k 0) = fold_more (pushed x) flows path k 0 l in
    let now : flow_at (pushed_all x flows path) (pair (get_or path k 0)) ≡ moved x (is_forward (get_or path k 0)) (flow_at flows (pair (get_or path k 0))) =
    flow_after x flows path k h.pairs l ∙ ap (λ j. flow_at (pushed_all x flows (take j path)) (pair (get_or path k 0))) (more k)
    ∙ ap (λ (fs : List Flow). flow_at fs (pair (get_or path k 0))) step ∙ flow_at_pushed x before a (pair_below a (length before) here.0)
    ∙ ap (moved x (is_forward (get_or path k 0))) (flow_before x flows path k h.pairs l) in
    subst (λ (f : Flow). 0 < room_in f (is_forward (get_or path k 0))) (sym now) (moved_open x (flow_at flows (pair a)) (is_forward a) stays.0)
  where
    more : (m : ℕ) → suc m ≡ m + 1
    more m = omega arith

-- of the first m arcs those before `behind` have room in the end
pub record AreLeftOpen (x : ℕ) (flows : List Flow) (path : List ℕ) (behind m : ℕ) : Type 0 where
  pub within : behind ≤ length path
  pub each : (k : ℕ) → k < m → k < behind → 0 < room (pushed_all x flows path) (get_or path k 0)

pub left_next : (x : ℕ) (flows : List Flow) (path : List ℕ) (old new m l : ℕ) → IsPlainPath x flows path → l < length path → ((k : ℕ) → m ≤ k → k < l → StaysOpen x flows (get_or path k 0)) → AreLeftOpen x flows path old m → new ≤ old
    → (l < new → 0 < room (pushed_all x flows path) (get_or path l 0)) → AreLeftOpen x flows path new (l + 1)
left_next x flows path old new m l h inside steady are less here = record {
  within = omega (arith, less, are.within);
  each = λ k lk low.
      elim (cases_eq k l) [
        | inl e ↦ subst (λ j. 0 < room (pushed_all x flows path) (get_or path j 0)) (sym e) (here (omega (arith, e, low)))
        | inr ne ↦
            elim (cases_lt k m) [
              | inl lt ↦ are.each k lt (omega (arith, low, less))
              | inr le ↦ left_open x flows path k h (omega (arith, lk, inside)) (steady k le (omega (arith, lk, ne)))
            ]
      ];
}

module _ (r s : ResidualData) (p levels : List ℕ) (layers : List MemberSet) (path : List ℕ) (top end from n here : ℕ) (residual : IsResidual r) (members : s.members ≡ r.members) (same : AreSamePairs r.flows s.flows) (h : IsTrail r p levels layers path 0 top end from)
    (within : n ≤ top) (roomy : (k : ℕ) → k < n → 0 < room s.flows (get_or path k 0)) (at_inner : n < top → here ≡ tail s.flows (get_or path n 0)) (at_end : n ≡ top → here ≡ end) where
  rung : (i : ℕ) → i < top → IsRung r.flows p levels i (arc_to path top i)
  rung i lt = h.rungs i (omega arith) lt

  ends : (i : ℕ) → i < top → (tail s.flows (arc_to path top i) ≡ tail r.flows (arc_to path top i)) × (head s.flows (arc_to path top i) ≡ head r.flows (arc_to path top i))
  ends i lt = same_ends r.flows s.flows same (arc_to path top i) (rung i lt).arc

  has_room : (i : ℕ) → top - n ≤ i → i < top → 0 < room s.flows (arc_to path top i)
  has_room i le lt = roomy (top - (i + 1)) (omega (arith, le, lt))

  next : n < top → n ≡ top - (top - n - 1 + 1)
  next lt = omega (arith, lt)

  -- where arcs are behind, the next one begins here
  at_up : n < top → here ≡ tail r.flows (arc_to path top (top - n - 1))
  at_up lt = at_inner lt ∙ ap (λ j. tail s.flows (get_or path j 0)) (next lt) ∙ (ends (top - n - 1) (omega (arith, lt))).0

  less : n ≢ top → n < top
  less ne = omega (arith, within, ne)

  -- what is left of the way where each arc has room
  pub trail_behind : IsTrail s p levels layers path (top - n) top here from
  trail_behind = record {
    within = omega arith;
    member =
        elim (cases_eq n top) [
          | inl e ↦ omega (arith, at_end e, h.member, members)
          | inr ne ↦ let inside = (ends_in r residual (arc_to path top (top - n - 1)) (rung (top - n - 1) (omega (arith, less ne))).arc).0 in omega (arith, at_up (less ne), inside, members)
        ];
    level =
        elim (cases_eq n top) [
          | inl e ↦ omega (arith, ap (λ v. get_or levels v 0) (at_end e), h.level, e)
          | inr ne ↦ omega (arith, ap (λ v. get_or levels v 0) (at_up (less ne)), (rung (top - n - 1) (omega (arith, less ne))).starts, less ne)
        ];
    rungs = λ i le lt.
        let old = rung i lt in
        record {
          arc = omega (arith, old.arc, same.same_length);
          is_open = (has_room i le lt, same_tight p (flow_at r.flows (pair (arc_to path top i))) (flow_at s.flows (pair (arc_to path top i))) (same.each (pair (arc_to path top i)) (pair_below (arc_to path top i) (length r.flows) old.arc)) old.is_open.1);
          ends = ap (λ v. get_or levels v 0) (ends i lt).1 ∙ old.ends;
          starts = ap (λ v. get_or levels v 0) (ends i lt).0 ∙ old.starts;
        };
    kept = λ i le lt. ap (has (layer_at layers i)) (ends i lt).1 ∙ h.kept i (omega arith) lt;
    joined = λ i le lt. (ends (i + 1) lt).1 ∙ h.joined i (omega arith) lt ∙ sym (ends i (omega (arith, lt))).0;
    start = λ lt.
        elim (cases_eq n top) [
          | inl e ↦ (ends (top - n) lt).1 ∙ ap (λ j. head r.flows (arc_to path top j)) (lowest e) ∙ h.start (omega (arith, lt, e)) ∙ sym (at_end e)
          | inr ne ↦ (ends (top - n) lt).1 ∙ ap (λ j. head r.flows (arc_to path top j)) (above (less ne)) ∙ h.joined (top - n - 1) (omega arith) (omega (arith, less ne, lt)) ∙ sym (at_up (less ne))
        ];
    end = λ i le e. (ends i (omega (arith, e))).0 ∙ h.end i (omega arith) e;
    none = λ e.
        elim (cases_eq n top) [
          | inl q ↦ at_end q ∙ h.none (omega (arith, q, e))
          | inr ne ↦ at_up (less ne) ∙ h.end (top - n - 1) (omega arith) (omega (arith, less ne, e))
        ];
  }
    where
      lowest : n ≡ top → top - n ≡ 0
      lowest e = omega (arith, e)

      above : n < top → top - n ≡ top - n - 1 + 1
      above lt = omega (arith, lt)
