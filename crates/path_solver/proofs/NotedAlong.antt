-- Notes of the pairs of a path, one behind the other, after an amount was moved along it.
use Rattle.std.proofs.Common.{◌≡◌, ◌≢◌, ◌⊎◌, ℕ, zero, suc, ◌+◌, ◌-◌, ◌<◌, ◌≤◌, true, false, not, cond, eqb, ◌&&◌, List, length, get_or, take, refl, arith, sym, ap, ◌∙◌, subst, inl, inr, true≢false}
use Rattle.std.proofs.Math.Seq.{take-length}
use Rattle.std.proofs.lemmas.Bool.{cases_order, and_parts, and_from, eq-eqb, ne_eqb, false_from_ne_true}
use Rattle.std.proofs.lemmas.List.Sums.{fold_more}
use Rattle.member_set.specs.declared.set.MemberSet.{MemberSet}
use Rattle.member_set.specs.Members.{has}
use Rattle.residual_graph.specs.declared.flow.Flow.{Flow}
use Rattle.residual_graph.specs.Residual.{ResidualData, IsResidual}
use Rattle.residual_graph.specs.Arcs.{pair, is_forward, flow_at, room_in, pushed}
use Rattle.residual_graph.specs.Paths.{pushed_all}
use Rattle.residual_graph.proofs.Kept.{pair_below}
use Rattle.residual_graph.proofs.Walks.{path_can, walk_arcs, all_pushed_kept}
use Rattle.path_solver.specs.declared.neighbours.Neighbours.{Neighbours}
use Rattle.path_solver.specs.Neighbours.{AreNeighbours, IsChanged}
use Rattle.path_solver.specs.Paths.{IsPlainPath, StaysOpen}
use Rattle.path_solver.proofs.Same.{pushed_same, flow_at_pushed, flow_at_other}
use Rattle.path_solver.proofs.Noted.{IsNext}
use Rattle.path_solver.proofs.Turned.{still_noted, neighbours_more}
use Rattle.path_solver.proofs.Walks.{all_same, can_at, can_take, flow_after, flow_before}

-- a graph after x was moved along the first m arcs
abbrev pub after : ℕ → ResidualData → List ℕ → ℕ → ResidualData
after x r path m = record { members = r.members; flows = pushed_all x r.flows (take m path) }

-- the pair of an arc of the path is one of the graph
pub pair_inside : (x : ℕ) (r : ResidualData) (path : List ℕ) (m : ℕ) → IsPlainPath x r.flows path → m < length path → pair (get_or path m 0) < length (pushed_all x r.flows path)
pair_inside x r path m h l =
    let here = walk_arcs r.flows h.along.from path h.along.to h.along.walk m 0 l in
    omega (arith, pair_below (get_or path m 0) (length r.flows) here, (all_same x r.flows path (path_can x r.flows path h.along)).same_length)

pub noted_along : (x : ℕ) (r : ResidualData) (path : List ℕ) (m : ℕ) (old new : Neighbours) → IsResidual r → IsPlainPath x r.flows path → m < length path → AreNeighbours (after x r path m) old
    → IsChanged (flow_at (pushed_all x r.flows path) (pair (get_or path m 0))) old new ⊎ (StaysOpen x r.flows (get_or path m 0) × (new ≡ old))
    → AreNeighbours (after x r path (m + 1)) new
noted_along x r path m old new residual h l are case =
    let a = get_or path m 0 in
    let can = path_can x r.flows path h.along in
    let flows = pushed_all x r.flows (take m path) in
    let here = can_at x r.flows path m can l in
    let in_pairs : pair (get_or path m 0) < length (pushed_all x r.flows (take m path)) = pair_below a (length flows) here.0 in
    let same = pushed_same x flows a in_pairs here.1 in
    let now : pushed_all x r.flows (take (m + 1) path) ≡ pushed x (pushed_all x r.flows (take m path)) (get_or path m 0) = fold_more (pushed x) r.flows path m 0 l in
    let final : flow_at (pushed_all x r.flows path) (pair (get_or path m 0)) ≡ flow_at (pushed_all x r.flows (take (m + 1) path)) (pair (get_or path m 0)) =
    flow_after x r.flows path m h.pairs l ∙ ap (λ j. flow_at (pushed_all x r.flows (take j path)) (pair (get_or path m 0))) (more m) in
    let next : IsNext (length (pushed_all x r.flows (take m path))) (length (pushed_all x r.flows (take m path))) (pair (get_or path m 0)) (after x r path m) (after x r path (m + 1)) = record {
      members = refl;
      within = omega (arith, in_pairs, ap length now, same.same_length);
      pairs = ap length now ∙ same.same_length;
      seller = λ j lj. ap (λ (fs : List Flow). (flow_at fs j).seller) now ∙ (same.each j lj).seller;
      buyer = λ j lj. ap (λ (fs : List Flow). (flow_at fs j).buyer) now ∙ (same.each j lj).buyer;
      others = λ j ne. ap (λ (fs : List Flow). flow_at fs j) now ∙ flow_at_other x flows a j ne;
      fewer = omega arith;
      last = in_pairs;
      rest = λ j lj ne. lj;
      all = omega (arith, ap length now, same.same_length);
    } in
    let at_pair = ap (λ (fs : List Flow). flow_at fs (pair a)) now ∙ flow_at_pushed x flows a in_pairs in
    let kept : IsResidual (after x r path (m + 1)) = all_pushed_kept x r.members r.flows (take (m + 1) path) (can_take x r.flows path (m + 1) can) residual in
    let changed : IsChanged (flow_at (pushed_all x r.flows (take (m + 1) path)) (pair (get_or path m 0))) old new =
    elim case [
      | inl noted ↦ subst (λ f. IsChanged f old new) final noted
      | inr none ↦
          subst (IsChanged (flow_at (pushed_all x r.flows (take (m + 1) path)) (pair (get_or path m 0))) old) (sym none.1)
          (still_noted x (after x r path m) (after x r path (m + 1)) (pair a) (is_forward a) old next at_pair are
          (subst (λ (f : Flow). x < room_in f (is_forward (get_or path m 0))) (sym (flow_before x r.flows path m h.pairs l)) none.0.0)
          (subst (λ (f : Flow). 0 < cond (is_forward (get_or path m 0)) f.back f.room) (sym (flow_before x r.flows path m h.pairs l)) none.0.1))
    ] in
    neighbours_more (after x r path m) (after x r path (m + 1)) (pair a) old new kept next are changed
  where
    more : (m : ℕ) → suc m ≡ m + 1
    more m = omega arith

-- past arcs that stay open
skip_along : (x : ℕ) (r : ResidualData) (path : List ℕ) (n : Neighbours) → IsResidual r → IsPlainPath x r.flows path → (d m : ℕ) → m + d ≤ length path → ((k : ℕ) → m ≤ k → k < m + d → StaysOpen x r.flows (get_or path k 0)) → AreNeighbours (after x r path m) n → AreNeighbours (after x r path (m + d)) n
skip_along x r path n residual h zero m le steady are = subst (λ j. AreNeighbours (after x r path j) n) (omega arith) are
skip_along x r path n residual h (suc d) m le steady are =
    subst (λ j. AreNeighbours (after x r path j) n) (shift d m)
    (skip_along x r path n residual h d (m + 1) (omega (arith, le)) (λ k low high. steady k (omega (arith, low)) (omega (arith, high)))
    (noted_along x r path m n n residual h (omega (arith, le)) are (inr (steady m (omega arith) (omega arith), refl))))
  where
    shift : (d m : ℕ) → m + 1 + d ≡ m + suc d
    shift d m = omega arith

-- up to place m all is noted, and of the others those that may turn are left
pub record IsNotedTo (x : ℕ) (r : ResidualData) (path : List ℕ) (left : MemberSet) (n : Neighbours) (m : ℕ) : Type 0 where
  pub within : m ≤ length path
  pub noted : AreNeighbours (after x r path m) n
  pub later : (k : ℕ) → has left k ≡ true → (m ≤ k) × (k < length path)
  pub steady : (k : ℕ) → m ≤ k → k < length path → has left k ≡ false → StaysOpen x r.flows (get_or path k 0)

pub noted_next : (x : ℕ) (r : ResidualData) (path : List ℕ) (left rest : MemberSet) (old new : Neighbours) (m l : ℕ) → IsResidual r → IsPlainPath x r.flows path → IsNotedTo x r path left old m → has left l ≡ true → ((k : ℕ) → k < l → has left k ≡ false) → ((k : ℕ) → has rest k ≡ (not (eqb k l) && has left k))
    → IsChanged (flow_at (pushed_all x r.flows path) (pair (get_or path l 0))) old new → IsNotedTo x r path rest new (l + 1)
noted_next x r path left rest old new m l residual h to on least others changed =
    let at = to.later l on in
    let before : AreNeighbours (after x r path l) old =
    subst (λ j. AreNeighbours (after x r path j) old) (omega (arith, at.0))
    (skip_along x r path old residual h (l - m) m (omega (arith, at.0, at.1)) (λ k low high. to.steady k low (omega (arith, high, at.0, at.1)) (least k (omega (arith, high, at.0)))) to.noted) in
    record {
      within = omega (arith, at.1);
      noted = noted_along x r path l old new residual h at.1 before (inl changed);
      later = λ k still.
          let parts = and_parts (not (eqb k l)) (has left k) (sym (others k) ∙ still) in (
            elim (cases_order k l) [
              | inl e ↦ absurd (true≢false (sym parts.0 ∙ ap not (eq-eqb k l e)))
              | inr other ↦
                  elim other [
                    | inl less ↦ absurd (true≢false (sym parts.1 ∙ least k less))
                    | inr more ↦ omega (arith, more)
                  ]
            ],
            (to.later k parts.1).1,
          );
      steady = λ k low high off.
          let ne : k ≢ l = λ e. omega (arith, e, low) in
          to.steady k (omega (arith, low, at.0)) high
          (false_from_ne_true (has left k) (λ on_k. true≢false (sym (and_from (not (eqb k l)) (has left k) (ap not (ne_eqb k l ne)) on_k) ∙ sym (others k) ∙ off)));
    }

pub noted_end : (x : ℕ) (r : ResidualData) (path : List ℕ) (left : MemberSet) (n : Neighbours) (m : ℕ) → IsResidual r → IsPlainPath x r.flows path → IsNotedTo x r path left n m → ((k : ℕ) → has left k ≡ false) → AreNeighbours (record { members = r.members; flows = pushed_all x r.flows path }) n
noted_end x r path left n m residual h to none =
    subst (λ (p : List ℕ). AreNeighbours (record { members = r.members; flows = pushed_all x r.flows p }) n) (take-length path)
    (subst (λ j. AreNeighbours (after x r path j) n) (omega (arith, to.within))
    (skip_along x r path n residual h (length path - m) m (omega (arith, to.within)) (λ k low high. to.steady k low (omega (arith, high, to.within)) (none k)) to.noted))
