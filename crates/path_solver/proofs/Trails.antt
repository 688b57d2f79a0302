-- The way that a walk has come so far.
use Rattle.std.proofs.Common.{◌≡◌, ◌≢◌, ℕ, suc, ◌+◌, ◌-◌, ◌<◌, ◌≤◌, true, not, eqb, ◌&&◌, List, [], ◌∷◌, length, get_or, set, take, refl, sym, ap, ◌∙◌, subst, inl, inr, arith, get_or-set_same, get_or-set_other}
use Rattle.std.specs.Prelude.{sum_by}
use Rattle.std.proofs.lemmas.Bool.{cases_eq, and_parts}
use Rattle.std.proofs.lemmas.List.{get_or-take, length-take-le, get_or_default}
use Rattle.std.proofs.lemmas.List.Sums.{sum_by-set}
use Rattle.member_set.specs.declared.set.MemberSet.{MemberSet}
use Rattle.member_set.specs.Members.{has, size, no_members}
use Rattle.member_set.proofs.Sizes.{size_less}
use Rattle.residual_graph.specs.declared.flow.Flow.{Flow}
use Rattle.residual_graph.specs.Residual.{ResidualData, IsResidual}
use Rattle.residual_graph.specs.Arcs.{arc_count, head, tail}
use Rattle.path_solver.specs.declared.stand.Stand.{Stand}
use Rattle.path_solver.specs.Levels.{layer_at, AreLayers}
use Rattle.residual_graph.specs.Paths.{IsWalk}
use Rattle.path_solver.specs.Paths.{IsPathDown}
use Rattle.path_solver.specs.Trails.{IsRung, IsTrail, IsBegun, arc_to}
use Rattle.path_solver.proofs.Ends.{ends_in}
use Rattle.path_solver.proofs.Ways.{Leads}

pub trail_none : (r : ResidualData) (p levels : List ℕ) (layers : List MemberSet) (path : List ℕ) (top from : ℕ) → from < r.members → get_or levels from 0 ≡ top → IsTrail r p levels layers path top top from from
trail_none r p levels layers path top from l at_from = record {
  within = omega arith;
  member = l;
  level = at_from;
  rungs = λ i le lt. absurd (omega (arith, le, lt));
  kept = λ i le lt. absurd (omega (arith, le, lt));
  joined = λ i le lt. absurd (omega (arith, le, lt));
  start = λ lt. absurd (omega (arith, lt));
  end = λ i le e. absurd (omega (arith, le, e));
  none = λ e. refl;
}

-- a walk that has not begun
pub begun_none : (r : ResidualData) (p levels : List ℕ) (layers : List MemberSet) (path : List ℕ) (from : ℕ) → from < r.members → (s : Stand) → s.done ≡ 0 → s.here ≡ from → IsBegun r p levels layers path from s
begun_none r p levels layers path from l s done here = record {
  done = omega (arith, done);
  trail = subst (λ v. IsTrail r p levels layers path (get_or levels from 0 - s.done) (get_or levels from 0) v from) (sym here)
      (subst (λ low. IsTrail r p levels layers path low (get_or levels from 0) from from) (omega (arith, done)) (trail_none r p levels layers path (get_or levels from 0) from l refl));
}

module _ {r : ResidualData} {p levels : List ℕ} {layers : List MemberSet} {path : List ℕ} (residual : IsResidual r) where
  -- a level further down
  pub trail_down : {top here from a u : ℕ} (low : ℕ) → IsTrail r p levels layers path (low + 1) top here from → Leads r.flows p here u a → top - (low + 1) < length path → get_or levels u 0 ≡ low → has (layer_at layers low) u ≡ true → IsTrail r p levels layers (set path (top - (low + 1)) a) low top u from
  trail_down {top} {here} {from} {a} {u} low h leads inside at_u on =
      let at_low : arc_to (set path (top - (low + 1)) a) top low ≡ a = get_or-set_same path (top - (low + 1)) a 0 inside in
      let other : (i : ℕ) → i ≢ low → i < top → arc_to (set path (top - (low + 1)) a) top i ≡ arc_to path top i = λ i ne lt. get_or-set_other path (top - (low + 1)) (top - (i + 1)) a 0 (λ q. ne (omega (arith, q, lt, h.within))) in
      let at_head : head r.flows (arc_to (set path (top - (low + 1)) a) top low) ≡ u = ap (head r.flows) at_low ∙ leads.ends in
      let at_tail : tail r.flows (arc_to (set path (top - (low + 1)) a) top low) ≡ here = ap (tail r.flows) at_low ∙ leads.starts in
      record {
        within = omega (arith, h.within);
        member = let l : head r.flows a < r.members = (ends_in r residual a leads.arc).1 in omega (arith, l, leads.ends);
        level = at_u;
        rungs = λ i le lt.
            elim (cases_eq i low) [
              | inl e ↦
                  subst (λ j. IsRung r.flows p levels j (arc_to (set path (top - (low + 1)) a) top j)) (sym e)
                  (subst (IsRung r.flows p levels low) (sym at_low)
                  (record {
                    arc = leads.arc;
                    is_open = leads.is_open;
                    ends = ap (λ v. get_or levels v 0) leads.ends ∙ at_u;
                    starts = ap (λ v. get_or levels v 0) leads.starts ∙ h.level;
                  }))
              | inr ne ↦ subst (IsRung r.flows p levels i) (sym (other i ne (omega (arith, lt)))) (h.rungs i (omega (arith, le, ne)) lt)
            ];
        kept = λ i le lt.
            elim (cases_eq i low) [
              | inl e ↦ subst (λ j. has (layer_at layers j) (head r.flows (arc_to (set path (top - (low + 1)) a) top j)) ≡ true) (sym e) (ap (has (layer_at layers low)) at_head ∙ on)
              | inr ne ↦ ap (λ b. has (layer_at layers i) (head r.flows b)) (other i ne (omega (arith, lt))) ∙ h.kept i (omega (arith, le, ne)) lt
            ];
        joined = λ i le lt.
            elim (cases_eq i low) [
              | inl e ↦
                  subst (λ j. head r.flows (arc_to (set path (top - (low + 1)) a) top (j + 1)) ≡ tail r.flows (arc_to (set path (top - (low + 1)) a) top j)) (sym e)
                  (ap (head r.flows) (other (low + 1) (λ q. omega (arith, q)) (omega (arith, e, lt))) ∙ h.start (omega (arith, e, lt)) ∙ sym at_tail)
              | inr ne ↦ ap (head r.flows) (other (i + 1) (λ q. omega (arith, q, le)) lt) ∙ h.joined i (omega (arith, le, ne)) lt ∙ sym (ap (tail r.flows) (other i ne (omega (arith, lt))))
            ];
        start = λ lt. at_head;
        end = λ i le e.
            elim (cases_eq i low) [
              | inl q ↦ subst (λ j. tail r.flows (arc_to (set path (top - (low + 1)) a) top j) ≡ from) (sym q) (at_tail ∙ h.none (omega (arith, q, e)))
              | inr ne ↦ ap (tail r.flows) (other i ne (omega (arith, e))) ∙ h.end i (omega (arith, le, ne)) e
            ];
        none = λ e. absurd (omega (arith, e, h.within));
      }

  -- back up a level, where a member is taken out of the layer below
  pub trail_up : {low top here from : ℕ} (gone : MemberSet) → IsTrail r p levels layers path low top here from → low < top → IsTrail r p levels (set layers low gone) path (low + 1) top (tail r.flows (arc_to path top low)) from
  trail_up {low} {top} {here} {from} gone h less =
      let rung = h.rungs low (omega arith) less in
      record {
        within = omega (arith, less);
        member = (ends_in r residual (arc_to path top low) rung.arc).0;
        level = rung.starts;
        rungs = λ i le lt. h.rungs i (omega (arith, le)) lt;
        kept = λ i le lt. ap (λ s. has s (head r.flows (arc_to path top i))) (get_or-set_other layers low i gone no_members (λ q. omega (arith, q, le))) ∙ h.kept i (omega (arith, le)) lt;
        joined = λ i le lt. h.joined i (omega (arith, le)) lt;
        start = λ lt. h.joined low (omega arith) lt;
        end = λ i le e. h.end i (omega (arith, le)) e;
        none = λ e. h.end low (omega arith) e;
      }

-- who is still in a layer was there before
pub layers_less : (levels : List ℕ) (layers : List MemberSet) (n k : ℕ) (gone : MemberSet) (l : ℕ) → k < length layers → ((m : ℕ) → has gone m ≡ (not (eqb m l) && has (layer_at layers k) m)) → AreLayers levels layers n → AreLayers levels (set layers k gone) n
layers_less levels layers n k gone l inside taken h j v lt on =
    elim (cases_eq j k) [
      | inl e ↦
          let here : has gone v ≡ true = ap (λ s. has s v) (sym (get_or-set_same layers k gone no_members inside)) ∙ subst (λ i. has (layer_at (set layers k gone) i) v ≡ true) e on in
          h j v lt (ap (λ i. has (layer_at layers i) v) e ∙ (and_parts (not (eqb v l)) (has (layer_at layers k) v) (sym (taken v) ∙ here)).1)
      | inr ne ↦ h j v lt (ap (λ s. has s v) (sym (get_or-set_other layers k j gone no_members ne)) ∙ on)
    ]

-- how many are in all layers
abbrev pub in_layers : List MemberSet → ℕ
in_layers layers = sum_by size layers

pub in_layers_less : (layers : List MemberSet) (k : ℕ) (gone : MemberSet) (l : ℕ) → k < length layers → ((m : ℕ) → has gone m ≡ (not (eqb m l) && has (layer_at layers k) m)) → l < 256 → has (layer_at layers k) l ≡ true → in_layers (set layers k gone) < in_layers layers
in_layers_less layers k gone l inside taken small on = omega (arith, sum_by-set size layers k gone no_members inside, size_less (layer_at layers k) gone l taken small on)

walk_from : (flows : List Flow) (v : ℕ) (arcs : List ℕ) (w : ℕ) → ((k : ℕ) → k < length arcs → get_or arcs k 0 < arc_count flows) → ((k : ℕ) → suc k < length arcs → tail flows (get_or arcs (suc k) 0) ≡ head flows (get_or arcs k 0)) → (0 < length arcs → tail flows (get_or arcs 0 0) ≡ v)
    → ((k : ℕ) → k + 1 ≡ length arcs → head flows (get_or arcs k 0) ≡ w) → (length arcs ≡ 0 → v ≡ w) → IsWalk flows v arcs w
walk_from flows v [] w each joined start end none = none refl
walk_from flows v (a ∷ arcs) w each joined start end none = (
  start (omega arith),
  each 0 (omega arith),
  walk_from flows (head flows a) arcs w (λ k l. each (suc k) (omega (arith, l))) (λ k l. joined (suc k) (omega (arith, l))) (λ l. joined 0 (omega (arith, l))) (λ k e. end (suc k) (omega (arith, e))) (λ z. end 0 (omega (arith, z))),
)

-- down to the lowest level, and to one that has to receive, it is a path down
pub trail_path : {r : ResidualData} {p levels : List ℕ} {layers : List MemberSet} {path : List ℕ} {top here from : ℕ} (lack : List ℕ) → IsTrail r p levels layers path 0 top here from → top ≤ length path → get_or levels from 0 ≡ top → r.members ≡ length levels → 0 < get_or lack here 0 → IsPathDown r.flows p levels lack from here (take top path)
trail_path {r} {p} {levels} {layers} {path} {top} {here} {from} lack h room at_from one_each receives =
    let long : length (take top path) ≡ top = length-take-le top path room in
    let place : (k : ℕ) → k < top → k ≡ top - (top - (k + 1) + 1) = λ k l. omega (arith, l) in
    let at : (k : ℕ) (d : ℕ) → k < length (take top path) → get_or (take top path) k d ≡ arc_to path top (top - (k + 1)) =
    λ k d l. get_or_default (take top path) k d 0 l ∙ get_or-take top path k 0 (omega (arith, l, long)) ∙ ap (λ j. get_or path j 0) (place k (omega (arith, l, long))) in
    let rung : (k : ℕ) (d : ℕ) → k < length (take top path) → IsRung r.flows p levels (top - (k + 1)) (get_or (take top path) k d) =
    λ k d l. subst (IsRung r.flows p levels (top - (k + 1))) (sym (at k d l)) (h.rungs (top - (k + 1)) (omega arith) (omega (arith, l, long))) in
    let above : (k : ℕ) → suc k < top → top - (suc k + 1) + 1 ≡ top - (k + 1) = λ k l. omega (arith, l) in
    let lowest : (k : ℕ) → k + 1 ≡ top → top - (k + 1) ≡ 0 = λ k e. omega (arith, e) in
    record {
      walk = walk_from r.flows from (take top path) here (λ k l. (rung k 0 l).arc)
          (λ k l.
          ap (tail r.flows) (at (suc k) 0 l) ∙ sym (h.joined (top - (suc k + 1)) (omega arith) (omega (arith, l, long)))
          ∙ ap (λ j. head r.flows (arc_to path top j)) (above k (omega (arith, l, long))) ∙ sym (ap (head r.flows) (at k 0 (omega (arith, l)))))
          (λ l. ap (tail r.flows) (at 0 0 l) ∙ h.end (top - 1) (omega arith) (omega (arith, l, long)))
          (λ k e. ap (head r.flows) (at k 0 (omega (arith, e))) ∙ ap (λ j. head r.flows (arc_to path top j)) (lowest k (omega (arith, e, long))) ∙ h.start (omega (arith, e, long)))
          (λ z. sym (h.none (omega (arith, z, long))));
      arcs = λ k d l. (rung k d l).arc;
      open_arcs = λ k d l. (rung k d l).is_open;
      below = λ k d l. omega (arith, (rung k d l).starts, l, long, at_from);
      falling = λ i j d lt l. omega (arith, (rung i d (omega (arith, lt, l))).starts, (rung j d l).starts, lt, l, long);
      steps = λ k d l. omega (arith, (rung k d l).ends, (rung k d l).starts);
      long = omega (arith, long, h.level, at_from);
      receives = receives;
      member = omega (arith, h.member, one_each);
    }
