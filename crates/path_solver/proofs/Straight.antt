-- Sending over one pair.
use Rattle.std.proofs.Common.{◌≡◌, ℕ, zero, suc, ◌+◌, ◌-◌, ◌*◌, ◌<◌, ◌≤◌, true, List, [], ◌∷◌, length, get_or, set, refl, sym, ap, ◌∙◌, subst, arith}
use Rattle.std.specs.Prelude.{All}
use Rattle.residual_graph.specs.Residual.{ResidualData}
use Rattle.residual_graph.specs.Arcs.{arc_count, flow_at, head, tail, room, pushed}
use Rattle.residual_graph.specs.declared.flow.Flow.{Flow}
use Rattle.residual_graph.specs.Paths.{IsPath}
use Rattle.path_solver.specs.Paths.{IsPathDown}
use Rattle.path_solver.specs.Prices.{IsTight, IsOpen}
use Rattle.path_solver.specs.Rests.{IsSentAlong}
use Rattle.path_solver.proofs.SentAlong.{sent}
use Rattle.path_solver.proofs.Phased.{forward_of, arc_is}

all_one : (P : ℕ → Type 0) (a : ℕ) → P a → All P (a ∷ [])
all_one P a h zero d l = h
all_one P a h (suc k) d l = absurd (omega arith)

-- an arc alone is a path
pub path_one : (x : ℕ) (flows : List Flow) (a : ℕ) → a < arc_count flows → x ≤ room flows a → IsPath x flows (a ∷ [])
path_one x flows a l roomy = record {
  from = tail flows a;
  to = head flows a;
  walk = (refl, l, refl);
  once = λ i j d lt lj. absurd (omega (arith, lt, lj));
  roomy = all_one (λ b. x ≤ room flows b) a roomy;
}

-- prices are levels of the ends of a tight pair, so its arc is a path down
pub sent_straight : (p : List ℕ) (old new : ResidualData) (surplus lack : List ℕ) (k s b x : ℕ) → k < length old.flows → (flow_at old.flows k).seller ≡ s → (flow_at old.flows k).buyer ≡ b → x ≤ (flow_at old.flows k).room → 0 < x → get_or p s 0 ≡ get_or p b 0 + 1 → s < length surplus → b < length lack → b < length p → x ≤ get_or surplus s 0 → x ≤ get_or lack b 0 → new.members ≡ old.members → new.flows ≡ pushed x old.flows (2 * k) → IsSentAlong p old new surplus lack (set surplus s (get_or surplus s 0 - x)) (set lack b (get_or lack b 0 - x))
sent_straight p old new surplus lack k s b x in_k at_s at_b roomy some tight in_s in_b in_p le_s le_b members flows =
    let there = forward_of k in
    let arc = arc_is old.flows (2 * k) k true there.0 there.1 in
    let at_head = arc.1 ∙ at_b in
    let at_tail = arc.2 ∙ at_s in
    let own : IsTight p (flow_at old.flows k) = ap (λ v. get_or p v 0) at_s ∙ tight ∙ ap (λ v. get_or p v 0 + 1) (sym at_b) in
    let open_arc : IsOpen old.flows p (2 * k) = (omega (arith, arc.0, roomy, some), subst (λ j. IsTight p (flow_at old.flows j)) (sym there.0) own) in
    let level_head = ap (λ v. get_or p v 0) at_head in
    let level_tail = ap (λ v. get_or p v 0) at_tail in
    let path : IsPathDown old.flows p p lack s b (2 * k ∷ []) = record {
      walk = (at_tail, omega (arith, in_k), at_head);
      arcs = all_one (λ a. a < arc_count old.flows) (2 * k) (omega (arith, in_k));
      open_arcs = all_one (IsOpen old.flows p) (2 * k) open_arc;
      below = all_one (λ a. get_or p (tail old.flows a) 0 ≤ get_or p s 0) (2 * k) (omega (arith, level_tail));
      falling = λ i j d lt l. absurd (omega (arith, lt, l));
      steps = all_one (λ a. get_or p (head old.flows a) 0 + 1 ≡ get_or p (tail old.flows a) 0) (2 * k) (omega (arith, level_head, level_tail, tight));
      long = omega (arith, tight);
      receives = omega (arith, some, le_b);
      member = in_p;
    } in
    sent old new surplus x path
    (all_one (λ a. x ≤ room old.flows a) (2 * k) (omega (arith, arc.0, roomy)))
    in_s in_b le_s le_b members flows
