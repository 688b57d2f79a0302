-- Moving an amount along a path.
use Rattle.std.proofs.Common.{◌≡◌, ◌≢◌, ℕ, zero, suc, ◌<◌, ◌≤◌, Bool, true, false, List, [], ◌∷◌, length, get_or, pos, ◌+ℤ◌, refl, sym, ap, ◌∙◌, subst, arith, ⊎_elim, length-set, get_or-set_same, get_or-set_other}
use Rattle.std.specs.Prelude.{All, AllPairs}
use Rattle.std.proofs.lemmas.Bool.{cases_eq}
use Rattle.std.proofs.lemmas.Int.{ints}
use Rattle.network_laws.specs.Networks.{net}
use Rattle.residual_graph.specs.declared.flow.Flow.{Flow}
use Rattle.residual_graph.specs.Residual.{IsResidual}
use Rattle.residual_graph.specs.Built.{flow_network}
use Rattle.residual_graph.specs.Arcs.{arc_count, pair, is_forward, no_flow, flow_at, room, head, head_in, tail, tail_in, moved, pushed}
use Rattle.residual_graph.specs.Paths.{IsWalk, IsPath, pushed_all}
use Rattle.residual_graph.proofs.Kept.{pair_below, pushed_kept}
use Rattle.residual_graph.proofs.PushSteps.{share, net_pushed, room_kept}

-- each arc has room when its turn comes
abbrev pub CanPush : ℕ → List Flow → List ℕ → Type 0
CanPush x flows [] = Unit {0}
CanPush x flows (a ∷ arcs) = (a < arc_count flows) × (x ≤ room flows a) × CanPush x (pushed x flows a) arcs

pub count_kept : (x : ℕ) (flows : List Flow) (a : ℕ) → arc_count (pushed x flows a) ≡ arc_count flows
count_kept x flows a = omega (arith, length-set flows (pair a) (moved x (is_forward a) (flow_at flows (pair a))))

-- different arcs that all have room can all be pushed
pub can_push : (x : ℕ) (flows : List Flow) (arcs : List ℕ) → All (λ a. a < arc_count flows) arcs → All (λ a. x ≤ room flows a) arcs → AllPairs (λ a b. a ≢ b) arcs → CanPush x flows arcs
can_push x flows [] each roomy different = tt
can_push x flows (a ∷ arcs) each roomy different =
    let first = each 0 a (omega arith) in (
      first,
      roomy 0 a (omega arith),
      can_push x (pushed x flows a) arcs (λ k d l. omega (arith, each (suc k) d (omega arith), count_kept x flows a))
          (λ k d l. room_kept x flows a (get_or arcs k d) (different 0 (suc k) d (omega arith) (omega arith)) (pair_below a (length flows) first) (roomy (suc k) d (omega arith)))
          (λ i j d lt l. different (suc i) (suc j) d (omega arith) (omega arith)),
    )

pub walk_arcs : (flows : List Flow) (v : ℕ) (arcs : List ℕ) (w : ℕ) → IsWalk flows v arcs w → All (λ a. a < arc_count flows) arcs
walk_arcs flows v [] w h k d l = absurd (omega arith)
walk_arcs flows v (a ∷ arcs) w h zero d l = h.1
walk_arcs flows v (a ∷ arcs) w h (suc k) d l = walk_arcs flows (head flows a) arcs w h.2 k d (omega arith)

pub path_can : (x : ℕ) (flows : List Flow) (path : List ℕ) → IsPath x flows path → CanPush x flows path
path_can x flows path h = can_push x flows path (walk_arcs flows h.from path h.to h.walk) h.roomy (λ i j d lt l e. h.once i j d lt l (ap (tail flows) e))

pub all_pushed_kept : (x n : ℕ) (flows : List Flow) (arcs : List ℕ) → CanPush x flows arcs → IsResidual (record { members = n; flows = flows }) → IsResidual (record { members = n; flows = pushed_all x flows arcs })
all_pushed_kept x n flows [] can h = h
all_pushed_kept x n flows (a ∷ arcs) can h = all_pushed_kept x n (pushed x flows a) arcs can.2 (pushed_kept x n flows a can.0 can.1 h)

moved_ends : (x : ℕ) (f : Flow) (p q : Bool) → (head_in (moved x p f) q ≡ head_in f q) × (tail_in (moved x p f) q ≡ tail_in f q)
moved_ends x f true true = (refl, refl)
moved_ends x f true false = (refl, refl)
moved_ends x f false true = (refl, refl)
moved_ends x f false false = (refl, refl)

pub ends_kept : (x : ℕ) (flows : List Flow) (a b : ℕ) → a < arc_count flows → (head (pushed x flows a) b ≡ head flows b) × (tail (pushed x flows a) b ≡ tail flows b)
ends_kept x flows a b l =
    ⊎_elim (λ (e : pair b ≡ pair a).
    let at_b : flow_at (pushed x flows a) (pair b) ≡ moved x (is_forward a) (flow_at flows (pair b)) = rw e (get_or-set_same flows (pair a) (moved x (is_forward a) (flow_at flows (pair a))) no_flow (pair_below a (length flows) l)) in
    let s = moved_ends x (flow_at flows (pair b)) (is_forward a) (is_forward b) in
    (ap (λ f. head_in f (is_forward b)) at_b ∙ s.0, ap (λ f. tail_in f (is_forward b)) at_b ∙ s.1))
    (λ (ne : pair b ≢ pair a).
    let at_b = get_or-set_other flows (pair a) (pair b) (moved x (is_forward a) (flow_at flows (pair a))) no_flow ne in
    (ap (λ f. head_in f (is_forward b)) at_b, ap (λ f. tail_in f (is_forward b)) at_b))
    (cases_eq (pair b) (pair a))

pub walk_kept : (x : ℕ) (flows : List Flow) (a : ℕ) → a < arc_count flows → (v : ℕ) (arcs : List ℕ) (w : ℕ) → IsWalk flows v arcs w → IsWalk (pushed x flows a) v arcs w
walk_kept x flows a l v [] w h = h
walk_kept x flows a l v (b ∷ arcs) w h =
    let e = ends_kept x flows a b l in
    (e.1 ∙ h.0, omega (arith, h.1, count_kept x flows a), subst (λ t. IsWalk (pushed x flows a) t arcs w) (sym e.0) (walk_kept x flows a l (head flows b) arcs w h.2))

-- the net of the walk's first member rises, and that of its last falls
pub nets_walk : (n x i : ℕ) (flows : List Flow) (v : ℕ) (arcs : List ℕ) (w : ℕ) → IsWalk flows v arcs w → CanPush x flows arcs → net (flow_network n (pushed_all x flows arcs)) i +ℤ pos (share x i w) ≡ net (flow_network n flows) i +ℤ pos (share x i v)
nets_walk n x i flows v [] w h can = ap (λ t. net (flow_network n flows) i +ℤ pos (share x i t)) (sym h)
nets_walk n x i flows v (a ∷ arcs) w h can =
    let here = net_pushed n x i flows a (pair_below a (length flows) can.0) can.1 in
    let more = nets_walk n x i (pushed x flows a) (head flows a) arcs w (walk_kept x flows a can.0 (head flows a) arcs w h.2) can.2 in
    let at_v = ap (λ t. pos (share x i t)) h.0 in
    omega (arith, ints, here, more, at_v)
