-- Moving an amount along a path.
use Rattle.std.proofs.Common.{◌≡◌, ◌≢◌, ℕ, zero, suc, ◌<◌, ◌≤◌, List, [], ◌∷◌, length, get_or, take, refl, sym, ◌∙◌, arith}
use Rattle.std.specs.Prelude.{All, AllPairs}
use Rattle.residual_graph.specs.declared.flow.Flow.{Flow}
use Rattle.residual_graph.specs.Arcs.{arc_count, pair, flow_at, room, pushed}
use Rattle.residual_graph.specs.Paths.{pushed_all}
use Rattle.residual_graph.proofs.Kept.{pair_below}
use Rattle.residual_graph.proofs.Walks.{CanPush, count_kept}
use Rattle.path_solver.specs.Prices.{IsTight, ArePrices}
use Rattle.path_solver.specs.Rests.{AreSamePairs}
use Rattle.path_solver.proofs.Same.{same_refl, same_trans, pushed_same, same_tight, pushed_priced, flow_at_other}

pub all_same : (x : ℕ) (flows : List Flow) (arcs : List ℕ) → CanPush x flows arcs → AreSamePairs flows (pushed_all x flows arcs)
all_same x flows [] can = same_refl flows
all_same x flows (a ∷ arcs) can =
    same_trans flows (pushed x flows a) (pushed_all x (pushed x flows a) arcs) (pushed_same x flows a (pair_below a (length flows) can.0) can.1) (all_same x (pushed x flows a) arcs can.2)

-- amounts along tight arcs keep the prices
pub prices_walk : (x : ℕ) (p : List ℕ) (flows : List Flow) (arcs : List ℕ) → CanPush x flows arcs → All (λ a. (a < arc_count flows) × IsTight p (flow_at flows (pair a))) arcs → ArePrices flows p → ArePrices (pushed_all x flows arcs) p
prices_walk x p flows [] can tight h = h
prices_walk x p flows (a ∷ arcs) can tight h =
    let inside = pair_below a (length flows) can.0 in
    let here = tight 0 a (omega arith) in
    let same = pushed_same x flows a inside can.1 in
    prices_walk x p (pushed x flows a) arcs can.2
    (λ k d l. let t = tight (suc k) d (omega arith) in
    (omega (arith, t.0, count_kept x flows a), same_tight p (flow_at flows (pair (get_or arcs k d))) (flow_at (pushed x flows a) (pair (get_or arcs k d))) (same.each (pair (get_or arcs k d)) (pair_below (get_or arcs k d) (length flows) t.0)) t.1))
    (pushed_priced x p flows a inside here.1 h)

-- an arc has room when its turn comes
pub can_at : (x : ℕ) (flows : List Flow) (arcs : List ℕ) (m : ℕ) → CanPush x flows arcs → m < length arcs → (get_or arcs m 0 < arc_count (pushed_all x flows (take m arcs))) × (x ≤ room (pushed_all x flows (take m arcs)) (get_or arcs m 0))
can_at x flows [] m can l = absurd (omega arith)
can_at x flows (a ∷ arcs) zero can l = (can.0, can.1)
can_at x flows (a ∷ arcs) (suc m) can l = can_at x (pushed x flows a) arcs m can.2 (omega arith)

pub can_take : (x : ℕ) (flows : List Flow) (arcs : List ℕ) (m : ℕ) → CanPush x flows arcs → CanPush x flows (take m arcs)
can_take x flows [] zero can = tt
can_take x flows [] (suc m) can = tt
can_take x flows (a ∷ arcs) zero can = tt
can_take x flows (a ∷ arcs) (suc m) can = (can.0, can.1, can_take x (pushed x flows a) arcs m can.2)

-- a pair that no arc is of is as it was
flow_later : (x : ℕ) (flows : List Flow) (arcs : List ℕ) (k : ℕ) → All (λ a. k ≢ pair a) arcs → flow_at (pushed_all x flows arcs) k ≡ flow_at flows k
flow_later x flows [] k other = refl
flow_later x flows (a ∷ arcs) k other = flow_later x (pushed x flows a) arcs k (λ j d l. other (suc j) d (omega arith)) ∙ flow_at_other x flows a k (other 0 a (omega arith))

-- the pair of an arc is in the end as it is behind that arc
pub flow_after : (x : ℕ) (flows : List Flow) (arcs : List ℕ) (m : ℕ) → AllPairs (λ a b. pair a ≢ pair b) arcs → m < length arcs → flow_at (pushed_all x flows arcs) (pair (get_or arcs m 0)) ≡ flow_at (pushed_all x flows (take (suc m) arcs)) (pair (get_or arcs m 0))
flow_after x flows [] m different l = absurd (omega arith)
flow_after x flows (a ∷ arcs) zero different l = flow_later x (pushed x flows a) arcs (pair a) (λ j d lj. different 0 (suc j) d (omega arith) (omega arith))
flow_after x flows (a ∷ arcs) (suc m) different l = flow_after x (pushed x flows a) arcs m (λ i j d lt lj. different (suc i) (suc j) d (omega arith) (omega arith)) (omega arith)

-- and as it was at first before it
pub flow_before : (x : ℕ) (flows : List Flow) (arcs : List ℕ) (m : ℕ) → AllPairs (λ a b. pair a ≢ pair b) arcs → m < length arcs → flow_at (pushed_all x flows (take m arcs)) (pair (get_or arcs m 0)) ≡ flow_at flows (pair (get_or arcs m 0))
flow_before x flows [] m different l = absurd (omega arith)
flow_before x flows (a ∷ arcs) zero different l = refl
flow_before x flows (a ∷ arcs) (suc m) different l =
    flow_before x (pushed x flows a) arcs m (λ i j d lt lj. different (suc i) (suc j) d (omega arith) (omega arith)) (omega arith)
    ∙ flow_at_other x flows a (pair (get_or arcs m 0)) (λ e. different 0 (suc m) 0 (omega arith) (omega arith) (sym e))
