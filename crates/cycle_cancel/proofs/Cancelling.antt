-- Moving an amount round a cycle keeps the nets, and lowers the gross where the cycle gains.
use Rattle.std.proofs.Common.{◌≡◌, ◌≢◌, ℕ, zero, suc, ◌<◌, ◌≤◌, Bool, true, false, List, [], ◌∷◌, length, get_or, ℤ, pos, negsuc, ◌+ℤ◌, ◌*ℤ◌, ◌<ℤ◌, sym, ap, ◌∙◌, subst, arith, ⊎_elim, length-set, get_or-set_same, get_or-set_other}
use Rattle.std.specs.Prelude.{All}
use Rattle.std.proofs.lemmas.Bool.{cases_eq}
use Rattle.std.proofs.lemmas.Int.{ints}
use Rattle.network_laws.specs.Networks.{net, gross}
use Rattle.network_laws.proofs.Ring.{add_mul}
use Rattle.residual_graph.specs.declared.flow.Flow.{Flow}
use Rattle.network_laws.specs.declared.rows.LimitRow.{LimitRow}
use Rattle.residual_graph.specs.Built.{flow_network, IsFlowOf, AreFlowsOf}
use Rattle.residual_graph.specs.Arcs.{arc_count, pair, is_forward, no_flow, flow_at, room, room_in, head, cost, moved, pushed}
use Rattle.residual_graph.specs.Paths.{IsWalk, IsPath, pushed_all}
use Rattle.cycle_cancel.specs.Traces.{costs, IsGain}
use Rattle.cycle_cancel.specs.Cancels.{IsCancelled}
use Rattle.residual_graph.proofs.Kept.{pair_below}
use Rattle.residual_graph.proofs.PushSteps.{gross_pushed}
use Rattle.residual_graph.proofs.Walks.{CanPush, path_can, walk_kept, nets_walk}

pub gross_walk : (n x : ℕ) (flows : List Flow) (v : ℕ) (arcs : List ℕ) (w : ℕ) → IsWalk flows v arcs w → CanPush x flows arcs → pos (gross (flow_network n (pushed_all x flows arcs))) ≡ pos (gross (flow_network n flows)) +ℤ (costs arcs *ℤ pos x)
gross_walk n x flows v [] w h can = omega (arith, ints)
gross_walk n x flows v (a ∷ arcs) w h can =
    let here = gross_pushed n x flows a (pair_below a (length flows) can.0) can.1 in
    let more = gross_walk n x (pushed x flows a) (head flows a) arcs w (walk_kept x flows a can.0 (head flows a) arcs w h.2) can.2 in
    omega (arith, ints, here, more, add_mul (cost a) (costs arcs) (pos x))

gain : (c : ℤ) (x : ℕ) → c <ℤ pos 0 → 0 < x → (c *ℤ pos x) <ℤ pos 0
gain (pos c) x h lx = absurd (omega (arith, ints, h))
gain (negsuc c) (suc x) h lx = omega (arith, ints)
gain (negsuc c) zero h lx = absurd (omega arith)

-- a cycle that gains
pub cycle_lowers : (n x : ℕ) (flows : List Flow) (v : ℕ) (arcs : List ℕ) → IsWalk flows v arcs v → CanPush x flows arcs → costs arcs <ℤ pos 0 → 0 < x → gross (flow_network n (pushed_all x flows arcs)) < gross (flow_network n flows)
cycle_lowers n x flows v arcs h can c lx = omega (arith, ints, gross_walk n x flows v arcs v h can, gain (costs arcs) x c lx)

pub cycle_keeps_nets : (n x i : ℕ) (flows : List Flow) (v : ℕ) (arcs : List ℕ) → IsWalk flows v arcs v → CanPush x flows arcs → net (flow_network n (pushed_all x flows arcs)) i ≡ net (flow_network n flows) i
cycle_keeps_nets n x i flows v arcs h can = omega (arith, ints, nets_walk n x i flows v arcs v h can)

moved_kept : (x cap : ℕ) (l : LimitRow) (f : Flow) (p : Bool) → x ≤ room_in f p → IsFlowOf cap l f → IsFlowOf cap l (moved x p f)
moved_kept x cap l f true h is = record { seller = is.seller; buyer = is.buyer; lower = is.lower; most = omega (arith, is.most) }
moved_kept x cap l f false h is = record { seller = is.seller; buyer = is.buyer; lower = is.lower; most = omega (arith, is.most) }

-- a push keeps the pairs those of the limits
pub are_kept : (x cap : ℕ) (limits : List LimitRow) (flows : List Flow) (a : ℕ) → a < arc_count flows → x ≤ room flows a → AreFlowsOf cap limits flows → AreFlowsOf cap limits (pushed x flows a)
are_kept x cap limits flows a l h are = record {
  same_length = length-set flows (pair a) (moved x (is_forward a) (flow_at flows (pair a))) ∙ are.same_length;
  each = λ k row f lk.
      ⊎_elim (λ (e : k ≡ pair a).
      subst (λ g. IsFlowOf cap (get_or limits k row) g) (sym (ap (λ j. get_or (pushed x flows a) j f) e ∙ get_or-set_same flows (pair a) (moved x (is_forward a) (flow_at flows (pair a))) f (pair_below a (length flows) l)))
      (moved_kept x cap (get_or limits k row) (flow_at flows (pair a)) (is_forward a) h (subst (λ j. IsFlowOf cap (get_or limits k row) (flow_at flows j)) e (are.each k row no_flow lk))))
      (λ (ne : k ≢ pair a). subst (λ g. IsFlowOf cap (get_or limits k row) g) (sym (get_or-set_other flows (pair a) k (moved x (is_forward a) (flow_at flows (pair a))) f ne)) (are.each k row f lk))
      (cases_eq k (pair a));
}

pub all_kept : (x cap : ℕ) (limits : List LimitRow) (flows : List Flow) (arcs : List ℕ) → CanPush x flows arcs → AreFlowsOf cap limits flows → AreFlowsOf cap limits (pushed_all x flows arcs)
all_kept x cap limits flows [] can are = are
all_kept x cap limits flows (a ∷ arcs) can are = all_kept x cap limits (pushed x flows a) arcs can.2 (are_kept x cap limits flows a can.0 can.1 are)

pub path_of : (x : ℕ) (flows : List Flow) (arcs : List ℕ) → IsGain flows arcs → All (λ a. x ≤ room flows a) arcs → IsPath x flows arcs
path_of x flows arcs g roomy = record { from = g.at_member; to = g.at_member; walk = g.closed; once = g.once; roomy = roomy }

pub cancelled : (x : ℕ) (flows : List Flow) (arcs : List ℕ) → IsGain flows arcs → 0 < x → All (λ a. x ≤ room flows a) arcs → IsCancelled flows (pushed_all x flows arcs)
cancelled x flows arcs g lx roomy =
    let can = path_can x flows arcs (path_of x flows arcs g roomy) in
    record {
      gross = λ n. cycle_lowers n x flows g.at_member arcs g.closed can g.gains lx;
      nets = λ n i. cycle_keeps_nets n x i flows g.at_member arcs g.closed can;
      limits = λ cap limits are. all_kept x cap limits flows arcs can are;
    }
