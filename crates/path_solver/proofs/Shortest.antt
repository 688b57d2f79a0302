-- Paths of open arcs have as many arcs as the levels tell, also after amounts move along such paths.
use Rattle.std.proofs.Common.{◌≡◌, ◌≢◌, ℕ, suc, ◌+◌, ◌<◌, ◌≤◌, List, [], ◌∷◌, length, get_or, sym, ap, ◌∙◌, subst, arith, inl, inr}
use Rattle.std.specs.Prelude.{All}
use Rattle.std.proofs.lemmas.Bool.{cases_eq, cases_lt}
use Rattle.residual_graph.specs.declared.flow.Flow.{Flow}
use Rattle.residual_graph.specs.Residual.{ResidualData}
use Rattle.residual_graph.specs.Arcs.{arc_count, pair, is_forward, room, room_in, head, tail, pushed}
use Rattle.residual_graph.proofs.Kept.{pair_below}
use Rattle.path_solver.specs.Prices.{IsTight, IsOpen}
use Rattle.path_solver.specs.Levels.{IsReached, AreFewest, AreMet, AreShortest}
use Rattle.residual_graph.specs.Paths.{IsWalk, pushed_all}
use Rattle.residual_graph.proofs.Walks.{CanPush, path_can}
use Rattle.path_solver.specs.Paths.{IsPathDown, NoneIsShorter}
use Rattle.path_solver.proofs.Ends.{same_pair}
use Rattle.path_solver.proofs.Same.{pushed_same, flow_at_other, same_ends}
use Rattle.path_solver.specs.Rests.{IsSentAlong}
use Rattle.path_solver.proofs.SentAlong.{path_of}

-- an arc from one level to the next below
pub record IsStep (flows : List Flow) (levels : List ℕ) (a : ℕ) : Type 0 where
  pub arc : a < arc_count flows
  pub starts : IsReached levels (tail flows a)
  pub ends : IsReached levels (head flows a)
  pub down : get_or levels (head flows a) 0 + 1 ≡ get_or levels (tail flows a) 0

-- an arc of another pair is as it was
pub open_other : (x : ℕ) (p : List ℕ) (flows : List Flow) (a b : ℕ) → pair b ≢ pair a → IsOpen (pushed x flows a) p b → IsOpen flows p b
open_other x p flows a b ne h =
    let at = flow_at_other x flows a (pair b) ne in
    (omega (arith, h.0, ap (λ f. room_in f (is_forward b)) at), subst (IsTight p) at h.1)

-- the two arcs of a step's pair lead from level to level
step_pair : (flows : List Flow) (levels : List ℕ) (a b : ℕ) → IsStep flows levels a → pair b ≡ pair a → IsReached levels (tail flows b) × (get_or levels (tail flows b) 0 ≤ get_or levels (head flows b) 0 + 1)
step_pair flows levels a b s e =
    elim (same_pair flows a b e) [
      | inl own ↦ (λ q. s.starts (ap (λ v. get_or levels v 0) (sym own.0) ∙ q), omega (arith, s.down, ap (λ v. get_or levels v 0) own.0, ap (λ v. get_or levels v 0) own.1))
      | inr twin ↦ (λ q. s.ends (ap (λ v. get_or levels v 0) (sym twin.0) ∙ q), omega (arith, s.down, ap (λ v. get_or levels v 0) twin.0, ap (λ v. get_or levels v 0) twin.1))
    ]

-- a push over a step opens no arc that leads more than a level down
pub fewest_pushed : (x : ℕ) (p levels : List ℕ) (last : ℕ) (flows : List Flow) (a : ℕ) → IsStep flows levels a → x ≤ room flows a → AreFewest flows p levels last → AreFewest (pushed x flows a) p levels last
fewest_pushed x p levels last flows a s roomy h = record {
  all = λ b l is_open is less.
      let old = inside b l in
      let ends = kept b old in
      elim (cases_eq (pair b) (pair a)) [
        | inl e ↦ λ q. (step_pair flows levels a b s e).0 (ap (λ v. get_or levels v 0) (sym ends.0) ∙ q)
        | inr ne ↦ λ q. h.all b old (open_other x p flows a b ne is_open) (λ z. is (ap (λ v. get_or levels v 0) ends.1 ∙ z)) (omega (arith, less, ap (λ v. get_or levels v 0) ends.1)) (ap (λ v. get_or levels v 0) (sym ends.0) ∙ q)
      ];
  steps = λ b l is_open is_head is_tail.
      let old = inside b l in
      let ends = kept b old in
      let at_t = ap (λ v. get_or levels v 0) ends.0 in
      let at_h = ap (λ v. get_or levels v 0) ends.1 in
      elim (cases_eq (pair b) (pair a)) [
        | inl e ↦ omega (arith, at_t, at_h, (step_pair flows levels a b s e).1)
        | inr ne ↦ omega (arith, at_t, at_h, h.steps b old (open_other x p flows a b ne is_open) (λ z. is_head (at_h ∙ z)) (λ z. is_tail (at_t ∙ z)))
      ];
}
  where
    in_pairs : pair a < length flows
    in_pairs = pair_below a (length flows) s.arc

    inside : (b : ℕ) → b < arc_count (pushed x flows a) → b < arc_count flows
    inside b l = omega (arith, l, (pushed_same x flows a in_pairs roomy).same_length)

    kept : (b : ℕ) → b < arc_count flows → (tail (pushed x flows a) b ≡ tail flows b) × (head (pushed x flows a) b ≡ head flows b)
    kept b l = same_ends flows (pushed x flows a) (pushed_same x flows a in_pairs roomy) b l

-- nor one behind which somebody is not reached who has to send
met_pushed : (x : ℕ) (p surplus levels : List ℕ) (last : ℕ) (flows : List Flow) (a : ℕ) → IsStep flows levels a → x ≤ room flows a → AreMet flows p surplus levels last → AreMet (pushed x flows a) p surplus levels last
met_pushed x p surplus levels last flows a s roomy h b l is_open is at sends =
    let same = pushed_same x flows a (pair_below a (length flows) s.arc) roomy in
    let old : b < arc_count flows = omega (arith, l, same.same_length) in
    let ends = same_ends flows (pushed x flows a) same b old in
    let at_h = ap (λ v. get_or levels v 0) ends.1 in
    elim (cases_eq (pair b) (pair a)) [
      | inl e ↦ λ q. (step_pair flows levels a b s e).0 (ap (λ v. get_or levels v 0) (sym ends.0) ∙ q)
      | inr ne ↦ λ q. h b old (open_other x p flows a b ne is_open) (λ z. is (at_h ∙ z)) (omega (arith, at, at_h)) (subst (λ v. 0 < get_or surplus v 0) ends.0 sends) (ap (λ v. get_or levels v 0) (sym ends.0) ∙ q)
    ]

pub step_kept : (x : ℕ) (levels : List ℕ) (flows : List Flow) (a b : ℕ) → a < arc_count flows → x ≤ room flows a → IsStep flows levels b → IsStep (pushed x flows a) levels b
step_kept x levels flows a b l roomy s =
    let same = pushed_same x flows a (pair_below a (length flows) l) roomy in
    let ends = same_ends flows (pushed x flows a) same b s.arc in
    let at_t = ap (λ v. get_or levels v 0) ends.0 in
    let at_h = ap (λ v. get_or levels v 0) ends.1 in
    record {
      arc = omega (arith, s.arc, same.same_length);
      starts = λ q. s.starts (sym at_t ∙ q);
      ends = λ q. s.ends (sym at_h ∙ q);
      down = omega (arith, at_t, at_h, s.down);
    }

-- nor does a path of such arcs
pub fewest_walk : (x : ℕ) (p levels : List ℕ) (last : ℕ) (flows : List Flow) (arcs : List ℕ) → CanPush x flows arcs → All (IsStep flows levels) arcs → AreFewest flows p levels last → AreFewest (pushed_all x flows arcs) p levels last
fewest_walk x p levels last flows [] can steps h = h
fewest_walk x p levels last flows (a ∷ arcs) can steps h =
    fewest_walk x p levels last (pushed x flows a) arcs can.2
    (λ k d l. step_kept x levels flows a (get_or arcs k d) can.0 can.1 (steps (suc k) d (omega arith)))
    (fewest_pushed x p levels last flows a (steps 0 a (omega arith)) can.1 h)

met_walk : (x : ℕ) (p surplus levels : List ℕ) (last : ℕ) (flows : List Flow) (arcs : List ℕ) → CanPush x flows arcs → All (IsStep flows levels) arcs → AreMet flows p surplus levels last → AreMet (pushed_all x flows arcs) p surplus levels last
met_walk x p surplus levels last flows [] can steps h = h
met_walk x p surplus levels last flows (a ∷ arcs) can steps h =
    met_walk x p surplus levels last (pushed x flows a) arcs can.2
    (λ k d l. step_kept x levels flows a (get_or arcs k d) can.0 can.1 (steps (suc k) d (omega arith)))
    (met_pushed x p surplus levels last flows a (steps 0 a (omega arith)) can.1 h)

-- a path down is of steps
pub path_steps : {flows : List Flow} {p levels lack : List ℕ} {from end : ℕ} {path : List ℕ} → IsPathDown flows p levels lack from end path → get_or levels from 0 < 65535 → All (IsStep flows levels) path
path_steps {flows} {p} {levels} {lack} {from} {end} {path} h low k d l =
    let below = h.below k d l in
    let down = h.steps k d l in
    record {
      arc = h.arcs k d l;
      starts = λ q. omega (arith, q, below, low);
      ends = λ q. omega (arith, q, below, low, down);
      down = down;
    }

-- along open arcs to a level, each arc goes down by one at the most
pub walk_level : (p levels : List ℕ) (last : ℕ) (flows : List Flow) → AreFewest flows p levels last → (v : ℕ) (arcs : List ℕ) (w k : ℕ) → IsReached levels w → get_or levels w 0 ≤ k → k + length arcs < last → IsWalk flows v arcs w → All (IsOpen flows p) arcs → IsReached levels v × (get_or levels v 0 ≤ k + length arcs)
walk_level p levels last flows h v [] w k is le less walk opens =
    let at = ap (λ u. get_or levels u 0) walk in
    (λ q. is (sym at ∙ q), omega (arith, at, le))
walk_level p levels last flows h v (a ∷ arcs) w k is le less walk opens =
    let at = ap (λ u. get_or levels u 0) walk.0 in
    let here = opens 0 a (omega arith) in
    let more = walk_level p levels last flows h (head flows a) arcs w k is le (omega (arith, less)) walk.2 (λ j d l. opens (suc j) d (omega arith)) in
    let reached : IsReached levels (tail flows a) = h.all a walk.1 here more.0 (omega (arith, more.1, less)) in
    let up = h.steps a walk.1 here more.0 reached in
    (λ q. reached (at ∙ q), omega (arith, up, at, more.1))

pub none_is_shorter : {flows : List Flow} {p surplus lack levels : List ℕ} {last : ℕ} → AreShortest flows p surplus lack levels last → NoneIsShorter flows p surplus lack last
none_is_shorter {flows} {p} {surplus} {lack} {levels} {last} h v w arcs sends receives walk opens =
    elim (cases_lt (length arcs) last) [
      | inr enough ↦ enough
      | inl less ↦
          let zero = h.receivers w receives (omega arith) in
          let up = walk_level p levels last flows h.fewest v arcs w 0 (λ q. omega (arith, q, zero)) (omega (arith, zero)) (omega (arith, less)) walk opens in
          absurd (omega (arith, less, up.1, h.senders v sends up.0))
    ]

-- after an amount went along a path down, none is shorter either
pub shortest_sent : {p levels : List ℕ} {last : ℕ} {surplus lack surplus' lack' : List ℕ} {from end : ℕ} {path : List ℕ} (x : ℕ) (old new : ResidualData) → IsPathDown old.flows p levels lack from end path → All (λ a. x ≤ room old.flows a) path → get_or levels from 0 ≡ last → new.flows ≡ pushed_all x old.flows path → IsSentAlong p old new surplus lack surplus' lack' → AreShortest old.flows p surplus lack levels last → AreShortest new.flows p surplus' lack' levels last
shortest_sent {p} {levels} {last} {surplus} {lack} {surplus'} {lack'} {from} {end} {path} x old new h roomy at_from flows sent s =
    let can = path_can x old.flows path (path_of x h roomy) in
    record {
      fewest = subst (λ (fs : List Flow). AreFewest fs p levels last) (sym flows) (fewest_walk x p levels last old.flows path can (path_steps h (omega (arith, at_from, s.low))) s.fewest);
      met = λ b l is_open is at sends.
          subst (λ (fs : List Flow). AreMet fs p surplus levels last) (sym flows)
          (met_walk x p surplus levels last old.flows path can (path_steps h (omega (arith, at_from, s.low))) s.met) b l is_open is at (sent.senders (tail new.flows b) sends);
      senders = λ v sends. s.senders v (sent.senders v sends);
      receivers = λ v receives. s.receivers v (sent.receivers v receives);
      low = s.low;
    }
