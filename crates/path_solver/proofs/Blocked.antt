-- After a round each path of open arcs from one that has to send to one that has to receive has an arc more.
use Rattle.std.proofs.Common.{◌≡◌, ℕ, zero, suc, ◌+◌, ◌<◌, ◌≤◌, true, false, List, [], ◌∷◌, length, get_or, refl, sym, ap, ◌∙◌, subst, inl, inr, arith}
use Rattle.std.specs.Prelude.{All}
use Rattle.std.proofs.lemmas.Bool.{cases_eq, cases_lt, false_from_ne_true}
use Rattle.member_set.specs.declared.set.MemberSet.{MemberSet}
use Rattle.member_set.specs.Members.{has}
use Rattle.residual_graph.specs.declared.flow.Flow.{Flow}
use Rattle.residual_graph.specs.Residual.{ResidualData, IsResidual}
use Rattle.residual_graph.specs.Arcs.{head, tail}
use Rattle.residual_graph.specs.Paths.{IsWalk}
use Rattle.path_solver.specs.Prices.{IsOpen}
use Rattle.path_solver.specs.Rests.{AreApart}
use Rattle.path_solver.specs.Levels.{IsReached, AreFewest, AreShortest, AreLevels, layer_at}
use Rattle.path_solver.specs.Paths.{NoneIsShorter}
use Rattle.path_solver.specs.Pruned.{ArePruned}
use Rattle.path_solver.proofs.Ends.{ends_in}
use Rattle.path_solver.proofs.Measured.{IsDown}
use Rattle.path_solver.proofs.Shortest.{walk_level, none_is_shorter}

-- no path down leads from who is out of its layer to one that has to receive
blocked : (flows : List Flow) (p lack levels : List ℕ) (layers : List MemberSet) (n : ℕ) → ArePruned flows p lack levels layers n → (v : ℕ) (arcs : List ℕ) (w k : ℕ) → IsWalk flows v arcs w → All (IsOpen flows p) arcs → All (IsDown levels flows) arcs → k < n → get_or levels v 0 ≡ k → has (layer_at layers k) v ≡ false → get_or levels w 0 ≡ 0 → w < length levels → 0 < get_or lack w 0 → ⊥
blocked flows p lack levels layers n h v [] w k walk opens down lt at off lowest inside receives =
    let zero_k : k ≡ 0 = omega (arith, sym at ∙ ap (λ u. get_or levels u 0) walk ∙ lowest) in
    let off_w : has (layer_at layers 0) w ≡ false = subst (λ u. has (layer_at layers 0) u ≡ false) walk (subst (λ j. has (layer_at layers j) v ≡ false) zero_k off) in
    omega (arith, receives, h.lowest w (omega (arith, lt)) inside lowest off_w)
blocked flows p lack levels layers n h v (a ∷ arcs) w zero walk opens down lt at off lowest inside receives =
    omega (arith, down 0 a (omega arith), ap (λ u. get_or levels u 0) walk.0, at)
blocked flows p lack levels layers n h v (a ∷ arcs) w (suc k) walk opens down lt at off lowest inside receives =
    let at_tail = ap (λ u. get_or levels u 0) walk.0 in
    let at_head : get_or levels (head flows a) 0 ≡ k = omega (arith, down 0 a (omega arith), at_tail, at) in
    let up : suc k ≡ k + 1 = omega arith in
    let off_tail : has (layer_at layers (k + 1)) (tail flows a) ≡ false = subst (λ j. has (layer_at layers j) (tail flows a) ≡ false) up (ap (has (layer_at layers (suc k))) walk.0 ∙ off) in
    let off_head = h.others k a (omega (arith, lt)) walk.1 (opens 0 a (omega arith)) (omega (arith, at_tail, at)) off_tail in
    blocked flows p lack levels layers n h (head flows a) arcs w k walk.2 (λ j d l. opens (suc j) d (omega arith)) (λ j d l. down (suc j) d (omega arith)) (omega (arith, lt)) at_head off_head lowest inside receives

-- a path with as few arcs as levels goes down one with each arc
descends : (p levels : List ℕ) (last : ℕ) (flows : List Flow) → AreFewest flows p levels last → (v : ℕ) (arcs : List ℕ) (w : ℕ) → IsReached levels w → get_or levels w 0 ≡ 0 → length arcs ≤ last → IsWalk flows v arcs w → All (IsOpen flows p) arcs → IsReached levels v → length arcs ≤ get_or levels v 0 → All (IsDown levels flows) arcs
descends p levels last flows h v [] w reached_w lowest short walk opens reached_v high k d l = absurd (omega (arith, l))
descends p levels last flows h v (a ∷ arcs) w reached_w lowest short walk opens reached_v high k d l =
    let at_tail = ap (λ u. get_or levels u 0) walk.0 in
    let rest : All (IsOpen flows p) arcs = λ j e lj. opens (suc j) e (omega arith) in
    let below = walk_level p levels last flows h (head flows a) arcs w 0 reached_w (omega (arith, lowest)) (omega (arith, short)) walk.2 rest in
    let up = h.steps a walk.1 (opens 0 a (omega arith)) below.0 (λ q. reached_v (sym at_tail ∙ q)) in
    let more = descends p levels last flows h (head flows a) arcs w reached_w lowest (omega (arith, short)) walk.2 rest below.0 (omega (arith, high, up, at_tail)) in
    all_more k l (omega (arith, high, up, at_tail, below.1)) more
  where
    all_more : (k : ℕ) → k < length (a ∷ arcs) → get_or levels (head flows a) 0 + 1 ≡ get_or levels (tail flows a) 0 → All (IsDown levels flows) arcs → IsDown levels flows (get_or (a ∷ arcs) k d)
    all_more zero l here more = here
    all_more (suc k) l here more = more k d (omega (arith, l))

-- who has to send and has a path with as few arcs as the last level tells is on that level
on_last : (flows : List Flow) (p surplus lack levels : List ℕ) (last : ℕ) → AreShortest flows p surplus lack levels last → (v : ℕ) (arcs : List ℕ) (w : ℕ) → 0 < get_or surplus v 0 → 0 < get_or lack w 0 → 0 < last → IsWalk flows v arcs w → All (IsOpen flows p) arcs → length arcs ≡ last → IsReached levels v × (get_or levels v 0 ≡ last) × All (IsDown levels flows) arcs
on_last flows p surplus lack levels last h v [] w sends receives some walk opens long = absurd (omega (arith, long, some))
on_last flows p surplus lack levels last h v (a ∷ arcs) w sends receives some walk opens long =
    let lowest = h.receivers w receives some in
    let reached_w : IsReached levels w = λ q. omega (arith, q, lowest) in
    let rest : All (IsOpen flows p) arcs = λ j e lj. opens (suc j) e (omega arith) in
    let below = walk_level p levels last flows h.fewest (head flows a) arcs w 0 reached_w (omega (arith, lowest)) (omega (arith, long)) walk.2 rest in
    let at_tail = ap (λ u. get_or levels u 0) walk.0 in
    let here = opens 0 a (omega arith) in
    let reached_tail : IsReached levels (tail flows a) =
    elim (cases_lt (get_or levels (head flows a) 0 + 1) last) [
      | inl less ↦ h.fewest.all a walk.1 here below.0 less
      | inr not_less ↦ h.met a walk.1 here below.0 (omega (arith, not_less, below.1, long)) (subst (λ u. 0 < get_or surplus u 0) (sym walk.0) sends)
    ] in
    let reached_v : IsReached levels v = λ q. reached_tail (at_tail ∙ q) in
    let high = h.senders v sends reached_v in
    let up = h.fewest.steps a walk.1 here below.0 reached_tail in (
      reached_v,
      omega (arith, high, up, at_tail, below.1, long),
      descends p levels last flows h.fewest v (a ∷ arcs) w reached_w lowest (omega (arith, long)) walk opens reached_v (omega (arith, long, high)),
    )

-- where the members of the last level are out of their layer or have sent all, no path is as short as before
pub none_at_last : (r : ResidualData) (p surplus lack levels : List ℕ) (layers : List MemberSet) (last : ℕ) → AreShortest r.flows p surplus lack levels last → ArePruned r.flows p lack levels layers (last + 1) → AreApart surplus lack → ((w : ℕ) → 0 < get_or lack w 0 → w < length levels) → ((v : ℕ) → has (layer_at layers last) v ≡ true → get_or surplus v 0 ≡ 0) → NoneIsShorter r.flows p surplus lack (last + 1)
none_at_last r p surplus lack levels layers last h pruned apart inside spent v w arcs sends receives walk opens =
    let enough = none_is_shorter h v w arcs sends receives walk opens in
    elim (cases_eq (length arcs) last) [
      | inr ne ↦ omega (arith, enough, ne)
      | inl long ↦
          elim (cases_eq last 0) [
            | inl none ↦ absurd (omega (arith, sends, ap (λ u. get_or surplus u 0) (same_end v arcs walk (long ∙ none)), apart w receives))
            | inr some ↦
                let top = on_last r.flows p surplus lack levels last h v arcs w sends receives (omega (arith, some)) walk opens long in
                let off : has (layer_at layers last) v ≡ false = false_from_ne_true (has (layer_at layers last) v) (λ on. omega (arith, sends, spent v on)) in
                absurd (blocked r.flows p lack levels layers (last + 1) pruned v arcs w last walk opens top.2 (omega arith) top.1 off (h.receivers w receives (omega (arith, some))) (inside w receives) receives)
          ]
    ]
  where
    same_end : (v : ℕ) (arcs : List ℕ) → IsWalk r.flows v arcs w → length arcs ≡ 0 → v ≡ w
    same_end v [] walk none = walk
    same_end v (a ∷ arcs) walk none = absurd (omega (arith, none))

-- from a level a path with so many arcs leads to one that has to receive
pub record DownPath (flows : List Flow) (p lack : List ℕ) (v n : ℕ) : Type 0 where
  pub to : ℕ
  pub arcs : List ℕ
  pub walk : IsWalk flows v arcs to
  pub open_arcs : All (IsOpen flows p) arcs
  pub long : length arcs ≡ n
  pub receives : 0 < get_or lack to 0

down_path : (r : ResidualData) (p lack levels : List ℕ) → IsResidual r → r.members ≡ length levels → AreLevels r.flows p lack levels → (n v : ℕ) → v < r.members → n < 65535 → get_or levels v 0 ≡ n → DownPath r.flows p lack v n
down_path r p lack levels residual one_each h zero v l low at = record {
  to = v;
  arcs = [];
  walk = refl;
  open_arcs = λ k d lk. absurd (omega (arith, lk));
  long = refl;
  receives = h.lowest v (omega (arith, l, one_each)) at;
}
down_path r p lack levels residual one_each h (suc n) v l low at =
    let step = h.down v (omega (arith, l, one_each)) (λ q. omega (arith, q, at, low)) (omega (arith, at)) in
    let a = step.0 in
    let d = step.1 in
    let more = down_path r p lack levels residual one_each h n (head r.flows step.0) (ends_in r residual step.0 d.arc).1 (omega (arith, low)) (omega (arith, d.down, at)) in
    record {
      to = more.to;
      arcs = a ∷ more.arcs;
      walk = (d.tail, d.arc, more.walk);
      open_arcs = both n a more.arcs (d.room, d.tight) more.open_arcs;
      long = omega (arith, more.long);
      receives = more.receives;
    }
  where
    both : (n a : ℕ) (arcs : List ℕ) → IsOpen r.flows p a → All (IsOpen r.flows p) arcs → All (IsOpen r.flows p) (a ∷ arcs)
    both n a arcs here rest zero d lk = here
    both n a arcs here rest (suc k) d lk = rest k d (omega (arith, lk))

-- so the source of a search is at least as deep as paths are long
pub deep_source : (r : ResidualData) (p surplus lack levels : List ℕ) (depth s : ℕ) → IsResidual r → r.members ≡ length levels → AreLevels r.flows p lack levels → NoneIsShorter r.flows p surplus lack depth → s < r.members → 0 < get_or surplus s 0 → get_or levels s 0 < 65535 → depth ≤ get_or levels s 0
deep_source r p surplus lack levels depth s residual one_each h none l sends low =
    let path = down_path r p lack levels residual one_each h (get_or levels s 0) s l low refl in
    omega (arith, none s path.to path.arcs sends path.receives path.walk path.open_arcs, path.long)
