-- What sending along a path keeps.
use Rattle.std.proofs.Common.{◌≡◌, ◌≢◌, ℕ, ◌+◌, ◌-◌, ◌<◌, ◌≤◌, List, length, get_or, set, sum, refl, sym, ap, ◌∙◌, subst, inl, inr, arith, ⊎_elim, get_or-set_same, get_or-set_other}
use Rattle.std.specs.Prelude.{All}
use Rattle.std.proofs.lemmas.Bool.{cases_eq, eq-eqb, ne_eqb}
use Rattle.std.proofs.lemmas.Int.{ints}
use Rattle.std.proofs.lemmas.List.{length-set}
use Rattle.std.proofs.lemmas.List.Sums.{sum_by-set}
use Rattle.residual_graph.specs.declared.flow.Flow.{Flow}
use Rattle.residual_graph.specs.Residual.{ResidualData}
use Rattle.residual_graph.specs.Arcs.{room}
use Rattle.residual_graph.proofs.PushSteps.{share}
use Rattle.path_solver.specs.Prices.{ArePrices}
use Rattle.path_solver.specs.Rests.{AreSamePairs, IsSentAlong, net_of}
use Rattle.residual_graph.specs.Paths.{IsPath, pushed_all}
use Rattle.residual_graph.proofs.Walks.{path_can, nets_walk}
use Rattle.path_solver.specs.Paths.{IsPathDown, IsPlainPath}
use Rattle.path_solver.proofs.Ends.{same_pair}
use Rattle.path_solver.proofs.Same.{same_trans}
use Rattle.path_solver.proofs.Walks.{all_same, prices_walk}

pub sent_more : {p : List ℕ} {a b c : ResidualData} {s l s' l' s'' l'' : List ℕ} → IsSentAlong p a b s l s' l' → IsSentAlong p b c s' l' s'' l'' → IsSentAlong p a c s l s'' l''
sent_more {p} {a} {b} {c} {s} {l} {s'} {l'} {s''} {l''} x y = record {
  members = y.members ∙ x.members;
  pairs = same_trans a.flows b.flows c.flows x.pairs y.pairs;
  owed = λ i. y.owed i ∙ x.owed i;
  priced = λ h. y.priced (x.priced h);
  senders = λ v h. x.senders v (y.senders v h);
  receivers = λ v h. x.receivers v (y.receivers v h);
  less = omega (arith, x.less, y.less);
  surplus_each = y.surplus_each ∙ x.surplus_each;
  lack_each = y.lack_each ∙ x.lack_each;
}

-- an amount that falls by x
pub amount_less : (xs : List ℕ) (k x i : ℕ) → k < length xs → x ≤ get_or xs k 0 → get_or (set xs k (get_or xs k 0 - x)) i 0 + share x i k ≡ get_or xs i 0
amount_less xs k x i l h =
    ⊎_elim (λ (e : i ≡ k). rw e (rw (eq-eqb k k refl) (omega (arith, get_or-set_same xs k (get_or xs k 0 - x) 0 l))))
    (λ (ne : i ≢ k). let other : share x i k ≡ 0 = rw (ne_eqb k i (λ q. ne (sym q))) refl in omega (arith, other, get_or-set_other xs k i (get_or xs k 0 - x) 0 ne))
    (cases_eq i k)

sum_less : (xs : List ℕ) (k x : ℕ) → k < length xs → x ≤ get_or xs k 0 → sum (set xs k (get_or xs k 0 - x)) + x ≡ sum xs
sum_less xs k x l h = omega (arith, sum_by-set (λ y. y) xs k (get_or xs k 0 - x) 0 l)

-- it is one along which amounts can move
pub path_of : {flows : List Flow} {p levels lack : List ℕ} {from end : ℕ} {path : List ℕ} (x : ℕ) → IsPathDown flows p levels lack from end path → All (λ a. x ≤ room flows a) path → IsPath x flows path
path_of {flows} {p} {levels} {lack} {from} {end} {path} x h roomy = record {
  from = from;
  to = end;
  walk = h.walk;
  once = λ i j d lt l e. omega (arith, h.falling i j d lt l, ap (λ v. get_or levels v 0) e);
  roomy = roomy;
}

pub plain_path : {flows : List Flow} {p levels lack : List ℕ} {from end : ℕ} {path : List ℕ} (x : ℕ) → IsPathDown flows p levels lack from end path → All (λ a. x ≤ room flows a) path → IsPlainPath x flows path
plain_path {flows} {p} {levels} {lack} {from} {end} {path} x h roomy = record {
  along = path_of x h roomy;
  pairs = λ i j d lt l e.
      let a = get_or path i d in
      let b = get_or path j d in
      let lower = h.falling i j d lt l in
      let down_a = h.steps i d (omega (arith, lt, l)) in
      let down_b = h.steps j d l in
      elim (same_pair flows b a e) [
        | inl own ↦ omega (arith, lower, ap (λ v. get_or levels v 0) own.0)
        | inr twin ↦ omega (arith, lower, down_a, down_b, ap (λ v. get_or levels v 0) twin.0, ap (λ v. get_or levels v 0) twin.1)
      ];
}

pub sent : {p levels : List ℕ} {lack : List ℕ} {from end : ℕ} {path : List ℕ} (old new : ResidualData) (surplus : List ℕ) (x : ℕ) → IsPathDown old.flows p levels lack from end path → All (λ a. x ≤ room old.flows a) path → from < length surplus → end < length lack → x ≤ get_or surplus from 0 → x ≤ get_or lack end 0 → new.members ≡ old.members → new.flows ≡ pushed_all x old.flows path → IsSentAlong p old new surplus lack (set surplus from (get_or surplus from 0 - x)) (set lack end (get_or lack end 0 - x))
sent {p} {levels} {lack} {from} {end} {path} old new surplus x h roomy in_s in_l le_s le_l members flows =
    let can = path_can x old.flows path (path_of x h roomy) in
    record {
      members = members;
      pairs = subst (λ (fs : List Flow). AreSamePairs old.flows fs) (sym flows) (all_same x old.flows path can);
      owed = λ i.
          let nets = ap (λ fs. net_of fs i) flows in
          omega (arith, ints, nets, nets_walk 0 x i old.flows from path end h.walk can, amount_less surplus from x i in_s le_s, amount_less lack end x i in_l le_l);
      priced = λ priced. subst (λ (fs : List Flow). ArePrices fs p) (sym flows) (prices_walk x p old.flows path can (λ k d l. (h.arcs k d l, (h.open_arcs k d l).1)) priced);
      senders = λ v pos_v. omega (arith, pos_v, amount_less surplus from x v in_s le_s);
      receivers = λ v pos_v. omega (arith, pos_v, amount_less lack end x v in_l le_l);
      less = omega (arith, sum_less surplus from x in_s le_s);
      surplus_each = length-set surplus from (get_or surplus from 0 - x);
      lack_each = length-set lack end (get_or lack end 0 - x);
    }
