-- One more pair is taken back to its lower bound.
use Rattle.std.proofs.Common.{◌≡◌, ◌≢◌, ℕ, ◌+◌, ◌*◌, ◌<◌, ◌≤◌, ◌%◌, true, false, cond, eqb, List, length, get_or, set, pos, ◌*ℤ◌, refl, sym, ap, ◌∙◌, arith, ⊎_elim, get_or-set_same, get_or-set_other}
use Rattle.std.specs.Prelude.{All}
use Rattle.std.proofs.lemmas.Bool.{cases_eq, eq-eqb, ne_eqb}
use Rattle.std.proofs.lemmas.Int.{ints}
use Rattle.std.proofs.lemmas.List.{get_or-map, get_or_default, length-map}
use Rattle.std.proofs.lemmas.List.Sums.{get_or-le-sum_by}
use Rattle.network_laws.specs.declared.rows.Row.{Row}
use Rattle.network_laws.specs.Networks.{total}
use Rattle.residual_graph.specs.declared.flow.Flow.{Flow}
use Rattle.residual_graph.specs.Residual.{flow_row, flow_rows}
use Rattle.residual_graph.specs.Arcs.{pair, is_forward, no_flow, flow_at, room, room_in, head, head_in, tail, tail_in, cost_in, moved, pushed}
use Rattle.residual_graph.proofs.PushSteps.{share, net_pushed, gross_pushed}
use Rattle.path_solver.specs.Rests.{AreSamePairs, net_of, owed}
use Rattle.path_solver.proofs.Same.{same_trans, pushed_same, flow_at_pushed, flow_at_other}

-- an amount that rises by x
pub amount_more : (xs : List ℕ) (k x i : ℕ) → k < length xs → get_or (set xs k (get_or xs k 0 + x)) i 0 ≡ get_or xs i 0 + share x i k
amount_more xs k x i l =
    ⊎_elim (λ (e : i ≡ k). rw e (rw (eq-eqb k k refl) (get_or-set_same xs k (get_or xs k 0 + x) 0 l)))
    (λ (ne : i ≢ k). let other : share x i k ≡ 0 = rw (ne_eqb k i (λ q. ne (sym q))) refl in omega (arith, other, get_or-set_other xs k i (get_or xs k 0 + x) 0 ne))
    (cases_eq i k)

share_le : (x i k : ℕ) → share x i k ≤ x
share_le x i k = elim (eqb k i) as (λ b. cond b x 0 ≤ x) [ true ↦ omega arith | false ↦ omega arith ]

pub back_of : (k : ℕ) → (pair (2 * k + 1) ≡ k) × (is_forward (2 * k + 1) ≡ false)
back_of k = (omega arith, ne_eqb ((2 * k + 1) % 2) 0 (λ e. omega (arith, e)))

-- what a pair has above its lower bound is within the gross
pub back_le : (flows : List Flow) (k : ℕ) → k < length flows → (flow_at flows k).back ≤ total (flow_rows flows)
back_le flows k l =
    let le = get_or-le-sum_by (λ (row : Row). row.amount) (flow_rows flows) k (flow_row no_flow) (omega (arith, length-map flows flow_row)) in
    omega (arith, le, ap (λ (row : Row). row.amount) (get_or-map flow_row flows k no_flow (flow_row no_flow) l))

pub record IsTakenBack (old flows : List Flow) (surplus lack : List ℕ) (n : ℕ) : Type 0 where
  pub pairs : AreSamePairs old flows
  pub lowest : (k : ℕ) → k < n → (flow_at flows k).back ≡ 0
  pub owed : (i : ℕ) → owed flows surplus lack i ≡ net_of old i
  pub few_to_send : (i : ℕ) → get_or surplus i 0 + total (flow_rows flows) ≤ total (flow_rows old)
  pub few_to_receive : (i : ℕ) → get_or lack i 0 + total (flow_rows flows) ≤ total (flow_rows old)

pub one_back : (old flows : List Flow) (surplus lack : List ℕ) (k : ℕ) (f : Flow) → IsTakenBack old flows surplus lack k → k < length flows → f ≡ flow_at flows k → f.seller < length surplus → f.buyer < length lack → IsTakenBack old (pushed f.back flows (2 * k + 1)) (set surplus f.seller (get_or surplus f.seller 0 + f.back)) (set lack f.buyer (get_or lack f.buyer 0 + f.back)) (k + 1)
one_back old flows surplus lack k f h l is in_s in_b =
    let x = f.back in
    let a = 2 * k + 1 in
    let b = back_of k in
    let l_pair : pair (2 * k + 1) < length flows = omega (arith, b.0, l) in
    let at : flow_at flows (pair (2 * k + 1)) ≡ f = ap (flow_at flows) b.0 ∙ sym is in
    let at_room : room flows (2 * k + 1) ≡ f.back = ap (λ g. room_in g (is_forward (2 * k + 1))) at ∙ ap (room_in f) b.1 in
    let at_tail : tail flows (2 * k + 1) ≡ f.buyer = ap (λ g. tail_in g (is_forward (2 * k + 1))) at ∙ ap (tail_in f) b.1 in
    let at_head : head flows (2 * k + 1) ≡ f.seller = ap (λ g. head_in g (is_forward (2 * k + 1))) at ∙ ap (head_in f) b.1 in
    let roomy : f.back ≤ room flows (2 * k + 1) = omega (arith, at_room) in
    let now : flow_at (pushed f.back flows (2 * k + 1)) k ≡ moved f.back false f =
    ap (flow_at (pushed x flows a)) (sym b.0) ∙ flow_at_pushed x flows a l_pair ∙ ap (moved x (is_forward (2 * k + 1))) at ∙ ap (λ p. moved f.back p f) b.1 in
    let less : total (flow_rows (pushed f.back flows (2 * k + 1))) + f.back ≡ total (flow_rows flows) = omega (arith, ints, gross_pushed 0 x flows a l_pair roomy, ap (λ p. cost_in p *ℤ pos x) b.1) in
    record {
      pairs = same_trans old flows (pushed x flows a) h.pairs (pushed_same x flows a l_pair roomy);
      lowest = λ j lj.
          ⊎_elim (λ (e : j ≡ k). ap (λ y. (flow_at (pushed f.back flows (2 * k + 1)) y).back) e ∙ ap (λ (g : Flow). g.back) now ∙ omega arith)
          (λ (ne : j ≢ k). ap (λ (g : Flow). g.back) (flow_at_other x flows a j (λ q. ne (q ∙ b.0))) ∙ h.lowest j (omega arith))
          (cases_eq j k);
      owed = λ i.
          omega (arith, ints, h.owed i, net_pushed 0 x i flows a l_pair roomy, ap (λ v. share x i v) at_tail, ap (λ v. share x i v) at_head, amount_more surplus f.seller x i in_s, amount_more lack f.buyer x i in_b);
      few_to_send = λ i. omega (arith, h.few_to_send i, less, amount_more surplus f.seller x i in_s, share_le x i f.seller);
      few_to_receive = λ i. omega (arith, h.few_to_receive i, less, amount_more lack f.buyer x i in_b, share_le x i f.buyer);
    }

-- a pair has nothing to be taken back
pub none_back : (old flows : List Flow) (surplus lack : List ℕ) (k : ℕ) → IsTakenBack old flows surplus lack k → (flow_at flows k).back ≡ 0 → IsTakenBack old flows surplus lack (k + 1)
none_back old flows surplus lack k h none = record {
  pairs = h.pairs;
  lowest = λ j lj. ⊎_elim (λ (e : j ≡ k). ap (λ y. (flow_at flows y).back) e ∙ none) (λ (ne : j ≢ k). h.lowest j (omega arith)) (cases_eq j k);
  owed = h.owed;
  few_to_send = h.few_to_send;
  few_to_receive = h.few_to_receive;
}

pub lowest_all : (flows : List Flow) (n : ℕ) → ((k : ℕ) → k < n → (flow_at flows k).back ≡ 0) → length flows ≤ n → All (λ (f : Flow). f.back ≡ 0) flows
lowest_all flows n h le k d l = ap (λ (f : Flow). f.back) (get_or_default flows k d no_flow l) ∙ h k (omega (arith, l, le))
