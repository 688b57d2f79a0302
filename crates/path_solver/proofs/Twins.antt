-- The other arc of a pair.
use Rattle.std.proofs.Common.{◌≡◌, ℕ, ◌+◌, ◌-◌, ◌<◌, ◌%◌, Bool, true, false, not, cond, List, refl, sym, ap, ◌∙◌, arith, ⊎_elim}
use Rattle.std.proofs.lemmas.Bool.{cases_Bool, eqb-true, eqb-false, eq-eqb, ne_eqb}
use Rattle.residual_graph.specs.declared.flow.Flow.{Flow}
use Rattle.residual_graph.specs.Arcs.{arc_count, pair, is_forward, flow_at, room, room_in, head, head_in, tail, tail_in}
use Rattle.path_solver.specs.Prices.{twin_room}

-- the other arc of a pair
pub record Twin (flows : List Flow) (a : ℕ) : Type 0 where
  pub t : ℕ
  pub arc : t < arc_count flows
  pub starts : tail flows t ≡ head flows a
  pub ends : head flows t ≡ tail flows a
  pub roomy : room flows t ≡ twin_room flows a
  pub back : twin_room flows t ≡ room flows a
  pub same_pair : pair t ≡ pair a

flip_tail : (f : Flow) (b : Bool) → tail_in f (not b) ≡ head_in f b
flip_tail f true = refl
flip_tail f false = refl

flip_head : (f : Flow) (b : Bool) → head_in f (not b) ≡ tail_in f b
flip_head f true = refl
flip_head f false = refl

flip_room : (f : Flow) (b : Bool) → room_in f (not b) ≡ cond b f.back f.room
flip_room f true = refl
flip_room f false = refl

flip_back : (f : Flow) (b : Bool) → cond (not b) f.back f.room ≡ room_in f b
flip_back f true = refl
flip_back f false = refl

make_twin : (flows : List Flow) (a t : ℕ) → t < arc_count flows → pair t ≡ pair a → is_forward t ≡ not (is_forward a) → Twin flows a
make_twin flows a t l p q = record {
  t = t;
  arc = l;
  starts = ap (λ k. tail_in (flow_at flows k) (is_forward t)) p ∙ ap (tail_in (flow_at flows (pair a))) q ∙ flip_tail (flow_at flows (pair a)) (is_forward a);
  ends = ap (λ k. head_in (flow_at flows k) (is_forward t)) p ∙ ap (head_in (flow_at flows (pair a))) q ∙ flip_head (flow_at flows (pair a)) (is_forward a);
  roomy = ap (λ k. room_in (flow_at flows k) (is_forward t)) p ∙ ap (room_in (flow_at flows (pair a))) q ∙ flip_room (flow_at flows (pair a)) (is_forward a);
  back = ap (λ k. cond (is_forward t) (flow_at flows k).back (flow_at flows k).room) p ∙ ap (λ b. cond b (flow_at flows (pair a)).back (flow_at flows (pair a)).room) q ∙ flip_back (flow_at flows (pair a)) (is_forward a);
  same_pair = p;
}

pub twin_of : (flows : List Flow) (a : ℕ) → a < arc_count flows → Twin flows a
twin_of flows a l =
    ⊎_elim (λ (e : is_forward a ≡ true). let even = eqb-true (a % 2) 0 e in
    make_twin flows a (a + 1) (omega arith) (omega arith) (ne_eqb ((a + 1) % 2) 0 (λ q. omega (arith, q)) ∙ sym (ap not e)))
    (λ (e : is_forward a ≡ false). let odd = eqb-false (a % 2) 0 e in
    make_twin flows a (a - 1) (omega (arith, odd)) (omega (arith, odd)) (eq-eqb ((a - 1) % 2) 0 (omega (arith, odd)) ∙ sym (ap not e)))
    (cases_Bool (is_forward a))
