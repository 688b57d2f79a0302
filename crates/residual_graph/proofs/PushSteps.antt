-- What a push changes.
use Rattle.std.proofs.Common.{◌≡◌, ◌≢◌, ℕ, ◌+◌, ◌-◌, ◌%◌, ◌<◌, ◌≤◌, Bool, true, false, cond, eqb, List, length, sum_by, pos, ◌+ℤ◌, ◌*ℤ◌, refl, sym, ap, ◌∙◌, subst, arith, ⊎_elim, get_or-set_same, get_or-set_other}
use Rattle.std.proofs.lemmas.Bool.{cases_Bool, cases_eq, eqb-true, eqb-false}
use Rattle.std.proofs.lemmas.Int.{ints}
use Rattle.std.proofs.lemmas.List.{get_or-map, length-map, map-set}
use Rattle.std.proofs.lemmas.List.Sums.{sum_by-set}
use Rattle.network_laws.specs.declared.rows.Row.{Row}
use Rattle.network_laws.specs.Networks.{net, gross, sold_part, bought_part}
use Rattle.residual_graph.specs.declared.flow.Flow.{Flow}
use Rattle.residual_graph.specs.Residual.{flow_row, flow_rows}
use Rattle.residual_graph.specs.Built.{flow_network}
use Rattle.residual_graph.specs.Arcs.{pair, is_forward, no_flow, flow_at, room, room_in, head, head_in, tail, tail_in, cost, cost_in, moved, pushed}

rooms_kept : (x : ℕ) (f : Flow) (p q : Bool) → (p ≡ q → ⊥) → x ≤ room_in f q → x ≤ room_in (moved x p f) q
rooms_kept x f true true ne h = absurd (ne refl)
rooms_kept x f true false ne h = omega arith
rooms_kept x f false true ne h = omega arith
rooms_kept x f false false ne h = absurd (ne refl)

-- another arc keeps room for x
pub room_kept : (x : ℕ) (flows : List Flow) (a b : ℕ) → a ≢ b → pair a < length flows → x ≤ room flows b → x ≤ room (pushed x flows a) b
room_kept x flows a b ne l h =
    ⊎_elim (λ (e : pair b ≡ pair a).
    let at_b : flow_at (pushed x flows a) (pair b) ≡ moved x (is_forward a) (flow_at flows (pair b)) = rw e (get_or-set_same flows (pair a) (moved x (is_forward a) (flow_at flows (pair a))) no_flow l) in
    let ne' : is_forward a ≡ is_forward b → ⊥ = λ q. ne (same_arc a b (sym e) q) in
    subst (λ f. x ≤ room_in f (is_forward b)) (sym at_b) (rooms_kept x (flow_at flows (pair b)) (is_forward a) (is_forward b) ne' h))
    (λ (ne' : pair b ≢ pair a). subst (λ f. x ≤ room_in f (is_forward b)) (sym (get_or-set_other flows (pair a) (pair b) (moved x (is_forward a) (flow_at flows (pair a))) no_flow ne')) h)
    (cases_eq (pair b) (pair a))
  where
    same_arc : (a b : ℕ) → pair a ≡ pair b → is_forward a ≡ is_forward b → a ≡ b
    same_arc a b e q =
        ⊎_elim (λ (t : is_forward a ≡ true). omega (arith, e, eqb-true (a % 2) 0 t, eqb-true (b % 2) 0 (sym q ∙ t)))
        (λ (f : is_forward a ≡ false). omega (arith, e, eqb-false (a % 2) 0 f, eqb-false (b % 2) 0 (sym q ∙ f)))
        (cases_Bool (is_forward a))

-- sums over the rows
sum_pushed : (g : Row → ℕ) (x : ℕ) (flows : List Flow) (a : ℕ) → pair a < length flows → sum_by g (flow_rows (pushed x flows a)) + g (flow_row (flow_at flows (pair a))) ≡ sum_by g (flow_rows flows) + g (flow_row (moved x (is_forward a) (flow_at flows (pair a))))
sum_pushed g x flows a l =
    let new = moved x (is_forward a) (flow_at flows (pair a)) in
    let s = sum_by-set g (flow_rows flows) (pair a) (flow_row new) (flow_row no_flow) (omega (arith, length-map flows flow_row)) in
    let at_a = ap g (get_or-map flow_row flows (pair a) no_flow (flow_row no_flow) l) in
    let is = ap (sum_by g) (map-set flow_row flows (pair a) new) in
    omega (arith, s, at_a, is)

-- x at one member
abbrev pub share : ℕ → ℕ → ℕ → ℕ
share x i v = cond (eqb v i) x 0

part : (x m i v : ℕ) → cond (eqb v i) (m + x) 0 ≡ cond (eqb v i) m 0 + share x i v
part x m i v = elim (eqb v i) as (λ b. cond b (m + x) 0 ≡ cond b m 0 + cond b x 0) [ true ↦ refl | false ↦ omega arith ]

-- the tail's net rises, and the head's falls
nets_moved : (x i : ℕ) (f : Flow) (p : Bool) → x ≤ room_in f p → (sold_part i (flow_row (moved x p f)) + bought_part i (flow_row f)) + share x i (head_in f p) ≡ (sold_part i (flow_row f) + bought_part i (flow_row (moved x p f))) + share x i (tail_in f p)
nets_moved x i f true h =
    let e : f.lower + (f.back + x) ≡ (f.lower + f.back) + x = omega arith in
    omega (arith, part x (f.lower + f.back) i f.seller, part x (f.lower + f.back) i f.buyer, ap (λ m. cond (eqb f.seller i) m 0) e, ap (λ m. cond (eqb f.buyer i) m 0) e)
nets_moved x i f false h =
    let e : f.lower + f.back ≡ (f.lower + (f.back - x)) + x = omega arith in
    omega (arith, part x (f.lower + (f.back - x)) i f.seller, part x (f.lower + (f.back - x)) i f.buyer, ap (λ m. cond (eqb f.seller i) m 0) e, ap (λ m. cond (eqb f.buyer i) m 0) e)

pub net_pushed : (n x i : ℕ) (flows : List Flow) (a : ℕ) → pair a < length flows → x ≤ room flows a → net (flow_network n (pushed x flows a)) i +ℤ pos (share x i (head flows a)) ≡ net (flow_network n flows) i +ℤ pos (share x i (tail flows a))
net_pushed n x i flows a l h =
    omega (arith, ints, sum_pushed (sold_part i) x flows a l, sum_pushed (bought_part i) x flows a l, nets_moved x i (flow_at flows (pair a)) (is_forward a) h)

gross_moved : (x : ℕ) (f : Flow) (p : Bool) → x ≤ room_in f p → pos (flow_row (moved x p f)).amount ≡ pos (flow_row f).amount +ℤ (cost_in p *ℤ pos x)
gross_moved x f true h = omega (arith, ints)
gross_moved x f false h = omega (arith, ints)

pub gross_pushed : (n x : ℕ) (flows : List Flow) (a : ℕ) → pair a < length flows → x ≤ room flows a → pos (gross (flow_network n (pushed x flows a))) ≡ pos (gross (flow_network n flows)) +ℤ (cost a *ℤ pos x)
gross_pushed n x flows a l h =
    omega (arith, ints, sum_pushed (λ (row : Row). row.amount) x flows a l, gross_moved x (flow_at flows (pair a)) (is_forward a) h)
