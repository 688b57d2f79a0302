-- Prices that fit the pairs are the potentials of a certificate.
use Rattle.std.proofs.Common.{◌≡◌, ℕ, zero, suc, ◌+◌, ◌<◌, ◌≤◌, ◌^◌, Bool, true, false, cond, eqb, ◌&&◌, List, [], ◌∷◌, length, get_or, map, All, pos, ◌+ℤ◌, neg_ℤ, ◌≤ℤ◌, refl, sym, ap, ◌∙◌, subst, arith}
use Rattle.std.proofs.lemmas.Int.{ints}
use Rattle.std.proofs.lemmas.List.{get_or-map, get_or_default, length-map}
use Rattle.std.proofs.lemmas.List.Sums.{sum_by-cons}
use Rattle.std.proofs.Math.ListN.{get_or-map as any-get_or-map}
use Rattle.network_laws.specs.declared.rows.Row.{Row}
use Rattle.network_laws.specs.declared.rows.LimitRow.{LimitRow}
use Rattle.network_laws.specs.Networks.{NetworkData, IsNetwork, AreInRange, gross, total, amount_in, pair_part}
use Rattle.network_laws.specs.Limits.{LimitsData, AreLimits, IsWithinLimits, IsCertified}
use Rattle.network_laws.specs.Solutions.{IsPotential, Solves}
use Rattle.network_laws.proofs.Duality.{certificate_is_shared}
use Rattle.residual_graph.specs.declared.flow.Flow.{Flow}
use Rattle.residual_graph.specs.Residual.{ResidualData, IsCapped, flow_rows, residual_of, network_of}
use Rattle.residual_graph.specs.Arcs.{pair, is_forward, no_flow, flow_at, room_in, head_in, tail_in, cost_in}
use Rattle.residual_graph.specs.Built.{IsFlowOf, AreFlowsOf, flow_network}
use Rattle.residual_graph.specs.Labels.{label, AreLabels}
use Rattle.residual_graph.proofs.Kept.{pair_below}
use Rattle.residual_graph.proofs.Built.{same_at, same_nets, same_amounts, certified_same, are_flows, built_net, built_gross}
use Rattle.residual_graph.proofs.Labels.{labels_certify}
use Rattle.path_solver.specs.Prices.{ArePrices, IsPriced, potentials}
use Rattle.path_solver.specs.Rests.{AreSamePairs}
use Rattle.path_solver.specs.Phases.{IsPricedAnew}
use Rattle.path_solver.proofs.Same.{same_sym}
use Rattle.path_solver.proofs.Cuts.{rows_in, gross_le, potential_is}
use Rattle.path_solver.proofs.Phased.{residual_kept}

part_le : (b : Bool) (m : ℕ) → cond b m 0 ≤ m
part_le true m = omega arith
part_le false m = omega arith

-- an amount is at most the gross
pub amount_le : (rows : List Row) (i j : ℕ) → amount_in rows i j ≤ total rows
amount_le [] i j = omega arith
amount_le (row ∷ rows) i j =
    omega (arith, sum_by-cons (pair_part i j) row rows, sum_by-cons (λ (r : Row). r.amount) row rows, part_le (eqb row.seller i && eqb row.buyer j) row.amount, amount_le rows i j)

-- prices are in the range of potentials
pub in_range : (n : ℕ) (p : List ℕ) → n ≤ 256 → ((v : ℕ) → get_or p v 0 ≤ n) → All IsPotential (potentials p)
in_range n p few most k d l =
    let is = get_or-map pos p k 0 d (omega (arith, length-map p pos)) in
    record { least = omega (arith, ints, is); most = omega (arith, ints, is, most k, few) }

label_at : (p : List ℕ) (v : ℕ) → label (map neg_ℤ (potentials p)) v ≡ neg_ℤ (pos (get_or p v 0))
label_at p v = any-get_or-map neg_ℤ (potentials p) v (pos 0) ∙ ap neg_ℤ (potential_is p v)

twice : (p : List ℕ) → map neg_ℤ (map neg_ℤ (potentials p)) ≡ potentials p
twice [] = refl
twice (zero ∷ p) = ap (λ q. pos 0 ∷ q) (twice p)
twice (suc x ∷ p) = ap (λ q. pos (suc x) ∷ q) (twice p)

arc_label : (p : List ℕ) (f : Flow) (b : Bool) → IsPriced p f → 0 < room_in f b → label (map neg_ℤ (potentials p)) (head_in f b) ≤ℤ (label (map neg_ℤ (potentials p)) (tail_in f b) +ℤ cost_in b)
arc_label p f true h room = omega (arith, ints, h.growing room, label_at p f.seller, label_at p f.buyer)
arc_label p f false h room = omega (arith, ints, h.falling room, label_at p f.seller, label_at p f.buyer)

labels_of : (flows : List Flow) (p : List ℕ) → ArePrices flows p → AreLabels flows (map neg_ℤ (potentials p))
labels_of flows p h a l room = arc_label p (flow_at flows (pair a)) (is_forward a) (h (pair a) (pair_below a (length flows) l)) room

flows_same : (cap : ℕ) (limits : List LimitRow) (old new : List Flow) → AreSamePairs old new → AreFlowsOf cap limits old → AreFlowsOf cap limits new
flows_same cap limits old new same h = record {
  same_length = same.same_length ∙ h.same_length;
  each = λ k row f lk.
      let in_old : k < length old = omega (arith, h.same_length) in
      let s = same.each k in_old in
      let e = h.each k row no_flow lk in
      let is = get_or_default new k f no_flow (omega (arith, same.same_length)) in
      subst (λ g. IsFlowOf cap (get_or limits k row) g) (sym is) (record { seller = s.seller ∙ e.seller; buyer = s.buyer ∙ e.buyer; lower = s.lower ∙ e.lower; most = omega (arith, s.lower, s.most, e.most) });
}

module _ (limits : LimitsData) (old : NetworkData) (are : AreLimits limits) (network : IsNetwork old) (members : limits.members ≡ old.members) (within : IsWithinLimits limits old) where
  cap_fits : IsCapped (gross old + 1) limits old
  cap_fits i j li lj e = omega (arith, amount_le old.rows i j)

  rows_fit : AreInRange old.members old.rows
  rows_fit k d l = let row = network.rows.good k d l in (row.seller, row.buyer)

  pub start_gross : total (flow_rows (residual_of (gross old + 1) limits old).flows) ≡ gross old
  start_gross = built_gross (gross old + 1) limits old are members within cap_fits rows_fit

module _ (limits : LimitsData) (old : NetworkData) (new : ResidualData) (p : List ℕ) (are : AreLimits limits) (network : IsNetwork old) (members : limits.members ≡ old.members) (within : IsWithinLimits limits old) (found : IsPricedAnew (residual_of (gross old + 1) limits old) new p) where
  cap_ok : IsCapped (gross old + 1) limits old
  cap_ok i j li lj e = omega (arith, amount_le old.rows i j)

  old_rows : AreInRange old.members old.rows
  old_rows k d l = let row = network.rows.good k d l in (row.seller, row.buyer)

  rows_now : AreInRange old.members (flow_rows new.flows)
  rows_now = subst (λ n. AreInRange n (flow_rows new.flows)) found.members (rows_in new (residual_kept (residual_of (gross old + 1) limits old) new found.members found.pairs found.residual))

  few : gross (flow_network old.members new.flows) ≤ gross old
  few = omega (arith, start_gross limits old are network members within, gross_le old.members p new.flows (residual_of (gross old + 1) limits old).flows rows_now (same_sym (residual_of (gross old + 1) limits old).flows new.flows found.pairs) found.priced (λ i l. sym (found.nets i l)))

  pub few_rows : gross (network_of new) ≤ 10 ^ 18
  few_rows = omega (arith, few, same_amounts new old.members, network.rows.within)

  certify : IsCertified limits old (flow_network old.members new.flows) (potentials p)
  certify =
      let by_labels = labels_certify limits old new.flows (map neg_ℤ (potentials p)) are.rows.rising (flows_same (gross old + 1) limits.rows (residual_of (gross old + 1) limits old).flows new.flows found.pairs (are_flows (gross old + 1) limits old are members within cap_ok)) few (labels_of new.flows p found.priced) members (λ i l. found.nets i l ∙ built_net (gross old + 1) limits old are members within cap_ok old_rows i) in
      subst (IsCertified limits old (flow_network old.members new.flows)) (twice p) by_labels

  pub solves_new : gross (network_of new) < gross old → Solves limits old (record { network = network_of new; potentials = potentials p })
  solves_new less = record {
    certified = certified_same limits old (flow_network old.members new.flows) (network_of new) (potentials p) (sym found.members) (λ i j li lj. sym (same_at new i j)) (λ i. sym (same_nets new old.members i)) certify;
    same_gross = λ e. absurd (omega (arith, e, less));
  }

  pub solves_old : gross old ≤ gross (network_of new) → Solves limits old (record { network = old; potentials = potentials p })
  solves_old least = record {
    certified = certificate_is_shared limits old (flow_network old.members new.flows) old (potentials p) rows_now old_rows certify (record { limit_members = members; new_members = refl; within = within; nets = λ i l. refl }) (omega (arith, few, least, same_amounts new old.members));
    same_gross = λ e. refl;
  }
