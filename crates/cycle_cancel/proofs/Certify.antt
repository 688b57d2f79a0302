-- Settled labels answer the problem.
use Rattle.std.proofs.Common.{◌≡◌, ℕ, ◌+◌, ◌<◌, ◌≤◌, ◌^◌, Bool, true, false, cond, eqb, ◌&&◌, List, [], ◌∷◌, length, map, All, ℤ, pos, neg_ℤ, refl, sym, ap, ◌∙◌, arith}
use Rattle.std.proofs.lemmas.Int.{ints}
use Rattle.std.proofs.lemmas.List.{get_or-map, length-map}
use Rattle.std.proofs.lemmas.List.Sums.{sum_by-cons}
use Rattle.network_laws.specs.declared.rows.Row.{Row}
use Rattle.network_laws.specs.Networks.{NetworkData, IsNetwork, AreInRange, at, net, gross, total, amount_in, pair_part}
use Rattle.network_laws.specs.Limits.{LimitsData, AreLimits, IsWithinLimits, IsCertified}
use Rattle.network_laws.specs.Solutions.{SolutionData, IsPotential, Solves}
use Rattle.residual_graph.specs.declared.flow.Flow.{Flow}
use Rattle.residual_graph.specs.Residual.{ResidualData, IsCapped, flow_of, residual_of, network_of}
use Rattle.residual_graph.specs.Built.{flow_network}
use Rattle.residual_graph.proofs.Built.{same_at, same_nets, same_amounts, certified_same, are_flows, built_amounts, built_net, built_gross}
use Rattle.residual_graph.proofs.Labels.{labels_certify}
use Rattle.cycle_cancel.specs.Cancels.{IsLabel, AreSettled, IsKept, IsLowered, answer_of}

part_le : (b : Bool) (m : ℕ) → cond b m 0 ≤ m
part_le true m = omega arith
part_le false m = omega arith

-- an amount is at most the gross
pub amount_le : (rows : List Row) (i j : ℕ) → amount_in rows i j ≤ total rows
amount_le [] i j = omega arith
amount_le (row ∷ rows) i j =
    omega (arith, sum_by-cons (pair_part i j) row rows, sum_by-cons (λ (r : Row). r.amount) row rows, part_le (eqb row.seller i && eqb row.buyer j) row.amount, amount_le rows i j)

-- potentials are in range
pub in_range : (n : ℕ) (labels : List ℤ) → n ≤ 256 → All (IsLabel n) labels → All IsPotential (map neg_ℤ labels)
in_range n labels few low k d l =
    let in_labels : k < length labels = omega (arith, length-map labels neg_ℤ) in
    let is = get_or-map neg_ℤ labels k (pos 0) d in_labels in
    let low_k = low k (pos 0) in_labels in
    record { least = omega (arith, ints, is, low_k.0, low_k.1, few); most = omega (arith, ints, is, low_k.0, low_k.1, few) }

module _ (limits : LimitsData) (old : NetworkData) (new : ResidualData) (labels : List ℤ) (are : AreLimits limits) (network : IsNetwork old) (members : limits.members ≡ old.members) (within : IsWithinLimits limits old) where
  cap_ok : IsCapped (gross old + 1) limits old
  cap_ok i j li lj e = omega (arith, amount_le old.rows i j)

  rows_in : AreInRange old.members old.rows
  rows_in k d l = let row = network.rows.good k d l in (row.seller, row.buyer)

  gross_is : gross (flow_network old.members (map (flow_of (gross old + 1) old) limits.rows)) ≡ gross old
  gross_is = built_gross (gross old + 1) limits old are members within cap_ok rows_in

  few_by : (cancelled : Bool) → IsLowered cancelled (map (flow_of (gross old + 1) old) limits.rows) new.flows → gross (flow_network old.members new.flows) ≤ gross old
  few_by true low = omega (arith, low old.members, gross_is)
  few_by false same = omega (arith, ap (λ (fs : List Flow). gross (flow_network old.members fs)) same, gross_is)

  pub few : (cancelled : Bool) → IsKept cancelled (residual_of (gross old + 1) limits old) new → gross (network_of new) ≤ 10 ^ 18
  few cancelled kept = omega (arith, few_by cancelled kept.lowered, same_amounts new old.members, network.rows.within)

  certify : (cancelled : Bool) → IsKept cancelled (residual_of (gross old + 1) limits old) new → AreSettled new labels → IsCertified limits old (flow_network old.members new.flows) (map neg_ℤ labels)
  certify cancelled kept settled =
      labels_certify limits old new.flows labels are.rows.rising (kept.limits (gross old + 1) limits.rows (are_flows (gross old + 1) limits old are members within cap_ok)) (few_by cancelled kept.lowered) settled.none_lower members
      (λ i li. kept.nets old.members i ∙ built_net (gross old + 1) limits old are members within cap_ok rows_in i)

  pub solves : (cancelled : Bool) → IsKept cancelled (residual_of (gross old + 1) limits old) new → AreSettled new labels → Solves limits old (record { network = answer_of cancelled new old; potentials = map neg_ℤ labels })
  solves true kept settled = record {
    certified = certified_same limits old (flow_network old.members new.flows) (network_of new) (map neg_ℤ labels) (sym kept.members) (λ i j li lj. sym (same_at new i j)) (λ i. sym (same_nets new old.members i)) (certify true kept settled);
    same_gross = λ e. absurd (omega (arith, e, kept.lowered old.members, gross_is, same_amounts new old.members));
  }
  solves false kept settled = record {
    certified = certified_same limits old (flow_network old.members new.flows) old (map neg_ℤ labels) refl
        (λ i j li lj. ap (λ (fs : List Flow). at (flow_network old.members fs) i j) kept.lowered ∙ built_amounts (gross old + 1) limits old are members within cap_ok i j li lj)
        (λ i. ap (λ (fs : List Flow). net (flow_network old.members fs) i) kept.lowered ∙ built_net (gross old + 1) limits old are members within cap_ok rows_in i)
        (certify false kept settled);
    same_gross = λ e. refl;
  }

abbrev pub solution : NetworkData → List ℤ → SolutionData
solution y p = record { network = y; potentials = p }

pub same_solution : (y z : NetworkData) (p q : List ℤ) → y ≡ z → p ≡ q → solution y p ≡ solution z q
same_solution y z p q e f = ap (λ (x : NetworkData). solution x p) e ∙ ap (solution z) f
