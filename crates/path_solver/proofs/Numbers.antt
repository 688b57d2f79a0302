-- The numbers of pairs.
use Rattle.std.proofs.Common.{ℕ, zero, suc, ◌+◌, ◌*◌, ◌<◌, ◌≤◌, length, arith}
use Rattle.residual_graph.specs.Residual.{ResidualData, IsResidual}
use Rattle.residual_graph.specs.Arcs.{no_flow, flow_at}

module _ (r : ResidualData) (h : IsResidual r) where
  -- a pair stands at or behind its number among all pairs of 256 members
  at_least : (k : ℕ) → k < length r.flows → k ≤ (flow_at r.flows k).seller * 256 + (flow_at r.flows k).buyer
  at_least zero l = omega arith
  at_least (suc k) l =
      let before = at_least k (omega (arith, l)) in
      let f = h.good k no_flow (omega (arith, l)) in
      let g = h.good (suc k) no_flow l in
      omega (arith, before, h.rising k (suc k) no_flow (omega arith) l, f.buyer, g.buyer, h.few)

  -- so 16 bits hold each number
  pub number_small : (k : ℕ) → k < length r.flows → k < 65536
  number_small k l = let f = h.good k no_flow l in omega (arith, at_least k l, f.seller, f.buyer, h.few)
