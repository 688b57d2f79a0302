-- One more cancelled cycle.
use Rattle.std.proofs.Common.{◌≡◌, ℕ, ◌<◌, Bool, true, false, List, ap, ◌∙◌, arith}
use Rattle.network_laws.specs.Networks.{gross}
use Rattle.residual_graph.specs.declared.flow.Flow.{Flow}
use Rattle.residual_graph.specs.Residual.{ResidualData}
use Rattle.residual_graph.specs.Built.{flow_network}
use Rattle.cycle_cancel.specs.Cancels.{IsCancelled, IsLowered, IsKept}

pub kept_more : (old mid new : ResidualData) (cancelled : Bool) → IsKept cancelled old mid → new.members ≡ mid.members → IsCancelled mid.flows new.flows → IsKept true old new
kept_more old mid new cancelled k m c = record {
  members = m ∙ k.members;
  lowered = λ n. lower cancelled n k.lowered;
  nets = λ n i. c.nets n i ∙ k.nets n i;
  limits = λ cap limits are. c.limits cap limits (k.limits cap limits are);
}
  where
    lower : (b : Bool) (n : ℕ) → IsLowered b old.flows mid.flows → gross (flow_network n new.flows) < gross (flow_network n old.flows)
    lower true n low = omega (arith, c.gross n, low n)
    lower false n same = omega (arith, c.gross n, ap (λ (fs : List Flow). gross (flow_network n fs)) same)
