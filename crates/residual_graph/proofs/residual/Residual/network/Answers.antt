use Rattle.std.proofs.Common.{◌≡◌, ◌≤◌, ◌^◌, List, sym, ap, ◌∙◌, subst}
use Rattle.std.specs.Prelude.{filter}
use Rattle.network_laws.specs.declared.rows.Row.{Row}
use Rattle.network_laws.specs.Networks.{IsNetwork, gross}
use Rattle.network_laws.proofs.Results.{err_not_ok}
use Rattle.residual_graph.specs.Residual.{ResidualData, network_of, flow_rows, has_amount}
use Rattle.residual_graph.proofs.Kept.{network_kept}
use Rattle.residual_graph.proofs.residual.Residual.network.Goals as goal

pub unreachable-requires : goal.unreachable-requires
unreachable-requires c =
    let r : ResidualData = record { members = c.self.inside.members; flows = c.self.inside.flows.items } in
    let within : gross (network_of (record { members = c.self.inside.members; flows = c.self.inside.flows.items })) ≤ 10 ^ 18 = subst (λ (x : ResidualData). gross (network_of x) ≤ 10 ^ 18) (sym c.self.view_is) c.requires in
    let rows : c.in_ok-rows.rows.items ≡ filter has_amount (flow_rows c.self.inside.flows.items) = c.in_ok-rows.ensures ∙ ap (λ fs. filter has_amount (flow_rows fs)) c.deref.ensures.value in
    let network = subst (λ (xs : List Row). IsNetwork (record { members = c.self.inside.members; rows = xs })) (sym rows) (network_kept (record { members = c.self.inside.members; flows = c.self.inside.flows.items }) c.self.invariant within) in
    err_not_ok c.in-Err.field-0 c.in-Err.is (c.from_rows.ensures.good.1 network)
