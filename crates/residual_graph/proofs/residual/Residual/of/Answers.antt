use Rattle.std.proofs.Common.{◌≡◌, List, map, All, sym, ap, ◌∙◌, subst}
use Rattle.network_laws.specs.declared.rows.LimitRow.{LimitRow}
use Rattle.network_laws.specs.Limits.{AreLimitRows}
use Rattle.residual_graph.specs.declared.flow.Flow.{Flow}
use Rattle.residual_graph.specs.Residual.{flow_of, IsResidual}
use Rattle.residual_graph.specs.Built.{IsBetween, IsSmall, HaveLimits}
use Rattle.residual_graph.proofs.Building.{all_limited, rows_between, residual_kept}
use Rattle.residual_graph.proofs.residual.Residual.of.Goals as goal

pub flows_of-requires : goal.flows_of-requires
flows_of-requires c =
    let limits = c.args.limits.now in
    let y = c.args.network.now in
    let are = c.rows.ensures.limits in
    let given : c.args.limits.now.rows ≡ c.rows.result.now = sym c.rows.ensures.value in
    record {
      good = subst (λ n. AreLimitRows n c.rows.result.now) c.requires.same_members c.rows.ensures.rows;
      within = subst (λ (rows : List LimitRow). All (IsBetween c.args.cap y) rows) given (rows_between c.args.cap limits y are c.requires.same_members c.requires.within c.requires.capped);
      limited = subst (HaveLimits y.rows) given (all_limited limits y c.members-members.ensures.network c.requires.same_members c.requires.within);
    }

pub invariant_of-result : goal.invariant_of-result
invariant_of-result c =
    let limits = c.args.limits.now in
    let y = c.args.network.now in
    let flows : c.in_ok-flows.flows.items ≡ map (flow_of c.args.cap c.args.network.now) c.args.limits.now.rows = c.in_ok-flows.ensures.value ∙ ap (map (flow_of c.args.cap c.args.network.now)) c.rows.ensures.value in
    subst (λ n. IsResidual (record { members = n; flows = c.in_ok-flows.flows.items })) (sym c.members-members.ensures.value)
    (subst (λ (fs : List Flow). IsResidual (record { members = c.args.network.now.members; flows = fs })) (sym flows)
    (residual_kept c.args.cap c.args.limits.now c.args.network.now c.rows.ensures.limits c.requires.same_members (subst (λ (fs : List Flow). All IsSmall fs) flows c.in_ok-flows.ensures.small)))
