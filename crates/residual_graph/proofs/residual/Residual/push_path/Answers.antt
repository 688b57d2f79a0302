use Rattle.std.proofs.Common.{◌≡◌, List, sym, ap, ◌∙◌, subst}
use Rattle.std.proofs.lemmas.List.{with_items_is}
use Rattle.residual_graph.specs.declared.flow.Flow.{Flow}
use Rattle.residual_graph.specs.Residual.{ResidualData, IsResidual}
use Rattle.residual_graph.specs.Paths.{IsPath, pushed_all}
use Rattle.residual_graph.proofs.Walks.{path_can, all_pushed_kept}
use Rattle.residual_graph.proofs.residual.Residual.push_path.Goals as goal

pub invariant_of-self : goal.invariant_of-self
invariant_of-self g c =
    let x = c.args.amount in
    let path = c.args.path.now in
    let flows = c.self.inside.flows in
    let h : IsPath c.args.amount c.self.inside.flows.items c.args.path.now = subst (λ (r : ResidualData). IsPath c.args.amount r.flows c.args.path.now) (sym c.self.view_is) c.requires in
    let new : c.push_all.new.flows ≡ pushed_all c.args.amount c.self.inside.flows.items c.args.path.now = c.push_all.ensures ∙ ap (λ (fs : List Flow). pushed_all x fs path) c.deref_mut.ensures.value in
    let items = with_items_is flows c.push_all.new.flows (c.push_all.auto.flows ∙ c.deref_mut.ensures.len) in
    subst (λ (fs : List Flow). IsResidual (record { members = c.self.inside.members; flows = fs })) (sym (items ∙ new))
    (all_pushed_kept x c.self.inside.members flows.items path (path_can x flows.items path h) c.self.invariant)

pub returns-clause-residual : goal.returns-clause-residual
returns-clause-residual g c = invariant_of-self g c
