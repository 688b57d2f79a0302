use Rattle.std.proofs.Common.{◌∙◌, ap, subst, sym}
use Rattle.network_laws.specs.Limits.{LimitsData, IsWithinLimits}
use Rattle.network_laws.specs.Networks.{NetworkData}
use Rattle.cycle_states.specs.declared.machine.frozen.FrozenProduct.{FrozenProduct}
use Rattle.cycle_states.proofs.FrozenFacts.{problem_made}
use Rattle.cycle_states.proofs.machine.problems.problem_with.Goals as goal

pub limits-requires : goal.limits-requires
limits-requires c = record { members = ap (λ (f : FrozenProduct). f.network.members) c.requires.frozen ∙ c.requires.book.members_all }

pub new-requires-clause-same_members : goal.new-requires-clause-same_members
new-requires-clause-same_members c =
    ap (λ (limits : LimitsData). limits.members) c.in_ok-limits.ensures.limits
    ∙ sym (ap (λ (network : NetworkData). network.members) c.in_ok-copy.ensures ∙ ap (λ (f : FrozenProduct). f.network.members) c.requires.frozen ∙ c.requires.book.members_all)

pub new-requires-clause-within : goal.new-requires-clause-within
new-requires-clause-within c =
    subst (λ (network : NetworkData). IsWithinLimits c.in_ok-limits.limits network) (sym c.in_ok-copy.ensures) c.in_ok-limits.ensures.within

pub returns : goal.returns
returns c =
    let v = c.args.version.now in
    problem_made v.roster.now v.book.now.rows v.tolerances.now.taken v.mode v.book.now.members c.args.product c.args.frozen.now c.new.result c.in_ok-limits.limits c.in_ok-copy.copy
    c.requires.book.members_all c.requires.frozen c.in_ok-limits.ensures.limits c.in_ok-copy.ensures c.new.ensures
