use Rattle.std.proofs.Common.{◌∙◌, ◌≤◌, List, [], length, sym, ap, subst}
use Rattle.std.proofs.lemmas.Bool.{false≢true}
use Rattle.network_laws.specs.Networks.{AreRows}
use Rattle.network_laws.specs.Limits.{AreLimits, IsWithinLimits}
use Rattle.command_types.specs.declared.roster.MemberRow.{MemberRow}
use Rattle.tolerance_sets.proofs.PairLimits.{limits_are_good, network_is_within}
use Rattle.file_market.specs.Market.{empty_network}
use Rattle.file_market.proofs.UntouchedLimits.{limits_from}
use Rattle.file_market.proofs.limits.limits_for.Goals as goal

pub untouched_rows-requires-clause-sales : goal.untouched_rows-requires-clause-sales
untouched_rows-requires-clause-sales c = subst (λ n. AreRows n c.rows.result.now) (c.requires ∙ sym (ap length c.members-members.ensures.rows)) c.rows.ensures.rows

pub unreachable-requires : goal.unreachable-requires
unreachable-requires c =
    let roster = c.args.roster.now in
    let network = c.args.network.now in
    let made = limits_from roster c.args.mode c.args.product network c.members-members.result.now c.rows.result.now c.in_ok-rows.rows.items c.members-members.ensures.rows c.rows.ensures.value c.in_ok-rows.ensures in
    let few = subst (λ (ms : List MemberRow). length ms ≤ 256) c.members-members.ensures.rows c.members-members.ensures.few in
    false≢true (c.in_default.ensures.good.1 (subst AreLimits (sym made) (limits_are_good c.args.mode roster.members [] c.args.product network (empty_network roster) few c.rows.ensures.network)))

pub returns-clause-within : goal.returns-clause-within
returns-clause-within c =
    let roster = c.args.roster.now in
    let network = c.args.network.now in
    let made = limits_from roster c.args.mode c.args.product network c.members-members.result.now c.rows.result.now c.in_ok-rows.rows.items c.members-members.ensures.rows c.rows.ensures.value c.in_ok-rows.ensures in
    subst (λ l. IsWithinLimits l network) (sym (c.in-Ok.ensures.value ∙ made)) (network_is_within c.args.mode roster.members [] c.args.product network (empty_network roster) c.requires)
