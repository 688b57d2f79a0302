use Rattle.std.proofs.Common.{◌∙◌, length, sym, ap, subst}
use Rattle.std.proofs.lemmas.Bool.{false≢true}
use Rattle.network_laws.specs.Limits.{AreLimits, IsWithinLimits}
use Rattle.tolerance_sets.proofs.OpenPairs.{none_owed}
use Rattle.tolerance_sets.proofs.PairLimits.{limits_are_good, network_is_within}
use Rattle.tolerance_sets.proofs.Walk.{limits_from}
use Rattle.tolerance_sets.proofs.tolerances.Tolerances.limits.Goals as goal

pub all_limits-requires-clause-market : goal.all_limits-requires-clause-market
all_limits-requires-clause-market c = record {
  network = c.rows.ensures.rows.rising;
  apart = none_owed c.args.network.now.members c.rows.result.now c.rows.ensures.network.few c.rows.ensures.rows.good;
  held = c.rows-2.ensures.rows.rising;
  dealers = c.dealers_end.ensures;
}

pub unreachable-requires : goal.unreachable-requires
unreachable-requires c =
    let members = c.members-members.result.now in
    let settings = c.of-settings.result.settings in
    let network = c.args.network.now in
    let held = c.args.held.now in
    let made = limits_from c.args.mode members settings c.args.product network held c.rows.result.now c.rows-2.result.now c.in_ok-rows.rows.items c.rows.ensures.value c.rows-2.ensures.value c.in_ok-rows.ensures in
    false≢true (c.in_default.ensures.good.1 (subst AreLimits (sym made) (limits_are_good c.args.mode members settings c.args.product network held c.members-members.ensures.few c.rows.ensures.network)))

pub returns-clause-within : goal.returns-clause-within
returns-clause-within c =
    let members = c.members-members.result.now in
    let settings = c.of-settings.result.settings in
    let network = c.args.network.now in
    let held = c.args.held.now in
    let made = limits_from c.args.mode members settings c.args.product network held c.rows.result.now c.rows-2.result.now c.in_ok-rows.rows.items c.rows.ensures.value c.rows-2.ensures.value c.in_ok-rows.ensures in
    subst (λ l. IsWithinLimits l network) (sym (c.in-Ok.ensures.value ∙ made)) (network_is_within c.args.mode members settings c.args.product network held (c.requires.members ∙ sym (ap length c.members-members.ensures.rows)))
