use Rattle.std.proofs.Common.{◌↔◌, ◌≤◌, rules, IsTrue, subst}
use Rattle.command_types.specs.Trades.{submitted_count}
use Rattle.units_core.specs.declared.limits.TheConstants.{MOST_SUBMITTED}
use Rattle.base_fitting.proofs.fitting.fits.Goals as goal

pub returns : goal.returns
returns c =
    let small_is : IsTrue c.has_small_numbers.result = search rules in
    let names_are : IsTrue c.has_names_of.result = search rules in
    let settings_are : IsTrue c.has_settings_of.result = search rules in
    let trades_are : IsTrue c.has_trades_of.result = search rules in
    let bounded_is : IsTrue c.is_bounded_for.result = search rules in
    let small = c.has_small_numbers.ensures.0 small_is in
    let names = c.has_names_of.ensures.0 names_are in
    let few : IsTrue c.are_few.result ↔ (submitted_count c.args.base.now.trades ≤ MOST_SUBMITTED) = subst (λ trades. IsTrue c.are_few.result ↔ (submitted_count trades ≤ MOST_SUBMITTED)) c.rows.ensures c.are_few.ensures in (
      λ yes. record {
        position = small.0;
        cycle = small.1;
        version = small.2;
        members = names.0;
        products = names.1;
        settings = c.has_settings_of.ensures.0 settings_are;
        trades = c.has_trades_of.ensures.0 trades_are;
        bounded = c.is_bounded_for.ensures.0 bounded_is;
        few = few.0 yes;
      },
      λ fits. few.1 fits.few,
    )
