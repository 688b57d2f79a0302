use Rattle.std.proofs.Common.{◌∙◌, ap}
use Rattle.command_types.specs.Tolerances.{with_setting}
use Rattle.tolerance_sets.specs.Settings.{SettingsView}
use Rattle.tolerance_sets.proofs.RisingFacts.{set_next}
use Rattle.tolerance_sets.proofs.tolerances.Tolerances.of_rows.Goals as goal

pub loop-row-preserved : goal.loop-row-preserved
loop-row-preserved c =
    set_next c.args.rows.now c.loop-row.taken.settings c.put.new.self.settings c.loop-row.row-index c.row-item.result c.requires c.loop-row-test.true c.row-item.is c.loop-row.invariant
    (c.put.ensures.settings ∙ ap (λ (v : SettingsView). with_setting c.row-item.result v.settings) c.reserve.ensures.settings)
