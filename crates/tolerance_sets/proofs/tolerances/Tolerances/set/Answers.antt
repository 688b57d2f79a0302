use Rattle.std.proofs.Common.{◌∙◌, ap}
use Rattle.command_types.specs.declared.tolerance.ToleranceRow.{ToleranceRow}
use Rattle.command_types.specs.Tolerances.{with_setting}
use Rattle.tolerance_sets.specs.Settings.{TolerancesView, put_over}
use Rattle.tolerance_sets.proofs.PutOver.{put_with}
use Rattle.tolerance_sets.proofs.tolerances.Tolerances.set.Goals as goal

pub returns-clause-settings : goal.returns-clause-settings
returns-clause-settings c =
    let t = c.self.inside in
    let row : ToleranceRow = record { member = c.args.member; product = c.args.product; other = c.args.other; side = c.args.side; floor = c.args.floor; ceiling = c.args.ceiling } in
    ap (put_over t.taken.settings) c.put.ensures.settings ∙ put_with t.taken.settings row t.since.settings ∙ ap (λ (v : TolerancesView). with_setting row v.settings) c.self.view_is
