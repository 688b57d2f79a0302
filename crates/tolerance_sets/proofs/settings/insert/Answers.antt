use Rattle.std.proofs.Common.{◌∙◌, ap, sym, subst}
use Rattle.tolerance_sets.specs.Settings.{settings_of, AreKept}
use Rattle.tolerance_sets.proofs.SettingOrder.{kept_with}
use Rattle.tolerance_sets.proofs.settings.insert.Goals as goal

pub returns-clause-settings : goal.returns-clause-settings
returns-clause-settings c =
    ap settings_of c.in-Ok.ensures.entries ∙ (kept_with c.args.rows.now.entries c.place_of_row-place.result c.args.new c.place_of_row-place.ensures c.requires.kept).0

pub returns-clause-kept : goal.returns-clause-kept
returns-clause-kept c =
    subst AreKept (sym c.in-Ok.ensures.entries) (kept_with c.args.rows.now.entries c.place_of_row-place.result c.args.new c.place_of_row-place.ensures c.requires.kept).1
