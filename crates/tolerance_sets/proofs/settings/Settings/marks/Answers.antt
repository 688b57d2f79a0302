use Rattle.std.proofs.Common.{subst}
use Rattle.tolerance_sets.specs.Settings.{SettingsView, AreMarked}
use Rattle.tolerance_sets.proofs.NoSetting.{none_made}
use Rattle.tolerance_sets.proofs.settings.Settings.marks.Goals as goal

pub returns : goal.returns
returns c =
    subst (λ (v : SettingsView). AreMarked v.settings c.args.product c.marks_of.result) c.self.view_is
    (λ member off. none_made c.args.product member c.self.inside.rows.entries (c.marks_of.ensures member off))
