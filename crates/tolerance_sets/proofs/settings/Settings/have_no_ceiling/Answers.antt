use Rattle.std.proofs.Common.{◌≡◌, Bool, refl, true, false, sym, ◌∙◌, subst}
use Rattle.std.specs.Prelude.{not}
use Rattle.tolerance_sets.specs.Settings.{HaveNoCeiling}
use Rattle.tolerance_sets.proofs.NoCeiling.{none_set}
use Rattle.tolerance_sets.proofs.settings.Settings.have_no_ceiling.Goals as goal

not_true : (b : Bool) → not b ≡ true → b ≡ false
not_true true e = cc
not_true false e = refl

pub returns : goal.returns
returns c said =
    subst (λ v. HaveNoCeiling v.settings c.args.product) c.self.view_is (none_set c.args.product c.self.inside.rows.entries (sym c.any_ceiling.ensures ∙ not_true c.any_ceiling.result said))
