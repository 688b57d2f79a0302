use Rattle.std.proofs.Common.{◌≡◌, ◌%◌, ◌∙◌, false, get_or, ap, sym, eqb-true}
use Rattle.command_types.specs.Tolerances.{floor_in, ceiling_in}
use Rattle.tolerance_sets.specs.Settings.{SettingsView, SetsNothing}
use Rattle.tolerance_sets.proofs.product_settings.ProductSettings.levels_of.Goals as goal

-- the member has no mark
nothing : (c : goal.Then-not-self-index) → SetsNothing c.self.inside.settings.now.settings c.self.inside.product c.args.member
nothing c =
    let marks = c.self.inside.marks in
    let member = c.args.member in
    let off : get_or marks (member % 256) false ≡ false = ap (λ n. get_or marks (n % 256) false) (sym c.index.ensures) ∙ c.if-not-self-index.true in
    c.self.invariant member off

pub returns-then-not-self-index-clause-floor : goal.returns-then-not-self-index-clause-floor
returns-then-not-self-index-clause-floor c =
    let own = c.self.inside.settings.now.settings in
    let same = eqb-true c.args.product c.self.inside.product (sym c.eq.ensures ∙ c.if-eq.true) in
    sym (nothing c c.args.other c.args.side).0
    ∙ ap (λ p. floor_in own c.args.member p c.args.other c.args.side) (sym same)
    ∙ ap (λ (v : SettingsView). floor_in v.settings c.args.member c.args.product c.args.other c.args.side) c.self.view_is

pub returns-then-not-self-index-clause-ceiling : goal.returns-then-not-self-index-clause-ceiling
returns-then-not-self-index-clause-ceiling c =
    let own = c.self.inside.settings.now.settings in
    let same = eqb-true c.args.product c.self.inside.product (sym c.eq.ensures ∙ c.if-eq.true) in
    sym (nothing c c.args.other c.args.side).1
    ∙ ap (λ p. ceiling_in own c.args.member p c.args.other c.args.side) (sym same)
    ∙ ap (λ (v : SettingsView). ceiling_in v.settings c.args.member c.args.product c.args.other c.args.side) c.self.view_is
