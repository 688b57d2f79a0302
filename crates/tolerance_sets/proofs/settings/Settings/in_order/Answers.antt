use Rattle.std.proofs.Common.{rules, ◌≡◌, ◌∙◌, IfOk, List, [], ap, subst}
use Rattle.std.specs.Map.{values_of}
use Rattle.command_types.specs.declared.tolerance.ToleranceRow.{ToleranceRow}
use Rattle.tolerance_sets.specs.Settings.{SettingsView, settings_of, put_over}
use Rattle.tolerance_sets.proofs.PutOver.{put_over_none}
use Rattle.tolerance_sets.proofs.settings.Settings.in_order.Goals as goal

pub returns : goal.returns
returns c =
    let own = c.self.inside.rows.entries in
    let more = c.over.inside.rows.entries in
    let Gives : List ToleranceRow → Type 0 = λ told. IfOk c.collect.result (λ rows. rows.items ≡ told) in
    let told : Gives (values_of c.put_in_order-2.new.ordered.entries) = search rules in
    let empty : values_of c.new-ordered.result.entries ≡ [] = search rules in
    subst Gives
    (c.in_ok-put_in_order-2.ensures.settings
    ∙ ap (λ (below : List ToleranceRow). put_over below (settings_of more)) (c.in_ok-put_in_order.ensures.settings ∙ ap (λ (below : List ToleranceRow). put_over below (settings_of own)) empty ∙ put_over_none own)
    ∙ ap (λ (v : SettingsView). put_over v.settings (settings_of more)) c.self.view_is
    ∙ ap (λ (v : SettingsView). put_over c.args.self.now.settings v.settings) c.over.view_is)
    told
