use Rattle.std.proofs.Common.{◌≡◌, ◌++◌, get_or, take, sym, ap, ◌∙◌, rules}
use Rattle.std.specs.List.{flat_map}
use Rattle.std.proofs.lemmas.List.{take_more, flat_map_more}
use Rattle.std.proofs.lemmas.List.Elements.{All-more}
use Rattle.command_types.specs.declared.tolerance.ToleranceRow.{ToleranceRow}
use Rattle.command_types.specs.Bases.{setting_spelling, IsSettingRow}
use Rattle.base_codec.proofs.put.put_each_setting.Goals as goal

pub loop-row-preserved : goal.loop-row-preserved
loop-row-preserved c =
    let rows = c.args.rows.now in
    let i = c.loop-row.row-index in
    let item : ToleranceRow = c.row-item.result in
    let form : IsSettingRow (get_or rows i item) = search (rules, c.row-item.is, c.in_ok-put_setting.ensures.form) in
    let appends : c.put_setting.new.out.items ≡ c.loop-row.out.items ++ setting_spelling (get_or rows i item) = search (rules, c.row-item.is, c.in_ok-put_setting.ensures.appends) in (
      appends
          ∙ ap (λ (bytes : _). bytes ++ setting_spelling (get_or rows i item)) c.loop-row.invariant.0
          ∙ flat_map_more setting_spelling c.args.out.now.items (take i rows) (get_or rows i item)
          ∙ ap (λ (xs : _). c.args.out.now.items ++ flat_map setting_spelling xs) (sym (take_more rows i item c.loop-row-test.true)),
      All-more IsSettingRow rows i item c.loop-row-test.true c.loop-row.invariant.1 form,
    )
