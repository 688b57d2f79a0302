use Rattle.std.proofs.Common.{◌≡◌, ◌++◌, take, All}
use Rattle.std.specs.List.{flat_map}
use Rattle.command_types.specs.Bases.{setting_spelling, IsSettingRow}
use Rattle.base_codec.proofs.put.put_each_setting.Given as goal

abbrev pub invariant-loop-row : goal.invariant-loop-row
invariant-loop-row l =
    (l.out.items ≡ l.fn.out.items ++ flat_map setting_spelling (take l.row-index l.rows)) × All IsSettingRow (take l.row-index l.rows)
