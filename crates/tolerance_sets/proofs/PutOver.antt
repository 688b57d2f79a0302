-- Settings put over others.
use Rattle.std.proofs.Common.{◌≡◌, ℕ, List, [], ◌∷◌, refl, sym, ap, ◌∙◌, arith}
use Rattle.command_types.specs.declared.tolerance.ToleranceRow.{ToleranceRow}
use Rattle.command_types.specs.Tolerances.{setting_place, with_setting}
use Rattle.tolerance_sets.specs.Settings.{settings_of, put_over}
use Rattle.tolerance_sets.proofs.SettingOrder.{at_same, at_less, at_more, three_ways, over, apart}

-- a setting that is put among those that are put over others is put over all
pub put_with : (below : List ToleranceRow) (new : ToleranceRow) (rows : List ToleranceRow) → put_over below (with_setting new rows) ≡ with_setting new (put_over below rows)
put_with below new [] = refl
put_with below new (row ∷ rows) =
    three_ways (setting_place row) (setting_place new)
    (λ l. ap (put_over below) (at_more new row rows l) ∙ ap (with_setting row) (put_with below new rows) ∙ apart row new (put_over below rows) (λ q. omega (arith, l, q)))
    (λ q. ap (put_over below) (at_same new row rows q) ∙ sym (over row new (put_over below rows) q))
    (λ l. ap (put_over below) (at_less new row rows l))

-- settings that are put over none are as they were
pub put_over_none : (entries : List (ℕ × ToleranceRow)) → put_over [] (settings_of entries) ≡ settings_of entries
put_over_none [] = refl
put_over_none (entry ∷ entries) = put_with [] entry.1 (settings_of entries) ∙ ap (with_setting entry.1) (put_over_none entries)
