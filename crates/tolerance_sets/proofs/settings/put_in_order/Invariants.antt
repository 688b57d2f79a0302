use Rattle.std.proofs.Common.{◌≡◌, ◌-◌, length, drop}
use Rattle.std.specs.Map.{values_of}
use Rattle.tolerance_sets.specs.Settings.{settings_of, put_over, AtPlaces}
use Rattle.tolerance_sets.proofs.settings.put_in_order.Given as goal

abbrev pub invariant-loop-behind : goal.invariant-loop-behind
invariant-loop-behind l =
    (values_of l.ordered.entries ≡ put_over (values_of l.initial.ordered.entries) (settings_of (drop (length l.rows.entries - l.behind) l.rows.entries))) × AtPlaces l.ordered.entries
