use Rattle.std.proofs.Common.{◌≡◌, ◌+◌, ◌-◌, ◌≤◌, length, drop}
use Rattle.tolerance_sets.specs.Settings.{settings_of, put_over}
use Rattle.tolerance_sets.proofs.settings.put_rows.Given as goal

abbrev pub invariant-loop-behind : goal.invariant-loop-behind
invariant-loop-behind l = record {
  settings : l.settings.settings ≡ put_over l.initial.settings.settings (settings_of (drop (length l.rows.entries - l.behind) l.rows.entries));
  room : length l.rows.entries ≤ l.behind + l.settings.spare;
}
