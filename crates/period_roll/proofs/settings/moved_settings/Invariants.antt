use Rattle.std.proofs.Common.{◌≡◌, [], drop}
use Rattle.period_roll.specs.Settings.{moved_beside}
use Rattle.period_roll.proofs.settings.moved_settings.Given as goal

abbrev pub invariant-loop-row : goal.invariant-loop-row
invariant-loop-row l = moved_beside l.old l.new l.made.settings (drop l.row-index l.rows) ≡ moved_beside l.old l.new [] l.rows
