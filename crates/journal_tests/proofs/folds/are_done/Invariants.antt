use Rattle.std.proofs.Common.{◌≡◌, true}
use Rattle.journal_core.specs.Journal.{is_sound}
use Rattle.journal_tests.proofs.folds.are_done.Given as goal

abbrev pub invariant-loop-step : goal.invariant-loop-step
invariant-loop-step l = is_sound l.journal ≡ true
