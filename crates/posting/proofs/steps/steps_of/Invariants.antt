use Rattle.std.proofs.Common.{◌≡◌, take}
use Rattle.std.specs.Prelude.{filter}
use Rattle.command_types.specs.Plans.{is_in_step}
use Rattle.posting.proofs.steps.steps_of.Given as goal

abbrev pub invariant-loop-step : goal.invariant-loop-step
invariant-loop-step l = l.steps.items ≡ filter (is_in_step l.trades l.member) (take l.step-index l.plan)
