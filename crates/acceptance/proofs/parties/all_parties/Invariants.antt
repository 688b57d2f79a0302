use Rattle.std.proofs.Common.{◌≡◌, ℕ, take}
use Rattle.std.specs.List.{list_any}
use Rattle.command_types.specs.Plans.{is_in_step}
use Rattle.acceptance.specs.Votes.{is_flagged}
use Rattle.acceptance.proofs.parties.all_parties.Given as goal

abbrev pub invariant-loop-step : goal.invariant-loop-step
invariant-loop-step l = (m : ℕ) → is_flagged l.found.words m ≡ list_any (is_in_step l.trades m) (take l.step-index l.plan)
