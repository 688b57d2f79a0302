use Rattle.std.proofs.Common.{◌≡◌, drop}
use Rattle.std.specs.Prelude.{◌++◌}
use Rattle.command_types.specs.Cycles.{old_networks, new_networks}
use Rattle.command_types.specs.Plans.{plan_from}
use Rattle.posting.proofs.planned.plan_from_free.Given as goal

abbrev pub invariant-loop-place : goal.invariant-loop-place
invariant-loop-place l =
    plan_from l.free l.day 0 (old_networks l.problems) (new_networks l.solutions) ≡ l.plan.items ++ plan_from l.free l.day l.place (old_networks (drop l.place l.problems)) (new_networks (drop l.place l.solutions))
