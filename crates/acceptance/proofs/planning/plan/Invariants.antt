use Rattle.std.proofs.Common.{◌≡◌, ◌++◌, drop}
use Rattle.command_types.specs.Plans.{plan_from}
use Rattle.acceptance.proofs.planning.plan.Given as goal

abbrev pub invariant-loop-place : goal.invariant-loop-place
invariant-loop-place l =
    plan_from l.free-inside.rows.items l.day 0 l.old l.new ≡ l.plan.items ++ plan_from l.free-inside.rows.items l.day l.place (drop l.place l.old) (drop l.place l.new)
