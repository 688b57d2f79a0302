use Rattle.std.proofs.Common.{◌≡◌, ◌≤◌, ◌*◌, take, sum_by}
use Rattle.command_types.specs.Sizes.{solution_size}
use Rattle.record_codec.proofs.size.solutions_size.Given as goal

abbrev pub invariant-loop-solution : goal.invariant-loop-solution
invariant-loop-solution l =
    (l.size ≡ sum_by solution_size (take l.solution-index l.solutions)) × (l.size ≤ 268435456 * l.solution-index)
