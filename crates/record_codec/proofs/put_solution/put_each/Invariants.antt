use Rattle.std.proofs.Common.{◌≡◌, ◌++◌, take, All}
use Rattle.std.specs.List.{flat_map}
use Rattle.network_laws.specs.Solutions.{IsSolution}
use Rattle.command_types.specs.Spelling.{solution_spelling}
use Rattle.record_codec.proofs.put_solution.put_each.Given as goal

abbrev pub invariant-loop-solution : goal.invariant-loop-solution
invariant-loop-solution l =
    (l.out.items ≡ l.fn.out.items ++ flat_map solution_spelling (take l.solution-index l.solutions)) × All IsSolution (take l.solution-index l.solutions)
