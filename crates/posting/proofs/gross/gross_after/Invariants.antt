use Rattle.std.proofs.Common.{◌≡◌, ◌*◌, ◌^◌, ◌≤◌, take}
use Rattle.command_types.specs.Cycles.{gross_of_all, new_networks}
use Rattle.posting.proofs.gross.gross_after.Given as goal

abbrev pub invariant-loop-solution : goal.invariant-loop-solution
invariant-loop-solution l =
    (l.sum ≡ gross_of_all (new_networks (take l.solution-index l.solutions))) × (l.sum ≤ l.solution-index * 10 ^ 18)
