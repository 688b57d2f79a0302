use Rattle.std.proofs.Common.{◌≡◌, ◌*◌, ◌^◌, ◌≤◌, take}
use Rattle.command_types.specs.Cycles.{gross_of_all, old_networks}
use Rattle.posting.proofs.gross.gross_before.Given as goal

abbrev pub invariant-loop-problem : goal.invariant-loop-problem
invariant-loop-problem l =
    (l.sum ≡ gross_of_all (old_networks (take l.problem-index l.problems))) × (l.sum ≤ l.problem-index * 10 ^ 18)
