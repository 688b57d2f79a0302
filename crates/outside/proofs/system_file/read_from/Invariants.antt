use Rattle.std.proofs.Common.{◌≡◌, ◌≤◌, length}
use Rattle.outside.proofs.system_file.read_from.Given as goal

abbrev pub invariant-loop : goal.invariant-loop
invariant-loop l = record { same_room : length l.into ≡ length l.initial.into; within : l.done ≤ length l.into }
