use Rattle.std.proofs.Common.{◌≡◌, ◌++◌, take}
use Rattle.std.specs.List.{flat_map}
use Rattle.command_types.specs.Spelling.{potential_spelling}
use Rattle.record_codec.proofs.put_solution.put_potentials.Given as goal

abbrev pub invariant-loop-potential : goal.invariant-loop-potential
invariant-loop-potential l = l.out.items ≡ l.fn.out.items ++ flat_map potential_spelling (take l.potential-index l.potentials)
