use Rattle.std.proofs.lemmas.List.Elements.{All-from_recursion}
use Rattle.network_laws.specs.Solutions.{IsPotential}
use Rattle.record_codec.proofs.RowReading.{rows_allowed, rows_are}
use Rattle.record_codec.proofs.SolutionReading.{potentials_allowed}
use Rattle.record_codec.proofs.solution.read_solution.Goals as goal

pub solution_of-requires-clause-rows : goal.solution_of-requires-clause-rows
solution_of-requires-clause-rows c = rows_are _ _ (rows_allowed _ _ 0 1000000000000000000 _ _ c.in_ok-rows.ensures)

pub solution_of-requires-clause-one_each : goal.solution_of-requires-clause-one_each
solution_of-requires-clause-one_each c = (potentials_allowed _ _ _ c.in_ok-potentials.ensures).0

pub solution_of-requires-clause-in_range : goal.solution_of-requires-clause-in_range
solution_of-requires-clause-in_range c = All-from_recursion IsPotential _ (potentials_allowed _ _ _ c.in_ok-potentials.ensures).1
