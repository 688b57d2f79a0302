use Rattle.path_solver.specs.Entries.{AreEntriesTo}
use Rattle.path_solver.specs.Neighbours.{turned_graph}
use Rattle.path_solver.proofs.neighbours.Neighbours.of.Given as goal

abbrev pub invariant-loop-number : goal.invariant-loop-number
invariant-loop-number l = record {
  entries : AreEntriesTo l.number l.residual l.entries.items;
  exits : AreEntriesTo l.number (turned_graph l.residual) l.exits.items;
}
