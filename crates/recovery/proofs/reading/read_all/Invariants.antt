use Rattle.std.proofs.Common.{List, ℕ, length}
use Rattle.journal_core.specs.Holds.{Holds}
use Rattle.journal_core.specs.Walk.{bytes_of, gate_of}
use Rattle.recovery.proofs.LoopFacts.{SpelledFront}
use Rattle.recovery.proofs.reading.read_all.Given as goal

abbrev pub invariant-loop-found : goal.invariant-loop-found
invariant-loop-found l = (base : List ℕ) (records : List (List ℕ)) → Holds (bytes_of l.walked) base records → SpelledFront l.fn.first (gate_of l.walked) records l.body

abbrev pub decreases-loop-found : goal.decreases-loop-found
decreases-loop-found l = length l.body.records.rest.now
