use Rattle.std.proofs.Common.{◌≡◌, ◌++◌}
use Rattle.std.specs.Prelude.{option_map}
use Rattle.recovery.specs.Reading.{file_of, bytes_left}
use Rattle.cycle_states.specs.Replayed.{base_at}
use Rattle.house.specs.Executions.{executions_told, told_of}
use Rattle.house.proofs.ReplayFacts.{ReplayedSoFar}
use Rattle.house.proofs.recovering.replay.Given as goal

abbrev pub invariant-loop-past : goal.invariant-loop-past
invariant-loop-past l = record {
  so_far : ReplayedSoFar (base_at l.fn.position l.fn.machine.state) (file_of l.fn.read) l.reader l.machine.state l.past;
  told : told_of l.executions ≡ option_map (λ replies. replies ++ executions_told l.fn.machine.state l.fn.position l.past.entries) (told_of l.fn.executions);
}

abbrev pub decreases-loop-past : goal.decreases-loop-past
decreases-loop-past l = bytes_left l.reader
