use Rattle.std.proofs.Common.{◌≡◌, vec_capacity, vec_len}
use Rattle.command_types.specs.declared.figures.State.{State}
use Rattle.house.specs.Batch.{TakeBack}
use Rattle.house.proofs.batch.go_back.Given as goal

abbrev pub invariant-loop-undo : goal.invariant-loop-undo
invariant-loop-undo l = record {
  some : (first : State) × TakeBack l.machine.state l.undos.items first;
  goes : (first : State) → TakeBack l.fn.machine.state l.fn.undos.items first → TakeBack l.machine.state l.undos.items first;
  capacity : vec_capacity l.undos ≡ vec_capacity l.fn.undos;
}

abbrev pub decreases-loop-undo : goal.decreases-loop-undo
decreases-loop-undo l = vec_len l.undos
