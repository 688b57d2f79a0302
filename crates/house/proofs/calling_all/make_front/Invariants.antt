use Rattle.std.proofs.Common.{◌≡◌, ◌≤◌, take, vec_len, vec_capacity}
use Rattle.house.specs.Front.{IsFront}
use Rattle.house.specs.Step.{GoesOn}
use Rattle.house.proofs.calling_all.make_front.Given as goal

abbrev pub invariant-loop-asked : goal.invariant-loop-asked
invariant-loop-asked l = record {
  front : IsFront l.fn.machine.state l.machine.state l.batch l.first (take l.asked-index l.commands) l.replies.items;
  many : vec_len l.replies ≡ l.asked-index;
  first : l.first ≤ l.asked-index;
  capacity : vec_capacity l.replies ≡ vec_capacity l.fn.replies;
  goes_on : GoesOn l.fn.batch l.batch l.fn.past l.past;
}
