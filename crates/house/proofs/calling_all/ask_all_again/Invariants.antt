use Rattle.std.proofs.Common.{◌≡◌, ◌+◌, length, take, drop, vec_len, vec_capacity}
use Rattle.house.specs.Step.{AreToldAfterFault}
use Rattle.house.proofs.calling_all.ask_all_again.Given as goal

abbrev pub invariant-loop-asked : goal.invariant-loop-asked
invariant-loop-asked l = record {
  state : l.machine.state ≡ l.fn.machine.state;
  told : AreToldAfterFault l.fn.machine.state l.batch.size l.batch.at (take l.asked-index l.commands) (drop (length l.fn.replies.items) l.replies.items);
  same : take (length l.fn.replies.items) l.replies.items ≡ l.fn.replies.items;
  long : vec_len l.replies ≡ vec_len l.fn.replies + l.asked-index;
  capacity : vec_capacity l.replies ≡ vec_capacity l.fn.replies;
}
