use Rattle.std.proofs.Common.{◌≡◌, ◌≤◌, ◌-◌}
use Rattle.record_pool.proofs.pages.Pages.make_room.Given as goal

abbrev pub invariant-loop-alloc : goal.invariant-loop-alloc
invariant-loop-alloc l = record {
  bytes : l.self.bytes ≡ l.fn.self.bytes;
  keeps : l.fn.self.room ≤ l.self.room;
}

abbrev pub decreases-loop-alloc : goal.decreases-loop-alloc
decreases-loop-alloc l = l.more - l.self.room
