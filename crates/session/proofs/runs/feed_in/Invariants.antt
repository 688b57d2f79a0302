use Rattle.std.proofs.Common.{◌≤◌, ◌-◌, take, length}
use Rattle.session.specs.Runs.{HasNoFeed}
use Rattle.session.proofs.runs.feed_in.Given as goal

abbrev pub invariant-loop-at : goal.invariant-loop-at
invariant-loop-at l = record {
  within : l.at ≤ length l.bytes;
  none : HasNoFeed (take l.at l.bytes);
}

abbrev pub decreases-loop-at : goal.decreases-loop-at
decreases-loop-at l = length l.bytes - l.at
