use Rattle.std.proofs.Common.{◌≡◌, ◌-◌, ◌^◌, [], None}
use Rattle.command_types.specs.History.{end_of}
use Rattle.standby.specs.Following.{FollowsTo}
use Rattle.standby.specs.Ending.{SaysLines}
use Rattle.standby.proofs.follow.follow_over.Given as goal

abbrev pub invariant-loop-end : goal.invariant-loop-end
invariant-loop-end g l = record {
  runs : l.house.kept ≡ [];
  lines : SaysLines l.fn.house l.house (g.P.Peer.said l.fn.peer) (g.P.Peer.said l.peer) None;
  cut : g.P.Peer.cut l.peer ≡ g.P.Peer.cut l.fn.peer;
  start : g.P.Peer.start l.peer ≡ g.P.Peer.start l.fn.peer;
  holds : g.P.Peer.Holds l.fn.peer l.fn.source l.fn.sink → g.P.Peer.Holds l.peer l.source l.sink;
  follows : FollowsTo l.fn.house l.house (g.P.Peer.said l.fn.peer) (g.P.Peer.said l.peer) (g.P.Peer.heard l.fn.peer) (g.P.Peer.heard l.peer) None;
}

abbrev pub decreases-loop-end : goal.decreases-loop-end
decreases-loop-end g l = 2 ^ 63 - end_of l.house.history
