use Rattle.std.proofs.Common.{◌≤◌, ◌-◌, ◌^◌, length}
use Rattle.standby_wire.specs.Taking.{IsWaiting}
use Rattle.standby_wire.proofs.inbox.Inbox.wait.Given as goal

abbrev pub invariant-loop-reply : goal.invariant-loop-reply
invariant-loop-reply g l = record {
  waits : IsWaiting l.question l.fn.self l.self (g.S.Source.flow l.fn.source) (g.S.Source.flow l.source);
  never_falls : g.S.Source.faults l.fn.source ≤ g.S.Source.faults l.source;
}

abbrev pub decreases-loop-reply : goal.decreases-loop-reply
decreases-loop-reply g l = 2 ^ 64 - length l.self.bytes
