use Rattle.std.proofs.Common.{◌≡◌, ◌≤◌, ◌-◌, take, length}
use Rattle.session.specs.AskedRun.{IsRunOf}
use Rattle.session.specs.Standing.{stand_of}
use Rattle.session.proofs.session.Session.gather.Given as goal

abbrev pub invariant-loop-end : goal.invariant-loop-end
invariant-loop-end g l = record {
  within : l.end ≤ length l.piece;
  stays : stand_of l.self ≡ stand_of l.fn.self;
  run : IsRunOf (g.C.Clock.tells l.clock) (stand_of l.fn.self) (take l.end l.piece) l.self.run.commands.items;
}

abbrev pub decreases-loop-end : goal.decreases-loop-end
decreases-loop-end g l = length l.piece - l.end
