use Rattle.std.proofs.Common.{◌≡◌, ◌+◌, ◌<◌, length, get_or}
use Rattle.std.specs.declared.alloc.Global.{Global}
use Rattle.std.specs.declared.vec.Vec.{Vec}
use Rattle.cycle_cancel.specs.declared.round.Step.{Step}
use Rattle.cycle_cancel.specs.Rounds.{IsLevel}
use Rattle.cycle_cancel.specs.Traces.{IsTable}
use Rattle.cycle_cancel.proofs.search.search.Given as goal

abbrev pub invariant-loop-level : goal.invariant-loop-level
invariant-loop-level l = record {
  counted : length l.levels.items ≡ l.level + 1;
  table : IsTable l.least l.residual.flows l.residual.members l.levels.items;
  level : (d : Vec Step Global) → IsLevel l.level (get_or l.levels.items l.level d).items;
  few : 0 < l.level → l.level < l.residual.members;
}
