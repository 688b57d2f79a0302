use Rattle.std.proofs.Common.{◌-◌, ◌+◌, ◌*◌, sum}
use Rattle.path_solver.specs.Phases.{IsPhase}
use Rattle.path_solver.specs.Works.{IsWork, IsSearched}
use Rattle.path_solver.specs.Rests.{HaveSome}
use Rattle.path_solver.specs.Groups.{AreSortedIn}
use Rattle.path_solver.proofs.Counted.{AreCounted}
use Rattle.path_solver.proofs.phases.settle_phases.Given as goal

abbrev pub invariant-phases : goal.invariant-phases
invariant-phases g l = record {
  phase : IsPhase l.initial.work.residual l.work.residual l.initial.work.balance.surplus.items l.initial.work.balance.lack.items l.work.balance.surplus.items l.work.balance.lack.items l.prices.by_member.items l.prices.top;
  counted : AreCounted l.initial.steps l.steps l.initial.work.residual l.work.residual l.prices.by_member.items l.work.balance.surplus.items l.work.balance.lack.items l.prices.top;
  work : IsWork l.work;
  sorted : AreSortedIn l.work.residual.members l.prices;
  senders : HaveSome l.work.balance.surplus.items l.senders;
  receivers : HaveSome l.work.balance.lack.items l.receivers;
  searched : IsSearched l.work l.prices.by_member.items l.levels l.layers l.search;
}

abbrev pub decreases-phases : goal.decreases-phases
decreases-phases g l = sum l.work.balance.surplus.items * 512 + (512 - l.prices.top)
