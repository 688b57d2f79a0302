use Rattle.std.proofs.Common.{◌≡◌, ℕ, true, ◌<◌, ◌≤◌, ◌-◌, get_or}
use Rattle.member_set.specs.Members.{has}
use Rattle.path_solver.specs.Groups.{AreSortedIn}
use Rattle.path_solver.specs.Levels.{IsReached}
use Rattle.path_solver.specs.Searches.{AreEntered}
use Rattle.path_solver.specs.Works.{ArePhased}
use Rattle.path_solver.proofs.prices.Prices.next_phase.Given as goal

abbrev pub invariant-raises : goal.invariant-raises
invariant-raises l = record {
  phase : ArePhased l.work l.self;
  entered : AreEntered l.work.residual.flows l.self.by_member.items l.levels l.entered;
  inside : (v : ℕ) → has l.entered v ≡ true → has l.search.seen v ≡ true;
  later : (v : ℕ) → has l.entered v ≡ true → l.fn.self.top < l.self.top;
  kept : (v : ℕ) → v < l.work.residual.members → IsReached l.levels v → get_or l.self.by_member.items v 0 ≡ get_or l.initial.self.by_member.items v 0;
  sorted : AreSortedIn l.work.residual.members l.self;
  up : l.fn.self.top ≤ l.self.top;
}

abbrev pub decreases-raises : goal.decreases-raises
decreases-raises l = 512 - l.self.top
