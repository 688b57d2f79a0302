use Rattle.std.proofs.Common.{◌≡◌, ℕ, ◌<◌, ◌≤◌, get_or}
use Rattle.path_solver.specs.Phases.{raised_price}
use Rattle.path_solver.proofs.prices.Prices.raise.Given as goal

abbrev pub invariant-loop-member : goal.invariant-loop-member
invariant-loop-member l = record {
  done : (v : ℕ) → v < l.member → get_or l.prices v 0 ≡ raised_price l.levels l.initial.prices v;
  later : (v : ℕ) → l.member ≤ v → get_or l.prices v 0 ≡ get_or l.initial.prices v 0;
}
