-- How many paths there are in all.
use Rattle.std.proofs.Common.{◌≡◌, ℕ, ◌+◌, ◌*◌, ◌<◌, ◌≤◌, List, length, get_or, arith, mul-le-mul_right}
use Rattle.residual_graph.specs.Residual.{ResidualData, IsResidual}
use Rattle.path_solver.specs.Levels.{AreLevels}
use Rattle.path_solver.specs.Paths.{NoneIsShorter}
use Rattle.path_solver.specs.Counts.{left_to_do, round_steps, phase_steps, path_steps}
use Rattle.path_solver.proofs.Measured.{most_to_do}
use Rattle.path_solver.proofs.Blocked.{deep_source}

-- with V members and E arcs: a round over deeper levels
round_more : (steps start before e top depth deeper : ℕ) → before ≤ start + top + depth * e → steps ≤ before + e → depth + 1 ≤ deeper → steps ≤ start + top + deeper * e
round_more steps start before e top depth deeper was now deep =
    let le = mul-le-mul_right e deep in
    omega (arith, was, now, le)

-- a phase is done
phase_more : (steps start v e top higher depth : ℕ) → steps ≤ start + top * (v * e) + depth * e → depth ≤ v → top + 1 ≤ higher → steps ≤ start + higher * (v * e)
phase_more steps start v e top higher depth was deep high =
    let rounds = mul-le-mul_right e deep in
    let phases = mul-le-mul_right (v * e) high in
    omega (arith, was, rounds, phases)

-- in this phase no path is shorter than the depth; so many rounds were in it at the most
pub record AreCounted (start steps : ℕ) (old new : ResidualData) (p surplus lack : List ℕ) (top : ℕ) : Type 0 where
  pub depth : ℕ
  pub shortest : NoneIsShorter new.flows p surplus lack depth
  pub few : depth ≤ old.members + 2
  pub within : steps ≤ start + top * phase_steps old + depth * round_steps old

pub counted_none : {start : ℕ} {old new : ResidualData} {p surplus lack : List ℕ} {top : ℕ} → AreCounted start start old new p surplus lack top
counted_none {start} {old} {new} {p} {surplus} {lack} {top} = record {
  depth = 0;
  shortest = λ v w arcs sends receives walk opens. omega arith;
  few = omega arith;
  within = omega arith;
}

pub counted_round : {start before steps : ℕ} {old mid new : ResidualData} {p surplus lack surplus' lack' levels : List ℕ} {top : ℕ} (s : ℕ) → AreCounted start before old mid p surplus lack top → IsResidual mid → mid.members ≡ old.members → length mid.flows ≡ length old.flows → mid.members ≡ length levels → length surplus ≡ old.members → length lack ≡ old.members
    → AreLevels mid.flows p lack levels → s < mid.members → 0 < get_or surplus s 0 → get_or levels s 0 ≤ mid.members
    → steps + left_to_do levels new.flows surplus' lack' ≤ before + left_to_do levels mid.flows surplus lack → NoneIsShorter new.flows p surplus' lack' (get_or levels s 0 + 1) → AreCounted start steps old new p surplus' lack' top
counted_round {start} {before} {steps} {old} {mid} {new} {p} {surplus} {lack} {surplus'} {lack'} {levels} {top} s h residual members pairs one_each in_s in_l are l sends low fewer deeper =
    let deep = deep_source mid p surplus lack levels h.depth s residual one_each are h.shortest l sends (omega (arith, low, residual.few)) in
    let most = most_to_do levels mid.flows surplus lack old.members in_s in_l in
    record {
      depth = get_or levels s 0 + 1;
      shortest = deeper;
      few = omega (arith, low, members);
      within = round_more steps start before (round_steps old) (top * phase_steps old) h.depth (get_or levels s 0 + 1) h.within (omega (arith, fewer, most, pairs)) (omega (arith, deep));
    }

pub counted_phase : {start steps : ℕ} {old new : ResidualData} {p p' surplus lack : List ℕ} {top higher : ℕ} → AreCounted start steps old new p surplus lack top → top + 1 ≤ higher → AreCounted start steps old new p' surplus lack higher
counted_phase {start} {steps} {old} {new} {p} {p'} {surplus} {lack} {top} {higher} h high =
    let all = phase_more steps start (old.members + 2) (round_steps old) top higher h.depth h.within h.few high in
    record {
      depth = 0;
      shortest = λ v w arcs sends receives walk opens. omega arith;
      few = omega arith;
      within = omega (arith, all);
    }

-- all phases are done
pub counted_all : {start steps : ℕ} {old new : ResidualData} {p surplus lack : List ℕ} {top : ℕ} → AreCounted start steps old new p surplus lack top → top ≤ old.members → steps ≤ start + path_steps old
counted_all {start} {steps} {old} {new} {p} {surplus} {lack} {top} h high =
    phase_more steps start (old.members + 2) (round_steps old) top (old.members + 1) h.depth h.within h.few (omega (arith, high))
