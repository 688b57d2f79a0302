use Rattle.std.proofs.Common.{◌≡◌, ◌∙◌, length, get_or, [], ap, sym, subst}
use Rattle.network_laws.specs.Networks.{NetworkData}
use Rattle.network_laws.specs.Limits.{LimitsData}
use Rattle.network_laws.specs.Solutions.{ProblemData, Solves}
use Rattle.network_laws.specs.Solved.{IsSolved}
use Rattle.split_parts.specs.Own.{own_problem}
use Rattle.parallel_solver.proofs.Pieced.{more_parts, one_part}
use Rattle.parallel_solver.proofs.pieces.solve_piece.Goals as goal

pub returns-then-parts-eq1 : goal.returns-then-parts-eq1
returns-then-parts-eq1 g c =
    let problem = c.args.piece.problem.now in
    let parts = c.args.piece.partition.now.parts in
    let s = c.in_ok-solution.solution in
    let solves = subst (λ (y : NetworkData). Solves problem.limits y s) c.network-network.ensures.value (subst (λ (l : LimitsData). Solves l c.network-network.result.now s) c.limits-limits.ensures.value c.in_ok-solution.ensures) in
    let one : length parts ≡ 1 = ap length (sym c.parts.ensures) ∙ c.if-parts-eq1.true in
    subst (λ (p : ProblemData). IsSolved p s) (sym (one_part problem parts c.args.piece.at one)) (record { fits = c.potentials-potentials.ensures.solution; solves = solves })

pub returns : goal.returns
returns g c =
    let problem = c.args.piece.problem.now in
    let parts = c.args.piece.partition.now.parts in
    let at = c.args.piece.at in
    let s = c.in_ok-solution-2.solution in
    let solves = subst (λ (y : NetworkData). Solves c.in_ok-own.own.limits y s) c.network.ensures.value (subst (λ (l : LimitsData). Solves l c.network.result.now s) c.limits.ensures.value c.in_ok-solution-2.ensures) in
    let own : c.in_ok-own.own ≡ own_problem problem.limits problem.network (get_or parts at []) =
    c.in_ok-own.ensures ∙ ap (λ l. own_problem l c.network-network.result.now (get_or parts at [])) c.limits-limits.ensures.value ∙ ap (λ y. own_problem problem.limits y (get_or parts at [])) c.network-network.ensures.value in
    subst (λ (p : ProblemData). IsSolved p s) (own ∙ sym (more_parts problem parts at (λ one. c.if-parts-eq1.false (ap length c.parts.ensures ∙ one))))
    (record { fits = c.potentials-potentials-2.ensures.solution; solves = solves })
