-- Problems of networks, and what solves them.
use Rattle.std.proofs.Common.{◌≡◌, ◌∙◌, refl, ap, subst, ℕ, zero, suc, ◌<◌, List, [], ◌∷◌, length, get_or, arith}
use Rattle.network_laws.specs.Networks.{NetworkData}
use Rattle.network_laws.specs.Solutions.{ProblemData, SolutionData}
use Rattle.network_laws.specs.Solved.{IsSolved, AreSolved}
use Rattle.command_types.specs.declared.cycle.Mode.{Mode}
use Rattle.command_types.specs.Roster.{Rows}
use Rattle.trade_file.specs.declared.file_trade.FileTrade.{FileTrade}
use Rattle.trade_file.specs.Networks.{AreNetworksOf}
use Rattle.dual_certificate.specs.Writing.{SolveMembers}
use Rattle.file_market.specs.Solve.{problem_for, AreProblemsOf, AreSolutions}

-- a solution for each problem
solved_count : (problems : List ProblemData) (solutions : List SolutionData) → AreSolved problems solutions → length solutions ≡ length problems
solved_count [] [] s = refl
solved_count (p ∷ problems) (x ∷ solutions) s = ap suc (solved_count problems solutions s.1)
solved_count [] (x ∷ solutions) s = absurd s
solved_count (p ∷ problems) [] s = absurd s

solved_here : (problems : List ProblemData) (solutions : List SolutionData) (k : ℕ) (d : ProblemData) (e : SolutionData) → AreSolved problems solutions → k < length problems → IsSolved (get_or problems k d) (get_or solutions k e)
solved_here [] [] k d e s l = absurd (omega arith)
solved_here (p ∷ problems) (x ∷ solutions) zero d e s l = s.0
solved_here (p ∷ problems) (x ∷ solutions) (suc k) d e s l = solved_here problems solutions k d e s.1 (omega arith)
solved_here [] (x ∷ solutions) k d e s l = absurd s
solved_here (p ∷ problems) [] k d e s l = absurd s

-- what solves the problems of the networks is solutions of the market
pub solutions_of : (rows : Rows) (mode : Mode) (networks : List NetworkData) (problems : List ProblemData) (solutions : List SolutionData) → AreProblemsOf rows mode networks problems → AreSolved problems solutions → AreSolutions rows mode networks solutions
solutions_of rows mode networks problems solutions are solved = record {
  count = solved_count problems solutions solved ∙ are.count;
  each = λ k d e l.
      let x : ProblemData = problem_for rows mode k d in
      let within : k < length problems = omega (arith, are.count) in
      let here : IsSolved (problem_for rows mode k (get_or networks k d)) (get_or solutions k e) = subst (λ p. IsSolved p (get_or solutions k e)) (are.each k d x l) (solved_here problems solutions k x e solved within) in
      record { good = here.fits; solves = here.solves };
}

-- solutions of the market's networks are over the roster's members
pub solve_members : (rows : Rows) (mode : Mode) (trades : List FileTrade) (networks : List NetworkData) (solutions : List SolutionData)
    → AreNetworksOf rows trades networks → AreSolutions rows mode networks solutions → SolveMembers rows solutions
solve_members rows mode trades networks solutions market solved k e l =
    let empty : NetworkData = record { members = 0; rows = [] } in
    let in_networks : k < length networks = omega (arith, solved.count) in
    (solved.each k empty e in_networks).solves.certified.admissible.new_members ∙ (market.each k empty in_networks).members
