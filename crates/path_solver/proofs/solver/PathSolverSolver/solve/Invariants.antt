use Rattle.path_solver.proofs.solver.PathSolverSolver.solve.Given as goal

abbrev pub ghosts-solve_apart : goal.ghosts-solve_apart
ghosts-solve_apart a = record { name = a.blank.name; parts = a.blank.parts }
