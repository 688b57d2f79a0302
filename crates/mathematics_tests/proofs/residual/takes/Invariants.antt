use Rattle.mathematics_tests.proofs.residual.takes.Given as goal

abbrev pub ghosts-takes_all : goal.ghosts-takes_all
ghosts-takes_all a = record { name = a.blank.name; parts = a.blank.parts }
