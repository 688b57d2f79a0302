use Rattle.mathematics_tests.proofs.counted.gross_of.Given as goal

abbrev pub ghosts-found_counting : goal.ghosts-found_counting
ghosts-found_counting a = record { name = a.blank.name; parts = a.blank.parts }
