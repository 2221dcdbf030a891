use Rattle.dominance.proofs.symmetry.symmetric.Given as goal

abbrev pub ghosts-symmetric_on : goal.ghosts-symmetric_on
ghosts-symmetric_on a = record { name = a.blank.name; parts = a.blank.parts }
