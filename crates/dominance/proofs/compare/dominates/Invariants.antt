use Rattle.dominance.proofs.compare.dominates.Given as goal

abbrev pub ghosts-compare_on : goal.ghosts-compare_on
ghosts-compare_on a = record { name = a.blank.name; parts = a.blank.parts }
