use Rattle.dominance.proofs.telling.telling_names.Given as goal

abbrev pub ghosts-telling_on : goal.ghosts-telling_on
ghosts-telling_on a = record { name = a.blank.name; parts = a.blank.parts }
