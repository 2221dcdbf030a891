use Rattle.ea_core.proofs.solve.walk_or_ranks.Given as goal

abbrev pub ghosts-search_on : goal.ghosts-search_on
ghosts-search_on a = record { name = a.blank.name; parts = a.blank.parts }
