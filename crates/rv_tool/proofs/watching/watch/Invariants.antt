use Rattle.rv_tool.proofs.watching.watch.Given as goal

abbrev pub ghosts-watch_on : goal.ghosts-watch_on
ghosts-watch_on a = record { name = a.blank.name; parts = a.blank.parts }
