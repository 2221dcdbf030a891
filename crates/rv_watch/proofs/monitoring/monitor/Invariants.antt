use Rattle.rv_watch.proofs.monitoring.monitor.Given as goal

abbrev pub ghosts-watch_on : goal.ghosts-watch_on
ghosts-watch_on g a = record { name = a.blank.name; parts = a.blank.parts }
