-- the counter is over the ledger of the blank that it is made from
use Rattle.lab.proofs.search.run.Given as goal

abbrev pub ghosts-report : goal.ghosts-report
ghosts-report a = record { name = a.blank.name; parts = a.blank.parts }
