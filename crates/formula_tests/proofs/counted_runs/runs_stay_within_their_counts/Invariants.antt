use Rattle.formula_tests.proofs.counted_runs.runs_stay_within_their_counts.Given as goal

abbrev pub ghosts-all-B-Ledger : goal.ghosts-all-B-Ledger
ghosts-all-B-Ledger g a = record { name = a.first.name; parts = a.first.parts }

abbrev pub ghosts-all-L-Ledger : goal.ghosts-all-L-Ledger
ghosts-all-L-Ledger g a = record { name = a.second.name; parts = a.second.parts }
