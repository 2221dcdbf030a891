use Rattle.ltl_tableau.proofs.collect.all_members.Given as goal

abbrev pub decreases-loop-k : goal.decreases-loop-k
decreases-loop-k l = l.k
