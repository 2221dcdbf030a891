use Rattle.ltl_tableau.proofs.Skipping.{SkipsBelow}
use Rattle.ltl_tableau.proofs.skips.Skips.new.Given as goal

abbrev pub invariant-loop-k : goal.invariant-loop-k
invariant-loop-k g l = SkipsBelow l.c.nodes l.held l.k l.to l.last
