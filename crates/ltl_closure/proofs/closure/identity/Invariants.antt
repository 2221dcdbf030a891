use Rattle.ltl_closure.specs.Jobs.{IsIdentity}
use Rattle.ltl_closure.proofs.closure.identity.Given as goal

abbrev pub invariant-loop-variable : goal.invariant-loop-variable
invariant-loop-variable l = IsIdentity l.map l.variable
