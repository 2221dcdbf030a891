use Rattle.chain_check.specs.Clauses.{IsSubset}
use Rattle.sat_core.proofs.Forcing.{AreFound}
use Rattle.sat_core.proofs.solver.Solver.core_of.Given as goal

abbrev pub invariant-loop-m : goal.invariant-loop-m
invariant-loop-m l = record {
  within : IsSubset l.core l.assumptions;
  found : AreFound l.self l.seen l.assumptions l.m-index l.core;
}
