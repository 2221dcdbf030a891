use Rattle.std.specs.List.{All}
use Rattle.ic3_search.specs.LatchClauses.{IsLatchFact}
use Rattle.ic3_search.proofs.clauses.clauses_of.Given as goal

abbrev pub invariant-loop-cube : goal.invariant-loop-cube
invariant-loop-cube l = All (IsLatchFact l.latches) l.clauses
