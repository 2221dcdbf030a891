use Rattle.std.proofs.Common.{◌≡◌}
use Rattle.sym_tableau.specs.Oracles.{oracles_below}
use Rattle.sym_tableau.proofs.places.Places.of.Given as goal

-- the oracles of the members so far are counted
abbrev pub invariant-loop-k : goal.invariant-loop-k
invariant-loop-k l = l.oracles ≡ oracles_below l.closure.nodes l.k
