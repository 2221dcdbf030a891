use Rattle.std.proofs.Common.{◌≡◌}
use Rattle.sym_tableau.specs.Oracles.{oracles_below}
use Rattle.sym_tableau.specs.Places.{MakesEach, value_of}
use Rattle.sym_tableau.proofs.values.member_values.Given as goal

-- the values of the members so far are made
abbrev pub invariant-loop-k : goal.invariant-loop-k
invariant-loop-k l =
    MakesEach l.fn.gates.first l.fn.gates.ands
    (value_of l.places l.closure.nodes l.signals) l.k l.gates.ands l.values
    × (l.o ≡ oracles_below l.closure.nodes l.k) × (l.gates.first ≡ l.fn.gates.first)
