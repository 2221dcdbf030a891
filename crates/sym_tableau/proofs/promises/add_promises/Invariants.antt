use Rattle.std.proofs.Common.{◌≡◌}
use Rattle.aig_net.specs.Nets.{literal_at}
use Rattle.sym_tableau.specs.Oracles.{gathered, oracles_below}
use Rattle.sym_tableau.specs.Places.{Adds, promise_at}
use Rattle.sym_tableau.proofs.promises.add_promises.Given as goal

-- the constraints of the members so far are added
abbrev pub invariant-loop-k : goal.invariant-loop-k
invariant-loop-k l =
    Adds l.fn.gates.first l.fn.gates.ands
    (gathered (promise_at l.places l.closure.nodes (literal_at l.values)) l.k) l.gates.ands
    l.fn.constraints l.constraints
    × (l.o ≡ oracles_below l.closure.nodes l.k) × (l.gates.first ≡ l.fn.gates.first)
