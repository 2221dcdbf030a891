use Rattle.std.proofs.Common.{◌≡◌}
use Rattle.aig_net.specs.Nets.{literal_at}
use Rattle.sym_tableau.specs.Oracles.{gathered}
use Rattle.sym_tableau.specs.Places.{Adds, end_at}
use Rattle.sym_tableau.proofs.promises.add_ends.Given as goal

-- the fairness literals of the members so far are added
abbrev pub invariant-loop-k : goal.invariant-loop-k
invariant-loop-k l =
    Adds l.fn.gates.first l.fn.gates.ands
    (gathered (end_at l.closure.nodes (literal_at l.values)) l.k) l.gates.ands l.fn.fairs l.fairs
    × (l.gates.first ≡ l.fn.gates.first)
