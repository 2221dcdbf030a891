use Rattle.std.proofs.Common.{◌≡◌}
use Rattle.aig_net.specs.Nets.{literal_at}
use Rattle.sym_tableau.specs.Oracles.{gathered}
use Rattle.sym_tableau.specs.Places.{Adds, beginning_at}
use Rattle.sym_tableau.proofs.promises.add_beginnings.Given as goal

-- the constraints of the roots so far are added
abbrev pub invariant-loop-r : goal.invariant-loop-r
invariant-loop-r l =
    Adds l.fn.gates.first l.fn.gates.ands
    (gathered (beginning_at l.places (literal_at l.values) l.roots) l.r) l.gates.ands
    l.fn.constraints l.constraints
    × (l.gates.first ≡ l.fn.gates.first)
