use Rattle.std.proofs.Common.{◌≡◌}
use Rattle.aig_net.specs.Wires.{MakesAll}
use Rattle.hy_base.specs.Rows.{listed}
use Rattle.live_safe.specs.Places.{effective_of, free_before}
use Rattle.live_safe.proofs.effective.effective_values.Given as goal

-- the values of the latches so far are made
abbrev pub invariant-loop-j : goal.invariant-loop-j
invariant-loop-j l =
    MakesAll l.fn.gates.first l.fn.gates.ands (listed 0 l.j (effective_of l.places l.resets))
    l.gates.ands l.values
    × (l.free ≡ free_before l.resets l.j) × (l.gates.first ≡ l.fn.gates.first)
