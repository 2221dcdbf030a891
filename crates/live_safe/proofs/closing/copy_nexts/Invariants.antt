use Rattle.std.proofs.Common.{◌≡◌}
use Rattle.aig_net.specs.Wires.{MakesAll}
use Rattle.hy_base.specs.Rows.{listed}
use Rattle.live_safe.specs.Places.{copy_next_of}
use Rattle.live_safe.proofs.closing.copy_nexts.Given as goal

-- the values of the copies so far are made
abbrev pub invariant-loop-j : goal.invariant-loop-j
invariant-loop-j l =
    MakesAll l.fn.gates.first l.fn.gates.ands
    (listed 0 l.j (copy_next_of l.places l.grab l.values)) l.gates.ands l.nexts
    × (l.gates.first ≡ l.fn.gates.first)
