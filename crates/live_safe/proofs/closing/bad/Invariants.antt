use Rattle.std.proofs.Common.{◌≡◌, ◌++◌}
use Rattle.aig_net.specs.Wires.{Makes, all_of, literal}
use Rattle.hy_base.specs.Rows.{listed}
use Rattle.live_safe.specs.Places.{saved_of, same_of, seen_of}
use Rattle.live_safe.proofs.closing.bad.Given as goal

-- the conjunction so far is made
abbrev pub invariant-loop-j : goal.invariant-loop-j
invariant-loop-j l =
    Makes l.fn.gates.first l.fn.gates.ands
    (all_of (literal (saved_of l.places)) (listed 0 l.j (λ j. literal (seen_of l.places j))))
    l.gates.ands l.all
    × (l.gates.first ≡ l.fn.gates.first)

abbrev pub invariant-loop-j-2 : goal.invariant-loop-j-2
invariant-loop-j-2 l =
    Makes l.fn.gates.first l.fn.gates.ands
    (all_of (literal (saved_of l.places))
    (listed 0 l.places.fairs (λ j. literal (seen_of l.places j))
    ++ listed 0 l.j (same_of l.places))) l.gates.ands l.all
    × (l.gates.first ≡ l.fn.gates.first)
