use Rattle.std.proofs.Common.{◌≡◌, take}
use Rattle.aig_net.proofs.GateLemmas.{RightBelow}
use Rattle.aig_net.proofs.gates.fill.Given as goal

-- the ands so far are right, and what stands before them is as it was
abbrev pub invariant-loop-i : goal.invariant-loop-i
invariant-loop-i l =
    RightBelow l.i l.first l.ands l.values
    × (take l.first l.values ≡ take l.first l.fn.values)
