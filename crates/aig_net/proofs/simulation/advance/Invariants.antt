use Rattle.std.proofs.Common.{◌≡◌, take}
use Rattle.aig_net.specs.Following.{values_of}
use Rattle.aig_net.proofs.simulation.advance.Given as goal

-- the first latches have what comes next
abbrev pub invariant-loop-j : goal.invariant-loop-j
invariant-loop-j l = take l.j l.latches ≡ values_of (take l.j l.nexts) l.values
