use Rattle.std.proofs.Common.{◌<◌, ℕ}
use Rattle.aig_net.specs.Nets.{literal_at}
use Rattle.aig_net.specs.Following.{IsSeen}
use Rattle.aig_net.proofs.simulation.are_seen.Given as goal

-- the literals so far are true somewhere
abbrev pub invariant-loop-literal : goal.invariant-loop-literal
invariant-loop-literal l = (j : ℕ) → j < l.literal-index → IsSeen l.rows (literal_at l.literals j)
