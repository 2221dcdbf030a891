use Rattle.std.proofs.Common.{◌<◌, ℕ}
use Rattle.aig_net.specs.Nets.{ResetTo, reset_at}
use Rattle.hy_base.specs.Rows.{row}
use Rattle.aig_net.proofs.simulation.is_start.Given as goal

-- the latches so far may start so
abbrev pub invariant-loop-j : goal.invariant-loop-j
invariant-loop-j l = (k : ℕ) → k < l.j → ResetTo (reset_at l.resets k) (row l.values k)
