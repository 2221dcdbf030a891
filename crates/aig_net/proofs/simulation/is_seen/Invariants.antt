use Rattle.std.proofs.Common.{◌<◌, ℕ, IsTrue}
use Rattle.aig_net.specs.Nets.{literal_value}
use Rattle.hy_base.specs.Rows.{row}
use Rattle.aig_net.specs.Following.{row_at}
use Rattle.aig_net.proofs.simulation.is_seen.Given as goal

-- no row so far has the literal true
abbrev pub invariant-loop-values : goal.invariant-loop-values
invariant-loop-values l = (k : ℕ) → k < l.values-index →
    ¬ IsTrue (literal_value (row (row_at l.rows k)) l.literal)
