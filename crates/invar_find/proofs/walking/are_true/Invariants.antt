use Rattle.std.proofs.Common.{◌<◌, ℕ, IsTrue}
use Rattle.aig_net.specs.Nets.{literal_value, literal_at}
use Rattle.hy_base.specs.Rows.{row}
use Rattle.invar_find.proofs.walking.are_true.Given as goal

-- the literals so far are true
abbrev pub invariant-loop-literal : goal.invariant-loop-literal
invariant-loop-literal l = (j : ℕ) → j < l.literal-index →
    IsTrue (literal_value (row l.values) (literal_at l.literals j))
