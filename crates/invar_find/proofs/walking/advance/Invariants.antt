use Rattle.std.proofs.Common.{◌≡◌, ◌<◌, ℕ}
use Rattle.aig_net.specs.Nets.{literal_value, literal_at}
use Rattle.hy_base.specs.Rows.{row}
use Rattle.invar_find.proofs.walking.advance.Given as goal

-- the first latches have what comes next
abbrev pub invariant-loop-j : goal.invariant-loop-j
invariant-loop-j l = (j : ℕ) → j < l.j →
    row l.state j ≡ literal_value (row l.values) (literal_at l.nexts j)
