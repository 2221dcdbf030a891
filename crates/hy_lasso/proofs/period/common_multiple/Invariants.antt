use Rattle.std.proofs.Common.{◌≡◌, ℕ, suc, ◌+◌, ◌-◌, ◌*◌, ◌≤◌}
use Rattle.hy_lasso.specs.Joint.{IsCommon, most_positions}
use Rattle.hy_lasso.proofs.period.common_multiple.Given as goal

-- a multiple of c that is past no common one
abbrev pub invariant-loop-multiple : goal.invariant-loop-multiple
invariant-loop-multiple l = ((k : ℕ) × (l.multiple ≡ suc k * l.c)) × ((d : ℕ) → IsCommon l.c l.n d → l.multiple ≤ d)

abbrev pub decreases-loop-multiple : goal.decreases-loop-multiple
decreases-loop-multiple l = most_positions + 1 - l.multiple
