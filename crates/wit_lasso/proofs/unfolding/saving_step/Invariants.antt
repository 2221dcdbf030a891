use Rattle.std.proofs.Common.{◌≡◌, ℕ, ◌<◌, false}
use Rattle.hy_base.specs.Rows.{row}
use Rattle.aig_net.specs.Following.{row_at}
use Rattle.wit_lasso.proofs.unfolding.saving_step.Given as goal

abbrev pub invariant-loop-i : goal.invariant-loop-i
invariant-loop-i l = (i : ℕ) → i < l.i → row (row_at l.rows i) l.place ≡ false
