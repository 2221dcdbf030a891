use Rattle.std.proofs.Common.{◌≡◌, replicate}
use Rattle.hy_lasso.proofs.row.constant.Given as goal

abbrev pub invariant-loop-place : goal.invariant-loop-place
invariant-loop-place l = l.row ≡ replicate l._place l.value
