use Rattle.std.proofs.Common.{◌≡◌}
use Rattle.hy_base.specs.Rows.{listed}
use Rattle.wit_lasso.specs.PathParts.{own_run}
use Rattle.wit_lasso.proofs.unfolding.runs_of.Given as goal

abbrev pub invariant-loop-c : goal.invariant-loop-c
invariant-loop-c l = l.runs ≡ listed 0 l.c (own_run l.net l.n l.place l.rows l.start)
