-- What `universal_runs` keeps on its way.
use Rattle.std.proofs.Common.{◌≡◌}
use Rattle.hy_base.specs.Rows.{listed}
use Rattle.strat_compose.specs.Runs.{universal_run}
use Rattle.strat_compose.proofs.runs.universal_runs.Given as goal

abbrev pub invariant-loop-c : goal.invariant-loop-c
invariant-loop-c l = l.made ≡ listed 0 l.c (universal_run l.net l.m l.run)
