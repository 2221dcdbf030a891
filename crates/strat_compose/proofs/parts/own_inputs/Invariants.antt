-- What `own_inputs` keeps on its way.
use Rattle.std.proofs.Common.{◌≡◌, suc, ◌*◌}
use Rattle.hy_base.specs.Rows.{listed}
use Rattle.strat_compose.proofs.parts.own_inputs.Given as goal

abbrev pub invariant-loop-i : goal.invariant-loop-i
invariant-loop-i l = l.made ≡ listed 0 l.i (λ i. 2 * suc i)
