use Rattle.std.proofs.Common.{◌≡◌, take}
use Rattle.hy_lasso.specs.Printed.{printed_lassos}
use Rattle.hy_lasso.proofs.print.print_lassos.Given as goal

-- the lines of the front
abbrev pub invariant-loop-lasso : goal.invariant-loop-lasso
invariant-loop-lasso l = l.out ≡ printed_lassos l.names (take l.lasso-index l.lasso-items)
