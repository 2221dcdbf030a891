use Rattle.std.proofs.Common.{◌≡◌}
use Rattle.aig_net.specs.Copies.{own_values}
use Rattle.aig_net.proofs.copies.own_row.Given as goal

abbrev pub invariant-loop-j : goal.invariant-loop-j
invariant-loop-j l = l.made ≡ own_values l.j l.n l.c l.values
