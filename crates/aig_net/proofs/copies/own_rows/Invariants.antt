use Rattle.std.proofs.Common.{◌≡◌, map, take}
use Rattle.aig_net.specs.Copies.{own_values}
use Rattle.aig_net.proofs.copies.own_rows.Given as goal

abbrev pub invariant-loop-values : goal.invariant-loop-values
invariant-loop-values l = l.made ≡ map (own_values l.many l.n l.c) (take l.values-index l.rows)
