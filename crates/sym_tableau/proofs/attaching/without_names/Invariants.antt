use Rattle.std.proofs.Common.{◌≡◌}
use Rattle.sym_tableau.specs.Oracles.{no_names}
use Rattle.sym_tableau.proofs.attaching.without_names.Given as goal

abbrev pub invariant-loop-i : goal.invariant-loop-i
invariant-loop-i l = l.made ≡ no_names l.i
