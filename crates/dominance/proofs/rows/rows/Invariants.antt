use Rattle.std.proofs.Common.{map, take}
use Rattle.hy_formula.specs.Atoms.{plain_atom}
use Rattle.dominance.specs.Choices.{AreRows}
use Rattle.dominance.proofs.rows.rows.Given as goal

abbrev pub invariant-loop-a : goal.invariant-loop-a
invariant-loop-a l = AreRows (map plain_atom (take l.a-index l.a-items)) l.place l.rows
