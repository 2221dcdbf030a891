use Rattle.std.proofs.Common.{map}
use Rattle.hy_formula.specs.Atoms.{plain_atom}
use Rattle.fin_monitor.specs.Parts.{AreParts}
use Rattle.fin_monitor.proofs.parts.parts_by_variable.Given as goal

abbrev pub invariant-loop-v : goal.invariant-loop-v
invariant-loop-v l = AreParts l.made (map plain_atom l.atoms) l.v
