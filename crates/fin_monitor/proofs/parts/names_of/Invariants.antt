use Rattle.std.proofs.Common.{take, map}
use Rattle.hy_formula.specs.Atoms.{plain_atom}
use Rattle.fin_monitor.specs.Parts.{AreNamesOf}
use Rattle.fin_monitor.proofs.parts.names_of.Given as goal

abbrev pub invariant-loop-i : goal.invariant-loop-i
invariant-loop-i l = AreNamesOf l.names (map plain_atom (take l.i l.atoms)) l.var
