use Rattle.std.proofs.Common.{◌≡◌, false, take, map}
use Rattle.std.specs.List.{list_any}
use Rattle.hy_formula.specs.Atoms.{plain_atom, is_atom}
use Rattle.fin_monitor.proofs.atoms.holds.Given as goal

abbrev pub invariant-loop-i : goal.invariant-loop-i
invariant-loop-i l = list_any (is_atom l.a.name l.a.var) (map plain_atom (take l.i l.atoms)) ≡ false
