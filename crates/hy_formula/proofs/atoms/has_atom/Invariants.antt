use Rattle.std.proofs.Common.{◌≡◌, false, take, map}
use Rattle.std.specs.List.{list_any}
use Rattle.hy_formula.specs.Atoms.{plain_atom, is_atom}
use Rattle.hy_formula.proofs.atoms.has_atom.Given as goal

abbrev pub invariant-loop-known : goal.invariant-loop-known
invariant-loop-known l = list_any (is_atom l.a.name l.a.var) (map plain_atom (take l.known-index l.atoms)) ≡ false
