use Rattle.std.proofs.Common.{length, ap, map, arith}
use Rattle.std.proofs.lemmas.List.{length-map}
use Rattle.hy_formula.specs.Atoms.{plain_atom}
use Rattle.fin_monitor.proofs.monitor.Monitor.atoms.Goals as goal

pub returns-clause-atoms : goal.returns-clause-atoms
returns-clause-atoms c = ap (map plain_atom) c.as_slice.ensures

pub returns-clause-few : goal.returns-clause-few
returns-clause-few c = omega (arith, c.args.self.now.right.few_atoms, length-map c.args.self.now.atoms plain_atom, ap length c.as_slice.ensures)
