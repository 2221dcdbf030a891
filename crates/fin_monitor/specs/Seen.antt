-- A monitor as contracts see it.
use Rattle.std.specs.Prelude.{map}
use Rattle.hy_formula.specs.Trees.{tree_of}
use Rattle.fin_monitor.specs.declared.monitor.Monitor.{Monitor}
use Rattle.hy_formula.specs.Atoms.{plain_atom}
use Rattle.fin_monitor.specs.Machines.{Machine}

abbrev pub machine_of : Monitor → Machine
machine_of m =
    record { body = tree_of m.body; variables = m.vars; atoms = map plain_atom m.atoms; table = m.table; accepting = m.accepting }
