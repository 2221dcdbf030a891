use Rattle.rv_core.proofs.Naming.{AreListedBelow}
use Rattle.rv_core.proofs.names.Names.of.Given as goal

abbrev pub invariant-loop-name : goal.invariant-loop-name
invariant-loop-name l = AreListedBelow l.each.items l.all l.name
