use Rattle.hy_formula.specs.Trees.{tree_of}
use Rattle.net_names.specs.Meanings.{AreBelow}
use Rattle.net_names.proofs.naming.signals_of.Given as goal

abbrev pub invariant-loop-k : goal.invariant-loop-k
invariant-loop-k l = AreBelow l.net l.names (tree_of l.body) l.k l.signals
