use Rattle.invar_find.specs.Classes.{AreOwn}
use Rattle.invar_find.proofs.classes.own_classes.Given as goal

abbrev pub invariant-loop-j : goal.invariant-loop-j
invariant-loop-j l = AreOwn l.j l.classes
