use Rattle.invar_find.proofs.Splitting.{IsJoining}
use Rattle.invar_find.proofs.classes.join.Given as goal

abbrev pub invariant-loop-k : goal.invariant-loop-k
invariant-loop-k l = IsJoining l.kept l.gone l.k l.fn.classes l.classes
