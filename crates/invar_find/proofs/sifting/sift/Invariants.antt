use Rattle.invar_find.specs.Standing.{Spares}
use Rattle.invar_find.proofs.sifting.sift.Given as goal

abbrev pub invariant-loop-round : goal.invariant-loop-round
invariant-loop-round l = Spares l.safe.net l.fn.seen l.seen
