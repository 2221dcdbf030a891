use Rattle.invar_find.specs.Standing.{Spares}
use Rattle.invar_find.proofs.walking.Walker.show.Given as goal

abbrev pub invariant-loop-lane : goal.invariant-loop-lane
invariant-loop-lane l = Spares l.safe.net l.fn.seen l.seen
