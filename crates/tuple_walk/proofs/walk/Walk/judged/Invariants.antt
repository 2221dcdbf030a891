use Rattle.std.proofs.Common.{◌≡◌, take}
use Rattle.hy_finite.specs.Traces.{judged}
use Rattle.tuple_walk.specs.Alone.{left_of}
use Rattle.tuple_walk.proofs.walk.Walk.judged.Given as goal

abbrev pub invariant-loop-i : goal.invariant-loop-i
invariant-loop-i g l = l.length ≡ judged l.self.lengths (take l.i (left_of l.rests))
