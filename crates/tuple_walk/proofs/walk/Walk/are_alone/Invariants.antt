use Rattle.std.proofs.Common.{take}
use Rattle.hy_formula.specs.Quantifiers.{Each}
use Rattle.tuple_walk.specs.Alone.{IsAlone}
use Rattle.tuple_walk.specs.Walks.{places_in}
use Rattle.tuple_walk.proofs.walk.Walk.are_alone.Given as goal

abbrev pub invariant-loop-i : goal.invariant-loop-i
invariant-loop-i g l = Each IsAlone (take l.i (places_in l.self l.places))
