use Rattle.std.proofs.Common.{take}
use Rattle.fair_search.specs.Passing.{AreDone}
use Rattle.fair_search.proofs.component.settle.Given as goal

abbrev pub invariant-loop-v : goal.invariant-loop-v
invariant-loop-v l = AreDone (take l.v-index l.nodes) l.rank l.initial.places l.places
