use Rattle.std.proofs.Common.{◌-◌, length}
use Rattle.fair_search.proofs.Spreading.{IsSearched}
use Rattle.fair_search.proofs.path.path.Given as goal

abbrev pub invariant-loop-head : goal.invariant-loop-head
invariant-loop-head g l = IsSearched l.g l.from l.to l.initial.steps l.spread l.head l.steps

abbrev pub decreases-loop-head : goal.decreases-loop-head
decreases-loop-head g l = length l.g.nodes - l.head
