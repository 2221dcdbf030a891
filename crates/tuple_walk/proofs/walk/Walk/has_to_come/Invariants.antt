use Rattle.std.proofs.Common.{◌≢◌, ◌<◌, ℕ}
use Rattle.tuple_walk.specs.Serving.{sought_of, MayServe}
use Rattle.tuple_walk.specs.Walks.{places_in}
use Rattle.tuple_walk.proofs.walk.Walk.has_to_come.Given as goal

abbrev pub invariant-loop-j : goal.invariant-loop-j
invariant-loop-j g l =
    (k : ℕ) → k < l.j → k ≢ l.i → ¬ MayServe (sought_of l.given) (places_in l.self l.places) k
