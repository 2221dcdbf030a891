use Rattle.std.proofs.Common.{◌≡◌, ◌<◌, ℕ, true, List, slice_get, Some}
use Rattle.hy_finite.specs.Traces.{Trace, judged}
use Rattle.tuple_walk.specs.Searches.{IsTupleOf}
use Rattle.tuple_walk.specs.Serving.{sought_of}
use Rattle.tuple_walk.specs.Walks.{rests_in}
use Rattle.tuple_walk.proofs.walk.Walk.stopped.Given as goal

abbrev pub invariant-loop-i : goal.invariant-loop-i
invariant-loop-i g l =
    let s = sought_of l.given in
    (k : ℕ) → k < l.i → (tuple : List Trace) → IsTupleOf (rests_in l.self l.places) tuple
    → slice_get s.marks k ≡ Some true → slice_get tuple k ≡ Some s.given.1
    → ¬ (judged l.self.lengths tuple ≡ 0)
