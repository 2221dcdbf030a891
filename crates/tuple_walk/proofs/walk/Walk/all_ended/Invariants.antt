use Rattle.std.proofs.Common.{◌<◌, ℕ, [], get_or}
use Rattle.tuple_walk.specs.Places.{HasEnded}
use Rattle.tuple_walk.specs.Walks.{rests_in}
use Rattle.tuple_walk.proofs.walk.Walk.all_ended.Given as goal

abbrev pub invariant-loop-i : goal.invariant-loop-i
invariant-loop-i g l = (k : ℕ) → k < l.i → HasEnded (get_or (rests_in l.self l.places) k [])
