use Rattle.std.proofs.Common.{◌≡◌, take, map}
use Rattle.fair_search.specs.Passing.{rank_at}
use Rattle.fair_search.proofs.pass.Pass.into_ranks.Given as goal

abbrev pub invariant-loop-place : goal.invariant-loop-place
invariant-loop-place l = l.ranks ≡ map rank_at (take l.place-index l.place-items)
