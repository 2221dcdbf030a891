use Rattle.std.proofs.Common.{◌≡◌}
use Rattle.std.specs.List.{filter, range_with_len}
use Rattle.std.specs.FinSet.{contains}
use Rattle.ea_core.proofs.ranking.members.Given as goal

abbrev pub invariant-loop-k : goal.invariant-loop-k
invariant-loop-k g l = l.list ≡ filter (contains l.set) (range_with_len 0 l.k)
