use Rattle.std.proofs.Common.{◌≡◌, [], replicate}
use Rattle.rv_core.proofs.kept.Kept.none.Given as goal

abbrev pub invariant-loop-spec : goal.invariant-loop-spec
invariant-loop-spec l = l.kept ≡ replicate l._spec []
