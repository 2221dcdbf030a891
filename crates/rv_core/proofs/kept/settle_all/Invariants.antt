use Rattle.std.proofs.Common.{◌≡◌}
use Rattle.rv_core.proofs.kept.settle_all.Given as goal

abbrev pub invariant-loop-version : goal.invariant-loop-version
invariant-loop-version l = l.version-items ≡ l.fn.versions.items
