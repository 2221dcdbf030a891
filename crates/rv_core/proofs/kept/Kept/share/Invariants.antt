use Rattle.std.proofs.Common.{◌≡◌, ◌++◌, take}
use Rattle.rv_core.proofs.kept.Kept.share.Given as goal

abbrev pub invariant-loop-version : goal.invariant-loop-version
invariant-loop-version l = l.kept ≡ l.initial.kept ++ take l.version-index l.version-items
