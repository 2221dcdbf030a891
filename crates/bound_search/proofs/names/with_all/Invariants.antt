use Rattle.std.proofs.Common.{◌≡◌, take}
use Rattle.bound_search.specs.Sheets.{with_all}
use Rattle.bound_search.proofs.names.with_all.Given as goal

abbrev pub invariant-loop-v : goal.invariant-loop-v
invariant-loop-v l = l.all ≡ with_all l.left (take l.v-index l.v-items)
