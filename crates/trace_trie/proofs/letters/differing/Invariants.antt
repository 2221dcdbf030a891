use Rattle.std.proofs.Common.{◌≡◌, ℕ, ◌<◌}
use Rattle.std.specs.FinSet.{contains}
use Rattle.trace_trie.proofs.letters.differing.Given as goal

abbrev pub invariant-loop-name : goal.invariant-loop-name
invariant-loop-name l = (k : ℕ) → k < l.name → contains l.a k ≡ contains l.b k
