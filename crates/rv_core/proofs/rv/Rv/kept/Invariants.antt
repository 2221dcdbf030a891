use Rattle.std.proofs.Common.{◌≡◌, ◌+◌, ◌≤◌, length}
use Rattle.trace_trie.specs.Numbered.{rest_from}
use Rattle.rv_core.proofs.rv.Rv.kept.Given as goal

-- how many are counted, and how many are left
abbrev pub invariant-loop-number : goal.invariant-loop-number
invariant-loop-number l = record {
  counted : l.count + length (rest_from l.from l.version) ≡ length l.version;
  few : l.count ≤ l.from;
}

abbrev pub decreases-loop-number : goal.decreases-loop-number
decreases-loop-number l = length (rest_from l.from l.version)
