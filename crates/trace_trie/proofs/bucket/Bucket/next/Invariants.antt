use Rattle.std.proofs.Common.{◌≡◌, drop}
use Rattle.trace_trie.specs.Numbered.{rest_from}
use Rattle.trace_trie.proofs.bucket.Bucket.next.Given as goal

-- each number passed is below the first one wanted
abbrev pub invariant-loop-held : goal.invariant-loop-held
invariant-loop-held l = rest_from l.from l.held-items ≡ rest_from l.from (drop l.held-index l.held-items)
