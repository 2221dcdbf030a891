use Rattle.std.proofs.Common.{◌≡◌, drop}
use Rattle.trace_trie.specs.Numbered.{with_number}
use Rattle.trace_trie.proofs.bucket.Bucket.get.Given as goal

-- the number is not among those passed
abbrev pub invariant-loop-held : goal.invariant-loop-held
invariant-loop-held l = with_number l.number l.held-items ≡ with_number l.number (drop l.held-index l.held-items)
