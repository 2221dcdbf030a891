use Rattle.std.proofs.Common.{◌≡◌, take}
use Rattle.trace_trie.specs.Numbered.{without_number}
use Rattle.trace_trie.proofs.bucket.Bucket.without.Given as goal

-- what is kept is kept of the front
abbrev pub invariant-loop-held : goal.invariant-loop-held
invariant-loop-held l = l.traces.items ≡ without_number l.number (take l.held-index l.held-items)
