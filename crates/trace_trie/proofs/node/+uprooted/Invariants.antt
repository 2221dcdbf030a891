use Rattle.std.proofs.Common.{◌-◌, length}
use Rattle.trace_trie.proofs.node.+uprooted.Given as goal

abbrev pub decreases-uprooted : goal.decreases-uprooted
decreases-uprooted l = length l.trace.now - l.at
