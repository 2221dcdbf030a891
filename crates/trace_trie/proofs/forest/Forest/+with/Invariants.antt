use Rattle.std.proofs.Common.{◌-◌, length}
use Rattle.trace_trie.proofs.forest.Forest.+with.Given as goal

abbrev pub decreases-with : goal.decreases-with
decreases-with l = length l.trace.now.value - l.at
