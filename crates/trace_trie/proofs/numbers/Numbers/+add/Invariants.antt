use Rattle.std.proofs.Common.{length}
use Rattle.trace_trie.proofs.numbers.Numbers.+add.Given as goal

abbrev pub decreases-add : goal.decreases-add
decreases-add l = length l.self.now
