use Rattle.trace_trie.specs.Numbered.{letters_in}
use Rattle.trace_trie.specs.Kids.{spread}
use Rattle.trace_trie.proofs.forest.Forest.+plant.Given as goal

abbrev pub decreases-plant : goal.decreases-plant
decreases-plant l = letters_in (spread l.self.now)
