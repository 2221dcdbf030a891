use Rattle.std.proofs.Common.{◌≡◌, take}
use Rattle.dominance.specs.Choices.{word_of}
use Rattle.dominance.proofs.others.word.Given as goal

abbrev pub invariant-loop-k : goal.invariant-loop-k
invariant-loop-k l = l.word ≡ word_of l.rows (take l.k-index l.path) l.variable
