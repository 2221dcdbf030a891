use Rattle.std.proofs.Common.{◌≡◌, List, length, take}
use Rattle.trace_trie.specs.Numbered.{Numbered}
use Rattle.tuple_walk.specs.Finds.{numbers_of}
use Rattle.tuple_walk.specs.Searches.{AreEnded}
use Rattle.tuple_walk.specs.Walks.{rests_in}
use Rattle.tuple_walk.proofs.walk.Walk.tuple_of.Given as goal

abbrev pub invariant-loop-i : goal.invariant-loop-i
invariant-loop-i g l = (length l.numbers ≡ 4)
    × ((ps : List Numbered) × AreEnded (take l.i (rests_in l.self l.places)) ps
    × (numbers_of ps ≡ take l.i l.numbers))
