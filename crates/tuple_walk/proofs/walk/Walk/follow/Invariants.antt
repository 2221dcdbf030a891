use Rattle.std.proofs.Common.{◌≡◌, List, length, take}
use Rattle.trace_trie.specs.Numbered.{Numbered}
use Rattle.tuple_walk.specs.Alone.{left_of}
use Rattle.tuple_walk.specs.Finds.{traces_of}
use Rattle.tuple_walk.specs.Walks.{rests_in}
use Rattle.tuple_walk.proofs.Following.{ones}
use Rattle.tuple_walk.proofs.walk.Walk.follow.Given as goal

abbrev pub invariant-loop-i : goal.invariant-loop-i
invariant-loop-i g l = (length l.rests ≡ 4)
    × ((ps : List Numbered) × (take l.i (rests_in l.self l.places) ≡ ones ps)
    × (traces_of ps ≡ left_of (take l.i l.rests)))
