use Rattle.trace_trie.specs.Cursors.{rests_at}
use Rattle.rv_core.specs.Held.{spec_of}
use Rattle.rv_core.specs.Seen.{watched}
use Rattle.rv_core.proofs.Looking.{IsDown}
use Rattle.rv_core.proofs.watch.Watch.holds.Given as goal

abbrev pub invariant-loop-letter : goal.invariant-loop-letter
invariant-loop-letter l =
    IsDown (spec_of (watched l.self)) l.trace l.kept l.letter-index (rests_at l.cursor)
