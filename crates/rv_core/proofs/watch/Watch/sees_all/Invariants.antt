use Rattle.std.proofs.Common.{◌≡◌, take}
use Rattle.rv_core.specs.Held.{spec_of}
use Rattle.rv_core.specs.Masks.{masked}
use Rattle.rv_core.specs.Seen.{watched}
use Rattle.rv_core.proofs.watch.Watch.sees_all.Given as goal

abbrev pub invariant-loop-letter : goal.invariant-loop-letter
invariant-loop-letter l =
    masked (spec_of (watched l.self)) (take l.letter-index l.trace) ≡ take l.letter-index l.trace
