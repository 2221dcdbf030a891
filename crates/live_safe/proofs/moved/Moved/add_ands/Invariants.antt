use Rattle.std.proofs.Common.{◌≡◌, ◌++◌, map, take}
use Rattle.live_safe.specs.Places.{moved_and}
use Rattle.live_safe.proofs.moved.Moved.add_ands.Given as goal

-- the ands so far are added
abbrev pub invariant-loop-gate : goal.invariant-loop-gate
invariant-loop-gate l =
    (l.gates.ands ≡ l.fn.gates.ands ++ map (moved_and l.self) (take l.gate-index l.ands))
    × (l.gates.first ≡ l.fn.gates.first)
