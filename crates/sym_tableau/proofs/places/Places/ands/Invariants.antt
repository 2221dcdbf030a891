use Rattle.std.proofs.Common.{◌≡◌, map, take}
use Rattle.sym_tableau.specs.Places.{moved_and_of}
use Rattle.sym_tableau.proofs.places.Places.ands.Given as goal

-- the ands so far are moved
abbrev pub invariant-loop-gate : goal.invariant-loop-gate
invariant-loop-gate l = l.made ≡ map (moved_and_of l.self) (take l.gate-index l.ands)
