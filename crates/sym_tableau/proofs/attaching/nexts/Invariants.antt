use Rattle.std.proofs.Common.{◌≡◌, ◌∷◌, ◌++◌, map, take}
use Rattle.hy_base.specs.Rows.{listed}
use Rattle.sym_tableau.specs.Places.{moved_of, oracle_of}
use Rattle.sym_tableau.proofs.attaching.nexts.Given as goal

-- the oracles so far
abbrev pub invariant-loop-o : goal.invariant-loop-o
invariant-loop-o l = l.made ≡ listed 0 l.o (oracle_of l.places)

-- and the latches so far
abbrev pub invariant-loop-literal : goal.invariant-loop-literal
invariant-loop-literal l =
    l.made ≡ listed 0 l.places.oracles (oracle_of l.places) ++ 1 ∷ map (moved_of l.places)
    (take l.literal-index l.latches)
