-- What `outputs` keeps on its way.
use Rattle.std.proofs.Common.{◌≡◌, map, take}
use Rattle.hy_formula.specs.Atoms.{plain_atom}
use Rattle.strat_compose.specs.Driving.{atom_literal, signal_of}
use Rattle.strat_compose.proofs.driving.outputs.Given as goal

-- the atoms so far
abbrev pub invariant-loop-atom : goal.invariant-loop-atom
invariant-loop-atom l =
    l.made ≡ map (atom_literal l.net l.parts (signal_of l.signals))
    (map plain_atom (take l.atom-index l.atoms))
