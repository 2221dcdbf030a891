use Rattle.std.proofs.Common.{◌≡◌, ◌∷◌, ◌++◌, take}
use Rattle.aig_net.specs.declared.parts.Reset.TheVariants.{Zero}
use Rattle.hy_base.specs.Rows.{listed}
use Rattle.sym_tableau.proofs.attaching.resets.Given as goal

-- the oracles so far
abbrev pub invariant-loop-o : goal.invariant-loop-o
invariant-loop-o l = l.made ≡ listed 0 l.o (λ _. Zero)

-- and the latches so far
abbrev pub invariant-loop-reset : goal.invariant-loop-reset
invariant-loop-reset l =
    l.made ≡ listed 0 l.places.oracles (λ _. Zero) ++ Zero ∷ take l.reset-index l.resets
