use Rattle.std.proofs.Common.{◌≡◌, ◌++◌, ◌∷◌, take, decimal}
use Rattle.std.specs.List.{flat_map}
use Rattle.cnf_frames.proofs.printing.push_literals.Given as goal

abbrev pub invariant-loop-l : goal.invariant-loop-l
invariant-loop-l l =
    l.text ≡ l.initial.text ++ flat_map (λ x. 32 ∷ decimal x) (take l.l-index l.literals)
