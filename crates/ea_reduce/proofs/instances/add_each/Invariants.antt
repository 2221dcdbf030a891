use Rattle.std.proofs.Common.{◌≡◌, ◌∷◌, ◌++◌, map, take}
use Rattle.ea_reduce.proofs.instances.add_each.Given as goal

abbrev pub invariant-loop-more : goal.invariant-loop-more
invariant-loop-more l = l.maps ≡ l.initial.maps ++ map (λ m. l.k ∷ m) (take l.more-index l.rest)
