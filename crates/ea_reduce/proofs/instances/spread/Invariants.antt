use Rattle.std.proofs.Common.{◌≡◌, ◌∷◌, map}
use Rattle.std.specs.List.{flat_map, range_with_len}
use Rattle.ea_reduce.proofs.instances.spread.Given as goal

abbrev pub invariant-loop-k : goal.invariant-loop-k
invariant-loop-k l = l.maps ≡ flat_map (λ k. map (λ m. k ∷ m) l.rest) (range_with_len 0 l.k)
