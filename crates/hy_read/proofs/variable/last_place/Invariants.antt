use Rattle.std.proofs.Common.{◌≡◌, map, take}
use Rattle.hy_read.specs.Results.{last_place_of}
use Rattle.hy_read.proofs.variable.last_place.Given as goal

-- the last place among those before
abbrev pub invariant-loop-i : goal.invariant-loop-i
invariant-loop-i l = l.last ≡ last_place_of l.bound (map (λ v. v.now) (take l.i l.variables))
