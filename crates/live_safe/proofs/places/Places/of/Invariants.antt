use Rattle.std.proofs.Common.{◌≡◌, nat_lt}
use Rattle.live_safe.specs.Safe.{count_below, free_at, set_at}
use Rattle.live_safe.proofs.places.Places.of.Given as goal

-- the latches so far are counted
abbrev pub invariant-loop-reset : goal.invariant-loop-reset
invariant-loop-reset l =
    (l.free ≡ count_below (free_at l.net) l.reset-index)
    × (l.has_begun ≡ nat_lt 0 (count_below (set_at l.net) l.reset-index))
