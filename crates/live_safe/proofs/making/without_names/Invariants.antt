use Rattle.std.proofs.Common.{◌≡◌}
use Rattle.live_safe.specs.Places.{no_names}
use Rattle.live_safe.proofs.making.without_names.Given as goal

abbrev pub invariant-loop-i : goal.invariant-loop-i
invariant-loop-i l = l.made ≡ no_names l.i
