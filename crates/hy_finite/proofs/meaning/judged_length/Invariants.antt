use Rattle.std.proofs.Common.{◌≡◌, ◌≤◌, take}
use Rattle.hy_finite.specs.Traces.{judged, picked}
use Rattle.hy_finite.proofs.meaning.judged_length.Given as goal

-- the judged length of those that stand before place i
abbrev pub invariant-loop-i : goal.invariant-loop-i
invariant-loop-i l =
    (l.judged ≡ judged l.lengths (picked l.list (take l.i l.pick))) × (1 ≤ l.judged) × (1 ≤ l.i)
