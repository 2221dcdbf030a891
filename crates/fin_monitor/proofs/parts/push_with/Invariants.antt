use Rattle.std.proofs.Common.{◌≡◌, ◌+◌, ◌++◌, map, take}
use Rattle.fin_monitor.proofs.parts.push_with.Given as goal

abbrev pub invariant-loop-i : goal.invariant-loop-i
invariant-loop-i l = l.parts ≡ l.initial.parts ++ map (λ part. part + l.bits) (take l.i l.initial.parts)
