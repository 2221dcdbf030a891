use Rattle.std.proofs.Common.{◌≡◌, map, take}
use Rattle.aiger_read.proofs.read.resets.Given as goal

abbrev pub invariant-loop-latch : goal.invariant-loop-latch
invariant-loop-latch l = l.list ≡ map (λ x. x.reset) (take l.latch-index l.latches)
