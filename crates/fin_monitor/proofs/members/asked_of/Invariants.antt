use Rattle.fin_monitor.specs.Lefts.{IsAskedBelow}
use Rattle.fin_monitor.proofs.members.asked_of.Given as goal

abbrev pub invariant-loop-k : goal.invariant-loop-k
invariant-loop-k g l = IsAskedBelow l.masks l.d l.k l.mask
