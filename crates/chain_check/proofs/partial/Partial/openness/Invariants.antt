use Rattle.std.proofs.Common.{take}
use Rattle.chain_check.specs.Opens.{IsOpenness}
use Rattle.chain_check.proofs.partial.Partial.openness.Given as goal

abbrev pub invariant-loop-l : goal.invariant-loop-l
invariant-loop-l l = IsOpenness l.self.literals (take l.l-index l.clause) l.open
