use Rattle.std.proofs.Common.{take}
use Rattle.std.specs.Prelude.{Contains}
use Rattle.invar_find.proofs.left.is_among.Given as goal

-- none so far is the fact
abbrev pub invariant-loop-other : goal.invariant-loop-other
invariant-loop-other l = ¬ Contains (take l.other-index l.facts) l.fact
