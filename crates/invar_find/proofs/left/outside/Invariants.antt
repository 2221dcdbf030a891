use Rattle.std.proofs.Common.{take}
use Rattle.invar_find.specs.Parts.{AreThose, IsOutside}
use Rattle.invar_find.proofs.left.outside.Given as goal

abbrev pub invariant-loop-fact : goal.invariant-loop-fact
invariant-loop-fact l =
    AreThose (IsOutside l.facts l.group) (take l.fact-index l.fact-items) l.left
