use Rattle.std.proofs.Common.{take}
use Rattle.ea_core.specs.Shown.{AreEntries}
use Rattle.ea_core.proofs.ranking.entries.Given as goal

abbrev pub invariant-loop-i : goal.invariant-loop-i
invariant-loop-i g l = AreEntries (take l.i l.tableau.branches.keys) l.ranks l.entries
