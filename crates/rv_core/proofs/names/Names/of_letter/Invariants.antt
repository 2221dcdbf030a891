use Rattle.std.proofs.Common.{take}
use Rattle.rv_core.proofs.Naming.{AreFound}
use Rattle.rv_core.proofs.names.Names.of_letter.Given as goal

abbrev pub invariant-loop-name : goal.invariant-loop-name
invariant-loop-name l = AreFound l.letter (take l.name-index l.name-items) l.found
