use Rattle.std.proofs.Common.{take}
use Rattle.sat_core.specs.Watches.{AllFalseBut}
use Rattle.sat_core.proofs.watches.search.Given as goal

abbrev pub invariant-loop-l : goal.invariant-loop-l
invariant-loop-l l = AllFalseBut l.partial.literals (take l.l-index l.part) l.other
