use Rattle.std.proofs.Common.{take}
use Rattle.sat_core.proofs.Analysing.{IsMarking}
use Rattle.sat_core.proofs.solver.Solver.mark.Given as goal

abbrev pub invariant-loop-l : goal.invariant-loop-l
invariant-loop-l l = IsMarking l.self.partial.literals l.start l.p l.initial.analysis
    (take l.l-index l.l-items) l.analysis
