use Rattle.std.proofs.Common.{[], length}
use Rattle.sat_core.specs.Analyses.{IsAnalysis, IsRefuting}
use Rattle.sat_core.proofs.solver.Solver.analyze.Given as goal

abbrev pub invariant-loop-p : goal.invariant-loop-p
invariant-loop-p l =
    IsAnalysis l.self.partial.literals l.start l.p l.analysis.seen
    (length l.analysis.lower.items) l.analysis.unsettled ×
    IsRefuting l.self.clauses l.self.partial.literals l.p [] l.analysis.seen
    l.analysis.chain.items

abbrev pub decreases-loop-p : goal.decreases-loop-p
decreases-loop-p l = l.p
