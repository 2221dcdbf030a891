use Rattle.sat_core.proofs.Resolving.{analysis-none, conflict-refutes}
use Rattle.std.proofs.Common.{length, ap, ◌∙◌}
use Rattle.sat_core.proofs.solver.Solver.conflict.Goals as goal

pub mark-requires-clause-is : goal.mark-requires-clause-is
mark-requires-clause-is c =
    analysis-none c.args.self.now.partial.literals c.args.start c.len-len.result
    c.begin.new.self.seen (length c.begin.new.self.lower.items) c.begin.new.self.unsettled
    c.len-len.ensures c.in_ok-begin.ensures.room c.in_ok-begin.ensures.none
    (ap length c.in_ok-begin.ensures.lower) c.in_ok-begin.ensures.unsettled

pub returns-clause-refuting : goal.returns-clause-refuting
returns-clause-refuting c =
    conflict-refutes c.args.self.now c.args.number c.len-len.result c.mark.new.analysis.seen
    c.mark.new.analysis.chain.items c.len-len.ensures c.requires.conflict
    c.in_ok-mark.ensures.marked (c.in_ok-mark.ensures.chain ∙ c.in_ok-begin.ensures.chain)
