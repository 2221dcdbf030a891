use Rattle.std.proofs.Common.{[], length, sym, ◌∙◌}
use Rattle.sat_core.proofs.Resolving.{further-down, refuting-next}
use Rattle.sat_core.proofs.solver.Solver.refute.Goals as goal

pub loop-p-preserved : goal.loop-p-preserved
loop-p-preserved c =
    further-down c.args.self.now.clauses c.args.self.now.partial.literals 0 c.loop-p.p []
    c.loop-p.analysis.seen (length c.loop-p.analysis.lower.items)
    c.loop-p.analysis.unsettled c.loop-p.analysis.chain.items c.loop-p-test.true
    (sym c.is_marked.ensures ∙ c.if-is_marked.false) c.loop-p.invariant.0
    c.loop-p.invariant.1

pub loop-p-preserved-in-Continue-branch-2 : goal.loop-p-preserved-in-Continue-branch-2
loop-p-preserved-in-Continue-branch-2 c = (
  c.in_ok-resolve.ensures.is,
  c.in_ok-resolve.ensures.refuting []
      (refuting-next _ _ _ [] _ c.loop-p.analysis.chain.items c.loop-p-test.true
      c.loop-p.invariant.1),
)
