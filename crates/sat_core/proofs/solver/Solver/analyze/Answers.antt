use Rattle.std.proofs.Common.{◌≡◌, ◌-◌, suc, [], length, true, false, ℕ, get_or, ◌∙◌, sym, subst, arith}
use Rattle.sat_core.specs.Analyses.{IsAnalysis}
use Rattle.sat_core.proofs.Resolving.{implied-place, unrefuted-below, further-down, refuting-next}
use Rattle.sat_core.proofs.solver.Solver.analyze.Goals as goal

pub resolve-requires-clause-implied : goal.resolve-requires-clause-implied
resolve-requires-clause-implied c =
    let same : c.loop-p.p ≡ suc (c.loop-p.p - 1) = omega (arith, c.loop-p-test.true) in
    let P : ℕ → Type 0 = λ q. IsAnalysis c.args.self.now.partial.literals c.args.start q
    c.loop-p.analysis.seen (length c.loop-p.analysis.lower.items)
    c.loop-p.analysis.unsettled in
    let is : P (suc (c.loop-p.p - 1)) = subst P same c.loop-p.invariant.0 in
    let seen : get_or c.loop-p.analysis.seen (c.loop-p.p - 1) false ≡ true =
    sym c.is_marked.ensures ∙ c.if-is_marked.true in
    implied-place c.args.self.now c.args.start
    (c.loop-p.p - 1) c.loop-p.analysis.seen (length c.loop-p.analysis.lower.items)
    c.loop-p.analysis.unsettled c.requires.ready c.requires.level
    c.requires.last is (omega (arith, c.loop-p-test.true)) seen c.if-analysis-eq1.false

pub prove-unreachable-requires : goal.prove-unreachable-requires
prove-unreachable-requires c = unrefuted-below c.args.self.now c.args.start c.loop-p.p
    c.loop-p.analysis.seen c.loop-p.analysis.chain.items c.requires.ready c.requires.level
    c.requires.last c.loop-p-test.false c.loop-p.invariant.1

pub loop-p-preserved : goal.loop-p-preserved
loop-p-preserved c =
    further-down c.args.self.now.clauses c.args.self.now.partial.literals c.args.start c.loop-p.p
    [] c.loop-p.analysis.seen (length c.loop-p.analysis.lower.items) c.loop-p.analysis.unsettled c.loop-p.analysis.chain.items
    (omega (arith, c.loop-p-test.true))
    (sym c.is_marked.ensures ∙ c.if-is_marked.false) c.loop-p.invariant.0
    c.loop-p.invariant.1

pub loop-p-preserved-in-Continue-branch-2 : goal.loop-p-preserved-in-Continue-branch-2
loop-p-preserved-in-Continue-branch-2 c = (
  c.in_ok-resolve.ensures.is,
  c.in_ok-resolve.ensures.refuting []
      (refuting-next _ _ _ [] _ c.loop-p.analysis.chain.items (omega (arith, c.loop-p-test.true))
      c.loop-p.invariant.1),
)
