use Rattle.std.proofs.Common.{ap, ◌∙◌}
use Rattle.std.proofs.lemmas.List.{get_or_default}
use Rattle.cnf_frames.specs.declared.facts.Fact.TheVariants.{Zero}
use Rattle.cnf_frames.specs.Counts.{one_failing}
use Rattle.cnf_frames.specs.Facts.{fact_at}
use Rattle.cnf_frames.proofs.Capping.{capped_more}
use Rattle.cnf_frames.proofs.counts.failing_literals.Goals as goal

pub loop-fact-preserved : goal.loop-fact-preserved
loop-fact-preserved c =
    capped_more (λ i. one_failing (fact_at c.args.facts.now i)) c.loop-fact.fact-index
    c.loop-fact.literals c.one_failing.result c.capped-literals.result c.loop-fact.invariant
    (c.one_failing.ensures.count ∙ ap one_failing (c.fact-item.is ∙ get_or_default c.args.facts.now
    c.loop-fact.fact-index c.fact-item.result (Zero 0) c.loop-fact-test.true))
    c.capped-literals.ensures
