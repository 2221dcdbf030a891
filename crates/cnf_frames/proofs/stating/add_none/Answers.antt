use Rattle.std.proofs.Common.{◌∙◌, ap}
use Rattle.std.specs.Prelude.{neg_ℤ}
use Rattle.cnf_frames.specs.Queries.{literal_in}
use Rattle.cnf_frames.proofs.Adding.{none_more}
use Rattle.cnf_frames.proofs.stating.add_none.Goals as goal

pub loop-l-preserved : goal.loop-l-preserved
loop-l-preserved c = (
  c.add_alone_where.ensures.variables ∙ c.loop-l.invariant.0,
  none_more _ _ _ c.args.d (λ k. neg_ℤ (literal_in c.args.net.now 1 k)) c.args.literals.now
      c.loop-l.l-index _ c.loop-l-test.true c.loop-l.invariant.1
      (c.opposite.ensures.number ∙ ap neg_ℤ c.latch_literal_number-literal.ensures.number)
      c.in_ok-add_alone_where.ensures.added,
)
