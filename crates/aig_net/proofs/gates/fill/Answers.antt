use Rattle.std.proofs.Common.{◌&&◌, ◌∙◌, ap, arith}
use Rattle.aig_net.specs.Nets.{literal_value, and_at}
use Rattle.hy_base.specs.Rows.{row}
use Rattle.aig_net.proofs.GateLemmas.{one-more, first-same}
use Rattle.aig_net.proofs.gates.fill.Goals as goal

pub loop-i-preserved : goal.loop-i-preserved
loop-i-preserved c = (
  one-more _ _ _ _ _ c.requires.ordered c.loop-i-test.true
      (omega (arith, c.requires.room, c.loop-i.auto.values)) c.loop-i.invariant.0
      (ap (λ b. b && c.value_of-right.result) c.value_of-left.ensures
      ∙ ap (λ b. literal_value (row c.loop-i.values)
      (and_at c.args.ands.now c.loop-i.i).left && b) c.value_of-right.ensures),
  first-same _ _ _ _ ∙ c.loop-i.invariant.1,
)
