use Rattle.std.proofs.Common.{sym, ◌∙◌, true, false}
use Rattle.hy_read.proofs.Passing.{place_step}
use Rattle.hy_read.proofs.variable.last_place.Goals as goal
use Rattle.hy_read.proofs.variable.last_place.Goals.{then-eq, else-eq}

pub loop-i-preserved : goal.loop-i-preserved
loop-i-preserved c =
    elim c.if-eq.branch [
      | then-eq w ↦ w.last-is ∙ place_step c.args.variables.now (λ v. v.now) c.args.bound.now c.loop-i.i _ c.loop-i.last true c.loop-i-test.true c.loop-i.invariant (sym c.eq.ensures ∙ w.if-eq.true)
      | else-eq w ↦ w.last-is ∙ place_step c.args.variables.now (λ v. v.now) c.args.bound.now c.loop-i.i _ c.loop-i.last false c.loop-i-test.true c.loop-i.invariant (sym c.eq.ensures ∙ w.if-eq.false)
    ]
