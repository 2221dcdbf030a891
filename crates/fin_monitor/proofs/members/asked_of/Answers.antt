use Rattle.std.proofs.Common.{sym, ap, ◌∙◌}
use Rattle.std.specs.FinSet.{contains}
use Rattle.fin_monitor.specs.Duties.{Duty}
use Rattle.fin_monitor.proofs.Masks.{below-has, below-not}
use Rattle.fin_monitor.proofs.members.asked_of.Goals as goal
use Rattle.fin_monitor.proofs.members.asked_of.Goals.{then-has, else-has+else-has-2}

pub loop-k-preserved : goal.loop-k-preserved
loop-k-preserved g c =
    elim c.if-has.branch [
      | then-has w ↦ rw w.mask-is (below-has c.args.masks.now c.args.d.now c.loop-k.k c.loop-k.mask w.at.result.now c.loop-k.invariant w.at.ensures)
      | else-has+else-has-2 w ↦
          rw w.mask-is
          (below-not c.args.masks.now c.args.d.now c.loop-k.k c.loop-k.mask c.loop-k.invariant
          (ap (λ (d : Duty). contains d.strong c.loop-k.k) (sym c.d.view_is) ∙ sym c.has.ensures ∙ w.if-has.false)
          (ap (λ (d : Duty). contains d.weak c.loop-k.k) (sym c.d.view_is) ∙ sym w.has-else-has.ensures ∙ w.if-has-2.false))
    ]
