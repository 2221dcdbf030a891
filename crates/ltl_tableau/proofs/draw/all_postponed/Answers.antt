use Rattle.std.proofs.Common.{sym, ◌∙◌}
use Rattle.ltl_tableau.proofs.Drawing.{postponed-more, postponed-same}
use Rattle.ltl_tableau.proofs.draw.all_postponed.Goals as goal
use Rattle.ltl_tableau.proofs.draw.all_postponed.Goals.{then-postpones+in_ok-push, else-postpones}

pub loop-k-preserved : goal.loop-k-preserved
loop-k-preserved g c =
    elim c.if-postpones.branch [
      | then-postpones+in_ok-push w ↦
          postponed-more c.args.c.now.nodes c.args.branch.now c.loop-k.k c.loop-k.list c.if-postpones.list c.loop-k.invariant (w.list-is ∙ w.in_ok-push.ensures.added) (sym c.postpones.ensures ∙ w.if-postpones.true)
      | else-postpones w ↦
          postponed-same c.args.c.now.nodes c.args.branch.now c.loop-k.k c.loop-k.list c.if-postpones.list c.loop-k.invariant w.list-is (sym c.postpones.ensures ∙ w.if-postpones.false)
    ]
