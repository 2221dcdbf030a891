use Rattle.std.proofs.Common.{refl}
use Rattle.sym_tableau.proofs.Stepping.{listed-more}
use Rattle.sym_tableau.proofs.attaching.nexts.Goals as goal

pub loop-o-preserved : goal.loop-o-preserved
loop-o-preserved c =
    listed-more c.loop-o.o _ _ c.loop-o.made _ _ refl c.loop-o.invariant c.oracle.ensures
    c.in_ok-push.ensures.added
