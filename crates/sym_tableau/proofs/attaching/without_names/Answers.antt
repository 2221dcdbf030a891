use Rattle.std.proofs.Common.{refl}
use Rattle.sym_tableau.proofs.Stepping.{listed-more}
use Rattle.sym_tableau.proofs.attaching.without_names.Goals as goal

pub loop-i-preserved : goal.loop-i-preserved
loop-i-preserved c =
    listed-more c.loop-i.i _ _ c.loop-i.made _ _ refl c.loop-i.invariant c.new.ensures
    c.in_ok-push.ensures.added
