use Rattle.invar_find.proofs.Standings.{spares_again}
use Rattle.invar_find.proofs.sifting.sift.Goals as goal

pub returns-then-not-fewer : goal.returns-then-not-fewer
returns-then-not-fewer c = spares_again _ _ _ _ c.loop-round.invariant c.in_ok-fewer.ensures

pub loop-round-preserved : goal.loop-round-preserved
loop-round-preserved c = spares_again _ _ _ _ c.loop-round.invariant c.in_ok-fewer.ensures
