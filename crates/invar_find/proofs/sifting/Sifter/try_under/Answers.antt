use Rattle.invar_find.proofs.Standings.{spares_again}
use Rattle.invar_find.proofs.sifting.Sifter.try_under.Goals as goal

pub returns-clause-spares : goal.returns-clause-spares
returns-clause-spares c = spares_again _ _ _ _ c.in_ok-broken.ensures c.in_ok-walk.ensures.spares
