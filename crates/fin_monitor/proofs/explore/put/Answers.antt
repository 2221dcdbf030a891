use Rattle.fin_monitor.proofs.Puts.{puts-family}
use Rattle.fin_monitor.proofs.explore.put.Goals as goal

pub returns : goal.returns
returns g c = puts-family _ _ _ _ c.in_ok-place.ensures.keys c.in_ok-place.ensures.within c.in_ok-place.ensures.stored
