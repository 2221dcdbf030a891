use Rattle.fin_monitor.proofs.Masks.{parts-either}
use Rattle.fin_monitor.proofs.members.either.Goals as goal

pub returns : goal.returns
returns c = parts-either c.args.masks.now c.args.g c.args.h c.at.result.now c.at-2.result.now c.at.ensures c.at-2.ensures
