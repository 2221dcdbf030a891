use Rattle.std.proofs.Common.{refl}
use Rattle.sat_core.proofs.Assuming.{sound-decided}
use Rattle.sat_core.proofs.solving.Search.assume.Goals as goal

pub returns-clause-sound : goal.returns-clause-sound
returns-clause-sound c =
    sound-decided c.args.self.now _ c.args.l c.decide.result c.requires.sound c.requires.done
    c.decide.ensures.ready c.decide.ensures.clauses c.decide.ensures.limits c.decide.ensures.pushed refl
