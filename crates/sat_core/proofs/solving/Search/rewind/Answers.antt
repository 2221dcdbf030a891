use Rattle.std.proofs.Common.{refl}
use Rattle.sat_core.proofs.Rewinding.{sound-back}
use Rattle.sat_core.proofs.solving.Search.rewind.Goals as goal

pub returns-then-not-is_empty-clause-sound : goal.returns-then-not-is_empty-clause-sound
returns-then-not-is_empty-clause-sound c =
    let (level, back) = c.back.ensures.back in
    sound-back c.args.self.now _ level c.requires c.back.ensures.ready back refl refl
    c.len-self.ensures
