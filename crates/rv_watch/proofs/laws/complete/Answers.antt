use Rattle.rv_watch.proofs.Inputs.{sound-comes}
use Rattle.rv_watch.proofs.laws.complete.Goals as goal

pub returns : goal.returns
returns g c q specs table bytes old new said answer tells sound told watches =
    sound-comes q specs table g.S.Shelf old new tells sound bytes told said answer watches
