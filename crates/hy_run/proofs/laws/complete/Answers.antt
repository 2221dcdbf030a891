use Rattle.std.proofs.Common.{[], refl}
use Rattle.hy_run.proofs.Settled.{answers_texts}
use Rattle.hy_run.proofs.laws.complete.Goals as goal

pub returns : goal.returns
returns g c settled question files contents given names others answer long gave texts decides =
    answers_texts g.T.Tool.rules settled question files contents given [] contents [] names others answer long refl gave texts decides
