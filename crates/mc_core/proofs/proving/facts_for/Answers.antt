use Rattle.invar_find.specs.Candidates.{candidates}
use Rattle.std.specs.Prelude.{length}
use Rattle.mc_core.proofs.Usable.{usable}
use Rattle.mc_core.proofs.proving.facts_for.Goals as goal

pub returns-in-Ok-clause-usable : goal.returns-in-Ok-clause-usable
returns-in-Ok-clause-usable c =
    usable c.args.safe.now (candidates (length c.args.safe.now.net.latches)) c.args.ask.now.conflicts
    c.in-Ok.kept c.in-Ok.ensures.kept.part
