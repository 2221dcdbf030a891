use Rattle.std.proofs.Common.{length}
use Rattle.std.proofs.lemmas.Nat.{or_lt}
use Rattle.fin_monitor.specs.Seen.{machine_of}
use Rattle.dominance.proofs.rejecting.Moves.may_stay_by.Goals as goal

pub step-next-requires-clause-code : goal.step-next-requires-clause-code
step-next-requires-clause-code g c =
    or_lt (length (machine_of c.args.self.now.monitor.now).atoms) c.args.part _ c.requires.part
    (c.requires.codes c.loop-k.k)
