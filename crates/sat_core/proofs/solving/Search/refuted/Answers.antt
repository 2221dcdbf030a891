use Rattle.std.proofs.Common.{refl}
use Rattle.sat_core.proofs.Searching.{refuted-outcome}
use Rattle.sat_core.proofs.solving.Search.refuted.Goals as goal

pub returns : goal.returns
returns c variables given conflicts is = refuted-outcome variables given conflicts
    c.args.self.now.solver c.args.log c.push.new.self c.in_ok-entry.entry c.in_ok-entry.entry.chain
    is c.in_ok-entry.ensures.refuted c.in_ok-push.ensures.added c.in_ok-entry.ensures.empty refl
