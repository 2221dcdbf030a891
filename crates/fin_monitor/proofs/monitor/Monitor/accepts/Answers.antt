use Rattle.std.proofs.Common.{false, sym}
use Rattle.std.proofs.lemmas.Option.{get_or_from_slice_get}
use Rattle.fin_monitor.specs.Seen.{machine_of}
use Rattle.fin_monitor.proofs.Running.{accepts-meets}
use Rattle.fin_monitor.proofs.monitor.Monitor.accepts.Goals as goal

pub at-requires : goal.at-requires
at-requires c = c.requires

pub returns-clause-accepting : goal.returns-clause-accepting
returns-clause-accepting c = sym (get_or_from_slice_get c.args.self.now.accepting c.args.q _ false c.at.ensures)

pub returns-clause-meets : goal.returns-clause-meets
returns-clause-meets c rule tuple some at =
    accepts-meets (machine_of c.args.self.now) c.args.self.now.right rule tuple some c.args.q c.at.result.now (sym (get_or_from_slice_get c.args.self.now.accepting c.args.q _ false c.at.ensures)) at
